use Rattle.std.proofs.Common.{rules}
use Rattle.shelf.proofs.Runs.{slid_within}
use Rattle.shelf.proofs.Shelf.slide.Goals as goal

pub returns-clause-items : goal.returns-clause-items
returns-clause-items g c = rw (← c.self.view_is, c.move_down.ensures) (search (rules, slid_within))
