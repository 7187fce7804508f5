use Rattle.std.proofs.Common.{rules}
use Rattle.shelf.proofs.Runs.{slid_off}
use Rattle.shelf.proofs.Shelf.take_off.Goals as goal

pub returns-clause-items : goal.returns-clause-items
returns-clause-items g c = rw (← c.self.view_is, c.move_down.ensures) (search (rules, slid_off))
