use Rattle.painters.proofs.Painters.{OwedAt}
use Rattle.painters.proofs.Journal.owed_from.Given as goal

abbrev pub invariant-loop-position : goal.invariant-loop-position
invariant-loop-position l = OwedAt l.self.calls.now l.self.answers.now l.loan l.from l.position l.owed
