use Rattle.loans.proofs.Leading.{Passed}
use Rattle.loans.proofs.sifting.before_first.Given as goal

abbrev pub invariant-loop-position : goal.invariant-loop-position
invariant-loop-position l = Passed l.marks l.loan l.position l.bytes
