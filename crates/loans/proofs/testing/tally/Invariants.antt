use Rattle.loans.proofs.Tallying.{Passed}
use Rattle.loans.proofs.testing.tally.Given as goal

abbrev pub invariant-loop-mark : goal.invariant-loop-mark
invariant-loop-mark l = Passed l.loans l.marks l.covered l.mark-index l.left l.counts
