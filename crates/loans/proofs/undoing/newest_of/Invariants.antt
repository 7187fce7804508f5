use Rattle.std.proofs.Common.{◌≡◌, length, take}
use Rattle.loans.proofs.NewestMark.{Unfound}
use Rattle.loans.proofs.undoing.newest_of.Given as goal

-- the marks that are left stand first, and none of those passed is the loan's
abbrev pub invariant-loop-left : goal.invariant-loop-left
invariant-loop-left l = (l.left ≡ take (length l.left) l.marks) × Unfound l.marks l.loan (length l.left) l.begin

abbrev pub decreases-loop-left : goal.decreases-loop-left
decreases-loop-left l = length l.left
