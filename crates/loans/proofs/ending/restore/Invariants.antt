use Rattle.std.proofs.Common.{◌≡◌, length, take}
use Rattle.loans.proofs.Restored.{Back}
use Rattle.loans.proofs.ending.restore.Given as goal

-- the marks that are left stand first, and from there on all is put back
abbrev pub invariant-loop-mark : goal.invariant-loop-mark
invariant-loop-mark l =
    (l.mark-iterator.iter.rest.now ≡ take (length l.mark-iterator.iter.rest.now) l.marks)
    × Back l.marks l.covered l.initial.file l.file l.loan (length l.mark-iterator.iter.rest.now) l.end
