use Rattle.std.proofs.Common.{◌≡◌, ◌≤◌, length, filter, take, nat_le}
use Rattle.dds.specs.declared.level.Level.{Level}
use Rattle.dds.proofs.layout.Layout.level_holding.Given as goal

abbrev pub invariant-loop-level : goal.invariant-loop-level
invariant-loop-level l = (l.begun ≡ length (filter (λ (m : Level). nat_le m.begin l.fn.offset) (take l.level-index l.level-items))) × (l.begun ≤ l.level-index)
