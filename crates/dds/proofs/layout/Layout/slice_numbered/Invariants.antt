use Rattle.std.proofs.Common.{◌≡◌, ◌+◌, get_or}
use Rattle.dds.specs.Counts.{count_at}
use Rattle.dds.specs.Tables.{blank}
use Rattle.dds.proofs.layout.Layout.slice_numbered.Given as goal

-- the pieces of the levels passed, and what is left of the number
abbrev pub invariant-loop-position : goal.invariant-loop-position
invariant-loop-position l = l.number ≡ count_at (λ k. (get_or l.self.table.levels k blank).slices) l.position + l.left
