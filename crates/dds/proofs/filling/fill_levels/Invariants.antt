use Rattle.std.proofs.Common.{◌≡◌, ℕ, ◌<◌, get_or}
use Rattle.dds.specs.Levels.{side_at}
use Rattle.dds.specs.Plans.{size_at, begin_at}
use Rattle.dds.specs.Tables.{level_at, blank}
use Rattle.dds.proofs.Begins.{sides_at}
use Rattle.dds.proofs.filling.fill_levels.Given as goal

-- the first levels stand in the table, and the next begins behind them
abbrev pub invariant-loop-level : goal.invariant-loop-level
invariant-loop-level g l =
    (l.sides ≡ sides_at l.initial.sides l.level-index)
    × (l.begin ≡ begin_at (side_at l.initial.sides.depth) (size_at (g.F.Family.row_bytes l.family) (g.F.Family.rows l.family) l.initial.sides.width l.initial.sides.height) l.level-index)
    × ((j : ℕ) → j < l.level-index
    → get_or l.level-items j blank ≡ level_at (g.F.Family.row_bytes l.family) (g.F.Family.rows l.family) l.initial.sides j)
