use Rattle.std.proofs.Common.{ℕ, ◌+◌, ◌*◌, List, sum_by}
use Rattle.dds.specs.declared.level.Level.{Level}
use Rattle.dds.proofs.walk.+element_step_level_step.Given as goal

-- the pieces of an element that has these levels
abbrev pub slices_of : List Level → ℕ
slices_of = sum_by (λ (l : Level). l.slices)

-- the pieces left to walk over, and a step more for each hand-over
abbrev pub decreases-element_step : goal.decreases-element_step
decreases-element_step l = l.elements_left * (slices_of l.levels.now + 2)

abbrev pub decreases-level_step : goal.decreases-level_step
decreases-level_step l = l.elements_left * (slices_of l.levels.now + 2) + slices_of l.levels_left.now + 1
