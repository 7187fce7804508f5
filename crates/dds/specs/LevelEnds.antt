-- The bytes of levels.
use Rattle.std.specs.Prelude.{ℕ, ◌+◌, ◌*◌, ◌≤◌, List, [], ◌∷◌}
use Rattle.dds.specs.declared.level.Level.{Level}

-- the bytes of one image of the level
abbrev pub piece_length : Level → ℕ
piece_length l = l.row_bytes * l.rows

-- where the level ends in its element: behind its slices
abbrev pub level_end : Level → ℕ
level_end l = l.begin + l.slices * piece_length l

-- the bytes of all levels of a list
abbrev pub total_of : List Level → ℕ
total_of [] = 0
total_of (l ∷ ls) = l.slices * piece_length l + total_of ls

-- each level of a list has a slice
abbrev pub Sliced : List Level → Type 0
Sliced [] = Unit {0}
Sliced (l ∷ ls) = (1 ≤ l.slices) × Sliced ls
