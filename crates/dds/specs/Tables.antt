-- The table of a file's levels.
use Rattle.std.specs.Prelude.{◌≡◌, ℕ, ◌<◌, ◌≤◌, List, length, slice_index_or}
use Rattle.formats.specs.declared.extent.Extent.{Extent}
use Rattle.dds.specs.declared.level.Level.{Level}
use Rattle.dds.specs.declared.sides.Sides.{Sides}
use Rattle.dds.specs.Levels.{side_at}
use Rattle.dds.specs.Plans.{size_at, begin_at}

-- an entry behind the last level
abbrev pub blank : Level
blank = record { width = 0; height = 0; slices = 0; row_bytes = 0; rows = 0; begin = 0 }

-- the sides that a format is asked about
pub record InRange (s : Sides) : Type 0 where
  pub some_width : 1 ≤ s.width
  pub few_width : s.width ≤ 16384
  pub some_height : 1 ≤ s.height
  pub few_height : s.height ≤ 16384
  pub some_depth : 1 ≤ s.depth
  pub few_depth : s.depth ≤ 16384

-- a level by the rules
abbrev pub level_at : (ℕ → ℕ → ℕ) → (ℕ → ℕ → ℕ) → Sides → ℕ → Level
level_at row_bytes rows s level =
    record {
      width = side_at s.width level;
      height = side_at s.height level;
      slices = side_at s.depth level;
      row_bytes = row_bytes (side_at s.width level) (side_at s.height level);
      rows = rows (side_at s.width level) (side_at s.height level);
      begin = begin_at (side_at s.depth) (size_at row_bytes rows s.width s.height) level;
    }

-- the levels of an element, from its first on, are those of the rules, and so many bytes together
pub record IsChain (row_bytes rows : ℕ → ℕ → ℕ) (s : Sides) (ls : List Level) (bytes' : ℕ) : Type 0 where
  pub level : (k : ℕ) → k < length ls → slice_index_or ls k blank ≡ level_at row_bytes rows s k
  pub bytes : bytes' ≡ begin_at (side_at s.depth) (size_at row_bytes rows s.width s.height) (length ls)

-- a level with such an extent, such sides and such a begin
abbrev pub level_with : Extent → Sides → ℕ → Level
level_with extent s start =
    record { width = s.width; height = s.height; slices = s.depth; row_bytes = extent.row_bytes; rows = extent.rows; begin = start }
