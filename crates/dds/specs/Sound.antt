-- What holds of every layout's table.
use Rattle.std.specs.Prelude.{◌≡◌, ℕ, ◌<◌, ◌≤◌, ◌∷◌, get_or, replicate, slice_index_or}
use Rattle.dds.specs.declared.table.Table.{Table}
use Rattle.dds.specs.LevelEnds.{piece_length}
use Rattle.dds.specs.Plans.{Plan, begin_at, stride_of, end_of}
use Rattle.dds.specs.Tables.{blank}

-- the slices of a level
abbrev pub slices_in : Table → ℕ → ℕ
slices_in t level = (get_or t.levels level blank).slices

-- the bytes of a slice of a level
abbrev pub size_in : Table → ℕ → ℕ
size_in t level = piece_length (slice_index_or t.levels level blank)

-- the plan that a table holds
abbrev pub plan_in : Table → Plan
plan_in t =
    record { elements = t.elements; levels = t.level_count; slices = slices_in t; size = size_in t; begin = t.pixel_begin }

-- levels follow one another from the element's first byte on, and none is empty; elements follow one another from where pixel data
-- begin to where they end, in the file. The empty layout has no elements
pub record Sound (t : Table) : Type 0 where
  pub some_levels : 1 ≤ t.level_count
  pub few_levels : t.level_count ≤ 15
  pub few_elements : t.elements ≤ 2048
  pub slices : (k : ℕ) → k < t.level_count → 1 ≤ slices_in t k
  pub sizes : (k : ℕ) → k < t.level_count → 1 ≤ size_in t k
  pub begins : (k : ℕ) → k < t.level_count → (get_or t.levels k blank).begin ≡ begin_at (slices_in t) (size_in t) k
  pub stride : t.stride ≡ stride_of (plan_in t)
  pub ends : t.pixel_end ≡ end_of (plan_in t)
  pub inside : t.pixel_end ≤ t.length
  pub few_bytes : t.length ≤ 1073741824

-- the table of no file: no elements and no bytes. Its one level, of one pixel of one byte, is nobody's
abbrev pub empty_table : Table
empty_table =
    record {
      levels = record { width = 1; height = 1; slices = 1; row_bytes = 1; rows = 1; begin = 0 } ∷ replicate 14 blank;
      level_count = 1;
      elements = 0;
      stride = 1;
      pixel_begin = 0;
      pixel_end = 0;
      length = 0;
    }
