-- What an image takes in a family: the bytes of a row and the number of rows.
use Rattle.std.specs.Prelude.{ℕ, ◌+◌, ◌*◌, ◌/◌, ◌≤◌, Bool, cond, ◌&&◌, nat_le}
use Rattle.formats.specs.declared.extent.Extent.{Extent}
use Rattle.formats.specs.declared.format_name.FormatName.{FormatName}
use Rattle.formats.specs.declared.format_name.FormatName.TheVariants.{Linear, Paired, Block}

-- a number is at least 1 and at most so large
abbrev pub within : ℕ → ℕ → Bool
within top n = nat_le 1 n && nat_le n top

-- a side that an image may have
abbrev pub is_side : ℕ → Bool
is_side side = within 16384 side

-- a family's two functions at an image's sides, and nothing where a side is out of range
abbrev pub extent_of : (ℕ → ℕ → ℕ) → (ℕ → ℕ → ℕ) → ℕ → ℕ → Extent
extent_of row_bytes rows width height =
    cond (is_side width && is_side height)
    (record { row_bytes = row_bytes width height; rows = rows width height })
    (record { row_bytes = 0; rows = 0 })

-- what every family keeps to: a row has at least a byte and at most 16 for each pixel, and there is at least a row and at
-- most one for each pixel of the height
pub record Bounded (row_bytes rows : ℕ → ℕ → ℕ) (width height : ℕ) : Type 0 where
  pub some_bytes : 1 ≤ row_bytes width height
  pub few_bytes : row_bytes width height ≤ 16 * width
  pub some_rows : 1 ≤ rows width height
  pub few_rows : rows width height ≤ height

-- the bytes of a row, by the format's name
abbrev pub row_bytes_of : FormatName → ℕ → ℕ → ℕ
row_bytes_of (Linear bits) width height = (width * bits + 7) / 8
row_bytes_of Paired width height = (width + 1) / 2 * 4
row_bytes_of (Block bytes) width height = (width + 3) / 4 * bytes

-- the number of rows, by the format's name
abbrev pub rows_of : FormatName → ℕ → ℕ → ℕ
rows_of (Linear bits) width height = height
rows_of Paired width height = height
rows_of (Block bytes) width height = (height + 3) / 4
