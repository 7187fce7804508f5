-- Which codes name which format, as two tables: one for DXGI codes, one for the other codes.
use Rattle.std.specs.Prelude.{◌≡◌, ℕ, ◌+◌, ◌*◌, ◌≤◌, Bool, cond, ◌&&◌, ◌⊎◌, List, [], ◌∷◌, ◌++◌, map, Some, None, codes, Option, nat_le}
use Prim.Native.String.{String}
use Rattle.formats.specs.declared.format_name.FormatName.{FormatName}
use Rattle.formats.specs.declared.format_name.FormatName.TheVariants.{Linear, Paired, Block}
use Rattle.formats.specs.declared.tables.CodeRange.{CodeRange}

-- a format, with the ranges of codes that name it
pub record Row : Type 0 where
  pub name : FormatName
  pub codes : List (ℕ × ℕ)

-- a row of a table
abbrev row : FormatName → List (ℕ × ℕ) → Row
row n cs = record { name = n; codes = cs }

-- from the first code to the last, both included
infix 70 ◌to◌
abbrev ◌to◌ : ℕ → ℕ → ℕ × ℕ
◌to◌ first last = (first, last)

-- one code alone
abbrev only : ℕ → ℕ × ℕ
only code = (code, code)

-- the number whose bytes these are, the lowest first
abbrev from_bytes : List ℕ → ℕ
from_bytes [] = 0
from_bytes (lowest ∷ rest) = lowest + 256 * from_bytes rest

-- letters as a code: they stand in the file in reading order, and the first byte of a number is the lowest
abbrev letters : String → ℕ × ℕ
letters text = only (from_bytes (codes text))

-- the codes of an extended header
unfoldable pub dxgi_rows : List Row
dxgi_rows =
    row (Linear 128) (1 to 4 ∷ [])
    ∷ row (Linear 96) (5 to 8 ∷ [])
    ∷ row (Linear 64) (9 to 22 ∷ [])
    ∷ row (Linear 32) (23 to 47 ∷ only 67 ∷ 87 to 93 ∷ [])
    ∷ row (Linear 16) (48 to 59 ∷ 85 to 86 ∷ only 115 ∷ [])
    ∷ row (Linear 8) (60 to 65 ∷ [])
    ∷ row (Linear 1) (only 66 ∷ [])
    ∷ row Paired (68 to 69 ∷ [])
    ∷ row (Block 8) (70 to 72 ∷ 79 to 81 ∷ [])
    ∷ row (Block 16) (73 to 78 ∷ 82 to 84 ∷ 94 to 99 ∷ [])
    ∷ []

-- the codes of the pixel format's code field: letters, and a few numbers
unfoldable pub plain_rows : List Row
plain_rows =
    row (Block 8) (map letters ("DXT1" ∷ "BC4U" ∷ "BC4S" ∷ []))
    ∷ row (Block 16) (map letters ("DXT2" ∷ "DXT3" ∷ "DXT4" ∷ "DXT5" ∷ "ATI2" ∷ "BC5S" ∷ []))
    ∷ row Paired (map letters ("RGBG" ∷ "GRGB" ∷ "UYVY" ∷ "YUY2" ∷ []))
    ∷ row (Linear 64) (map only (36 ∷ 110 ∷ 113 ∷ 115 ∷ []))
    ∷ row (Linear 32) (map only (112 ∷ 114 ∷ []))
    ∷ row (Linear 16) (map only (111 ∷ 117 ∷ []))
    ∷ row (Linear 128) (map only (116 ∷ []))
    ∷ []

-- the rows of a table range by range
abbrev pub ranges : List Row → List CodeRange
ranges [] = []
ranges (r ∷ rs) = map (λ c. record { first = c.0; last = c.1; name = r.name }) r.codes ++ ranges rs

-- a range has the code
abbrev pub has_code : ℕ → CodeRange → Bool
has_code code r = nat_le r.first code && nat_le code r.last

-- the name that the first range with the code gives it
unfoldable pub name_in : List CodeRange → ℕ → Option FormatName
name_in [] code = None
name_in (r ∷ rs) code = cond (has_code code r) (Some r.name) (name_in rs code)

-- the name that a table gives a code, if any
abbrev pub name_for : List Row → ℕ → Option FormatName
name_for rows = name_in (ranges rows)

-- some range of the list gives the code that name
abbrev pub Names : List CodeRange → ℕ → FormatName → Type 0
Names [] code name = ⊥
Names (r ∷ rs) code name = ((r.first ≤ code) × (code ≤ r.last) × (r.name ≡ name)) ⊎ Names rs code name

-- no code names two formats, so the order of a table's rows says nothing
abbrev pub Unambiguous : List Row → Type 0
Unambiguous rows = (code : ℕ) (m n : FormatName) → Names (ranges rows) code m → Names (ranges rows) code n → m ≡ n
