-- When a file is accepted, and what its layout then is.
use Rattle.std.specs.Prelude.{◌≡◌, ℕ, ◌<◌, cond, List, Some, None, Ok, Err, Option, Result, nat_lt, slice_index_or}
use Rattle.refusal.specs.declared.Refusal.{Refusal}
use Rattle.refusal.specs.declared.Refusal.TheVariants.{UnknownFormat, WrongEnd}
use Rattle.formats.specs.declared.format_name.FormatName.{FormatName}
use Rattle.formats.specs.Extents.{row_bytes_of, rows_of}
use Rattle.dds.specs.declared.header.Header.{Header}
use Rattle.dds.specs.declared.shape.Shape.{Shape}
use Rattle.dds.specs.declared.table.Table.{Table}
use Rattle.dds.specs.declared.sides.Sides.{Sides}
use Rattle.dds.specs.declared.layout.Layout.{Layout}
use Rattle.dds.specs.declared.origin.Origin.{Origin}
use Rattle.dds.specs.declared.source.FormatSource.{FormatSource}
use Rattle.dds.specs.Readings.{Reading, MayEnd}
use Rattle.dds.specs.Sources.{source_of}
use Rattle.dds.specs.Headers.{header_of, header_read, header_name}
use Rattle.dds.specs.Levels.{levels_of}
use Rattle.dds.specs.Shapes.{shape_of, elements_of, depth_of, shape_read}
use Rattle.dds.specs.Plans.{plan_of, pixel_begin, stride_of, end_of}
use Rattle.dds.specs.Tables.{level_at, blank}
use Rattle.dds.specs.Pieces.{Placed, FitsPlan, pieces_of}
use Rattle.dds.specs.Sound.{plan_in}

-- the sides of a header's first level
abbrev pub sides_of : Header → Shape → Sides
sides_of h shape = record { width = h.width; height = h.height; depth = depth_of shape }

-- the table of a file, entry by entry
pub record TableOf (h : Header) (shape : Shape) (row_bytes rows : ℕ → ℕ → ℕ) (n : ℕ) (t : Table) : Type 0 where
  pub levels : (k : ℕ) → k < 15 → slice_index_or t.levels k blank ≡ cond (nat_lt k (levels_of h)) (level_at row_bytes rows (sides_of h shape) k) blank
  pub count : t.level_count ≡ levels_of h
  pub elements : t.elements ≡ elements_of shape
  pub stride : t.stride ≡ stride_of (plan_of h shape row_bytes rows)
  pub begin : t.pixel_begin ≡ pixel_begin h
  pub end : t.pixel_end ≡ end_of (plan_of h shape row_bytes rows)
  pub length : t.length ≡ n

-- what a layout was made from
abbrev pub origin_of : Header → Shape → FormatSource → Origin
origin_of h shape source = record { header = h; shape = shape; source = source }

-- the pieces of a layout, in the order of the file
abbrev pub pieces_in : Layout → List Placed
pieces_in layout = pieces_of (plan_in layout.table)

-- a list of pieces fits what is read of a file and a family's two functions: the header has a shape, and the list has exactly the
-- pieces of that shape and its levels, in order, each of its length, from where pixel data begin to where the last may end
pub record Fits (x : Reading) (row_bytes rows : ℕ → ℕ → ℕ) (ps : List Placed) : Type 0 where
  pub shape : Shape
  pub has : shape_of (header_of x.head) ≡ Some shape
  pub end : ℕ
  pub ends : MayEnd x end
  pub fits : FitsPlan (plan_of (header_of x.head) shape row_bytes rows) end ps

-- the refusal that a result carries, if any
abbrev pub err_of : Result Shape Refusal → Option Refusal
err_of (Err e) = Some e
err_of (Ok s) = None

-- that of the header, else that of the shape
abbrev pub first_refusal : Result Header Refusal → Option Refusal
first_refusal (Err e) = Some e
first_refusal (Ok h) = err_of (shape_read h)

-- the first refusal that applies to what is read of a file before its pieces are looked at: length, first bytes, sizes of the
-- header, extended header, shape, range, levels
abbrev pub refusal_of : Reading → Option Refusal
refusal_of x = first_refusal (header_read x)

-- an accepted file: nothing refuses it, the layout's pieces fit, and no other list does; the layout has the table and the origin
pub record Accepted (x : Reading) (source : FormatSource) (row_bytes rows : ℕ → ℕ → ℕ) (layout : Layout) : Type 0 where
  pub free : refusal_of x ≡ None
  pub fits : Fits x row_bytes rows (pieces_in layout)
  pub alone : (ps : List Placed) → Fits x row_bytes rows ps → ps ≡ pieces_in layout
  pub shape : Shape
  pub has : shape_of (header_of x.head) ≡ Some shape
  pub table : TableOf (header_of x.head) shape row_bytes rows x.length layout.table
  pub origin : layout.origin ≡ Some (origin_of (header_of x.head) shape source)

-- a refusal before the pieces are looked at; else no list of pieces fits
abbrev pub Turned : Option Refusal → Refusal → Type 0 → Type 0
Turned (Some d) e P = e ≡ d
Turned None e P = (e ≡ WrongEnd) × P

-- what opening answers for what is read of a file, a format from there and its family's two functions
abbrev pub Opened : Reading → FormatSource → (ℕ → ℕ → ℕ) → (ℕ → ℕ → ℕ) → Result Layout Refusal → Type 0
Opened x source row_bytes rows (Ok layout) = Accepted x source row_bytes rows layout
Opened x source row_bytes rows (Err e) = Turned (refusal_of x) e ((ps : List Placed) → Fits x row_bytes rows ps → ⊥)

-- what opening answers where the header names that format, or none that is known
abbrev pub OpenedAs : Reading → FormatSource → Option FormatName → Result Layout Refusal → Type 0
OpenedAs x source None r = r ≡ Err UnknownFormat
OpenedAs x source (Some name) r = Opened x source (row_bytes_of name) (rows_of name) r

-- what opening answers where the header was read so
abbrev pub OpenedIn : Reading → (ℕ → Option FormatName) → Result Header Refusal → Result Layout Refusal → Type 0
OpenedIn x names (Err e) r = r ≡ Err e
OpenedIn x names (Ok h) r = OpenedAs x (source_of h) (header_name names h) r

-- what opening answers with a table of the codes other than DX10: an unknown format is refused right after the header, and
-- every other file is opened with the format that the header names
abbrev pub OpenedBy : Reading → (ℕ → Option FormatName) → Result Layout Refusal → Type 0
OpenedBy x names r = OpenedIn x names (header_read x) r
