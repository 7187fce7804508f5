-- Where the pieces of a layout stand, and which piece a byte lies in.
use Rattle.std.specs.Prelude.{◌≡◌, ℕ, ◌+◌, ◌-◌, ◌*◌, ◌<◌, ◌≤◌, Bool, cond, ◌&&◌, ◌⊎◌, List, [], ◌∷◌, length, get_or, take, drop, Some, None, Ok, Err, Option, Result, ◌≢◌, nat_lt, slice_index_or}
use Rattle.std.specs.Borrow.{Bor}
use Rattle.refusal.specs.declared.Refusal.{Refusal}
use Rattle.refusal.specs.declared.Refusal.TheVariants.{NoSuchPiece, PastFileEnd, OtherLength}
use Rattle.dds.specs.declared.area.Area.{Area}
use Rattle.dds.specs.declared.layout.Layout.{Layout}
use Rattle.dds.specs.declared.level.Level.{Level}
use Rattle.dds.specs.declared.piece.Piece.{Piece}
use Rattle.dds.specs.declared.table.Table.{Table}
use Rattle.dds.specs.LevelEnds.{piece_length}
use Rattle.dds.specs.Pieces.{Placed, Exists}
use Rattle.dds.specs.Sound.{plan_in, slices_in, size_in}
use Rattle.dds.specs.Layouts.{pieces_in}
use Rattle.dds.specs.Tables.{blank}

-- the entry stands in the list
abbrev pub Stands : List Placed → Placed → Type 0
Stands [] x = ⊥
Stands (y ∷ ys) x = (y ≡ x) ⊎ Stands ys x

-- the byte at a place is one of the piece's: its end is not
abbrev pub Holds : Placed → ℕ → Type 0
Holds x place = (x.place ≤ place) × (place < x.place + x.length)

-- two pieces of a layout that hold one byte are the same piece
abbrev pub Disjoint : List Placed → Type 0
Disjoint ps = (x y : Placed) (place : ℕ) → Stands ps x → Stands ps y → Holds x place → Holds y place → x ≡ y

-- every piece lies between two places
abbrev pub Between : ℕ → ℕ → List Placed → Type 0
Between low high ps = (x : Placed) → Stands ps x → (low ≤ x.place) × (x.place + x.length ≤ high)

-- a piece's place by a table's numbers: behind the elements before its own, the levels before its own and the slices before it
abbrev pub place_with : Table → Level → Piece → ℕ
place_with t l p = t.pixel_begin + p.element * t.stride + l.begin + p.slice * piece_length l

-- a piece's place, length, row bytes and rows, as an area
pub record AreaOf (layout : Layout) (p : Piece) (a : Area) : Type 0 where
  pub stands : Stands (pieces_in layout) (record { piece = p; place = a.place; length = a.length })
  pub row_bytes : a.row_bytes ≡ (get_or layout.table.levels p.level blank).row_bytes
  pub rows : a.rows ≡ (get_or layout.table.levels p.level blank).rows
  pub length : a.length ≡ a.row_bytes * a.rows

-- whether a piece exists, by a table's numbers
abbrev pub exists_in : Table → Piece → Bool
exists_in t p = nat_lt p.element t.elements && (nat_lt p.level t.level_count && nat_lt p.slice (slices_in t p.level))

-- the area of a piece, by a table's numbers
abbrev pub area_in : Table → Piece → Area
area_in t p =
    record {
      place = place_with t (slice_index_or t.levels p.level blank) p;
      length = size_in t p.level;
      row_bytes = (get_or t.levels p.level blank).row_bytes;
      rows = (get_or t.levels p.level blank).rows;
    }

-- the answer to where a piece stands, by a table's numbers
abbrev pub where_in : Table → Piece → Result Area Refusal
where_in t p = cond (exists_in t p) (Ok (area_in t p)) (Err NoSuchPiece)

-- where a piece stands; refused where there is no such piece
abbrev pub WhereIs : Layout → Piece → Result Area Refusal → Type 0
WhereIs layout p (Ok a) = AreaOf layout p a
WhereIs layout p (Err e) = (e ≡ NoSuchPiece) × (Exists (plan_in layout.table) p → ⊥)

-- whose byte stands at a place: a piece and an offset that lead back to it, or none of any piece's
abbrev pub Owner : Layout → ℕ → Option (Piece × ℕ) → Type 0
Owner layout place (Some po) =
    (x : Placed) × (Stands (pieces_in layout) x × (x.piece ≡ po.0) × (x.place + po.1 ≡ place) × (po.1 < x.length))
Owner layout place None = (x : Placed) → Stands (pieces_in layout) x → Holds x place → ⊥

-- refused at or past the file's end
abbrev pub WhoseIs : Layout → ℕ → Result (Option (Piece × ℕ)) Refusal → Type 0
WhoseIs layout place (Ok o) = (place < layout.table.length) × Owner layout place o
WhoseIs layout place (Err e) = (e ≡ PastFileEnd) × (layout.table.length ≤ place)

-- what holds of every layout: a piece exists exactly where element, level and slice are in range; two different pieces share no
-- byte; all lie in the file; each byte of the pixel data lies in a piece; and the bytes of each piece lead to it
pub record Tiled (layout : Layout) : Type 0 where
  pub exists : (p : Piece) → Exists (plan_in layout.table) p → (x : Placed) × (Stands (pieces_in layout) x × (x.piece ≡ p))
  pub only : (x : Placed) → Stands (pieces_in layout) x → Exists (plan_in layout.table) x.piece
  pub disjoint : Disjoint (pieces_in layout)
  pub inside : Between layout.table.pixel_begin layout.table.length (pieces_in layout)
  pub covered : (place : ℕ) → layout.table.pixel_begin ≤ place → place < layout.table.pixel_end
      → (x : Placed) × (Stands (pieces_in layout) x × Holds x place)
  pub leads : (x : Placed) (place : ℕ) → Stands (pieces_in layout) x → Holds x place
      → (r : Result (Option (Piece × ℕ)) Refusal) → WhoseIs layout place r → r ≡ Ok (Some (x.piece, place - x.place))

-- the bytes of a piece, as a part of a file of the layout's length
abbrev pub Shown : Layout → List ℕ → Piece → Result (Bor (List ℕ)) Refusal → Type 0
Shown layout file p (Ok part) =
    (length file ≡ layout.table.length)
    × ((a : Area) × (AreaOf layout p a × (part.now ≡ take a.length (drop a.place file)) × (length part.now ≡ a.length)))
Shown layout file p (Err e) =
    ((length file ≢ layout.table.length) → e ≡ OtherLength)
    × (length file ≡ layout.table.length → (e ≡ NoSuchPiece) × (Exists (plan_in layout.table) p → ⊥))
