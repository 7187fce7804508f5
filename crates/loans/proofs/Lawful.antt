-- Where the pieces of a layout's table lie.
use Rattle.std.proofs.Common.{◌≡◌, ℕ, ◌+◌, ◌*◌, ◌<◌, ◌≤◌, true, refl, ap}
use Rattle.std.proofs.lemmas.Bool.{and_parts, ltb-true}
use Rattle.dds.specs.declared.layout.Layout.{Layout}
use Rattle.dds.specs.declared.piece.Piece.{Piece}
use Rattle.dds.specs.declared.table.Table.{Table}
use Rattle.dds.specs.Pieces.{Placed, Exists}
use Rattle.dds.specs.Places.{exists_in, area_in, AreaOf}
use Rattle.dds.specs.Sound.{plan_in}
use Rattle.dds.proofs.Placing.{tiled, entry_stands}

-- the byte at a place is one of the piece's
abbrev pub Within : Table → Piece → ℕ → Type 0
Within t p place = ((area_in t p).place ≤ place) × (place < (area_in t p).place + (area_in t p).length)

-- the pieces lie in a file of n bytes, row after row, and no byte lies in two
pub record Lawful (t : Table) (n : ℕ) : Type 0 where
  pub inside : (p : Piece) → exists_in t p ≡ true → (area_in t p).place + (area_in t p).length ≤ n
  pub rows : (p : Piece) → (area_in t p).length ≡ (area_in t p).row_bytes * (area_in t p).rows
  pub apart : (p q : Piece) (place : ℕ) → exists_in t p ≡ true → exists_in t q ≡ true → Within t p place → Within t q place → p ≡ q

exists_parts : (t : Table) (p : Piece) → exists_in t p ≡ true → Exists (plan_in t) p
exists_parts t p e =
    let a = and_parts _ _ e in
    let b = and_parts _ _ a.1 in
    (ltb-true _ _ a.0, ltb-true _ _ b.0, ltb-true _ _ b.1)

pub lawful : (y : Layout) → Lawful y.table y.table.length
lawful y =
    let is_at = entry_stands y.table y.sound in
    record {
      inside = λ p e. ((tiled y).inside _ (is_at p (exists_parts y.table p e))).1;
      rows = λ p. refl;
      apart = λ p q place e f v w.
          ap (λ (x : Placed). x.piece)
          ((tiled y).disjoint _ _ place (is_at p (exists_parts y.table p e)) (is_at q (exists_parts y.table q f)) v w);
    }

-- the area of a piece by the table's numbers is that of the piece in the list
pub listed_area : (y : Layout) (p : Piece) → exists_in y.table p ≡ true → AreaOf y p (area_in y.table p)
listed_area y p e =
    record { stands = entry_stands y.table y.sound p (exists_parts y.table p e); row_bytes = refl; rows = refl; length = refl }
