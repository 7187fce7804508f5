-- Where the pieces of a sound table stand.
use Rattle.std.proofs.Common.{◌≡◌, ℕ, ◌+◌, ◌-◌, ◌*◌, ◌<◌, ◌≤◌, true, get_or, Some, None, Ok, Err, Option, Result, sym, ap, ◌∙◌, subst, arith}
use Rattle.refusal.specs.declared.Refusal.{Refusal}
use Rattle.std.proofs.lemmas.Bool.{cond-true}
use Rattle.std.proofs.lemmas.Bool.Decides.{nat_tests}
use Rattle.dds.specs.declared.layout.Layout.{Layout}
use Rattle.dds.specs.declared.level.Level.{Level}
use Rattle.dds.specs.declared.piece.Piece.{Piece}
use Rattle.dds.specs.declared.table.Table.{Table}
use Rattle.dds.specs.LevelEnds.{piece_length}
use Rattle.dds.specs.Pieces.{Placed, Exists, pieces_of}
use Rattle.dds.specs.Sound.{plan_in, size_in, Sound}
use Rattle.dds.specs.Tables.{blank}
use Rattle.dds.specs.Places.{place_with, exists_in, where_in, Stands, Holds, WhoseIs, Tiled, AreaOf}
use Rattle.dds.specs.Layouts.{pieces_in}
use Rattle.dds.proofs.Fitting.{pieces_fit}
use Rattle.dds.proofs.Tiles.{piece_stands, pieces_between, pieces_disjoint, pieces_cover, lists_stands, stands_lists}

-- a piece's place by the table's own numbers
abbrev pub place_in : Table → Piece → ℕ
place_in t p = place_with t (get_or t.levels p.level blank) p

abbrev pub entry_in : Table → Piece → Placed
entry_in t p = record { piece = p; place = place_in t p; length = size_in t p.level }

module _ (t : Table) (sound : Sound t) where
  pub entry_stands : (p : Piece) → Exists (plan_in t) p → Stands (pieces_of (plan_in t)) (entry_in t p)
  entry_stands p h =
      let a = sym sound.stride in
      let b = sym (sound.begins p.level h.1) in
      subst (λ (x : Placed). Stands (pieces_of (plan_in t)) x)
      (λ i. record { piece = p; place = t.pixel_begin + p.element * a i + b i + p.slice * size_in t p.level; length = size_in t p.level })
      (piece_stands (plan_in t) p h)

  -- it ends in the file
  pub entry_fits : (p : Piece) → Exists (plan_in t) p → place_in t p + size_in t p.level ≤ 1073741824
  entry_fits p h =
      let b = (pieces_between (plan_in t) (entry_in t p) (entry_stands p h)).1 in
      let c = sound.ends in
      let d = sound.inside in
      let e = sound.few_bytes in
      omega arith

-- the byte of a piece is answered by that piece
leads : (layout : Layout) (x : Placed) (place : ℕ) → Stands (pieces_in layout) x → Holds x place
    → (r : Result (Option (Piece × ℕ)) Refusal) → WhoseIs layout place r → r ≡ Ok (Some (x.piece, place - x.place))
leads layout x place st h (Err e) w =
    let high = (pieces_between (plan_in layout.table) x st).1 in
    let c = layout.sound.ends in
    let d = layout.sound.inside in
    let past = w.1 in
    let below = h.1 in
    absurd (omega arith)
leads layout x place st h (Ok None) w = absurd (w.1 x st h)
leads layout x place st h (Ok (Some po)) w =
    let y = w.1.0 in
    let at = w.1.1.2 in
    let small = w.1.1.3 in
    let same = pieces_disjoint (plan_in layout.table) y x place w.1.1.0 st (omega arith, omega arith) h in
    let piece_is : po.0 ≡ x.piece = sym w.1.1.1 ∙ ap (λ (z : Placed). z.piece) same in
    let begin_is = ap (λ (z : Placed). z.place) same in
    let offset-is : po.1 ≡ place - x.place = omega arith in
    λ i. Ok (Some (piece_is i, offset-is i))

-- what holds of every layout
pub tiled : (layout : Layout) → Tiled layout
tiled layout =
    let plan = plan_in layout.table in
    record {
      exists = λ p h. stands_lists (pieces_of plan) p ((pieces_fit plan).every p h);
      only = λ x s. (pieces_fit plan).only x.piece (lists_stands (pieces_of plan) x s);
      disjoint = pieces_disjoint plan;
      inside = λ x s.
          (let b = pieces_between plan x s in
          let high = b.1 in
          let c = layout.sound.ends in
          let d = layout.sound.inside in
          (b.0, omega arith));
      covered = λ place low high. pieces_cover plan place low (let c = layout.sound.ends in omega arith);
      leads = leads layout;
    }

-- a piece that was found in a layout, with its level
pub record Found (layout : Layout) (l : Level) (p : Piece) : Type 0 where
  pub some : p.level < layout.table.level_count
  pub level : l ≡ get_or layout.table.levels p.level blank
  pub element : p.element < layout.table.elements
  pub slice : p.slice < l.slices

module _ {layout : Layout} {l : Level} {p : Piece} (f : Found layout l p) where
  found_exists : Exists (plan_in layout.table) p
  found_exists =
      let b = ap (λ (x : Level). x.slices) f.level in
      let d = f.slice in
      (f.element, f.some, omega arith)

  found_place : place_with layout.table l p ≡ place_in layout.table p
  found_place = ap (λ (x : Level). place_with layout.table x p) f.level

  pub found_fits : place_with layout.table l p ≤ 1073741824
  found_fits =
      let a = entry_fits layout.table layout.sound p found_exists in
      let b = found_place in
      omega arith

  pub found_area : (place length : ℕ) → place ≡ place_with layout.table l p → length ≡ piece_length l
      → AreaOf layout p (record { place = place; length = length; row_bytes = l.row_bytes; rows = l.rows })
  found_area place length e m = record {
    stands =
        subst (λ (x : Placed). Stands (pieces_of (plan_in layout.table)) x)
        (λ i. record { piece = p; place = sym (e ∙ found_place) i; length = sym (m ∙ ap piece_length f.level) i })
        (entry_stands layout.table layout.sound p found_exists);
    row_bytes = ap (λ (x : Level). x.row_bytes) f.level;
    rows = ap (λ (x : Level). x.rows) f.level;
    length = m;
  }

  pub found_where : (place length : ℕ) → place ≡ place_with layout.table l p → length ≡ piece_length l
      → Ok (record { place = place; length = length; row_bytes = l.row_bytes; rows = l.rows }) ≡ where_in layout.table p
  found_where place length e m =
      let h = found_exists in
      let a = h.0 in
      let b = h.1 in
      let c = h.2 in
      let inside : exists_in layout.table p ≡ true = grind (arith, nat_tests) in
      let level = f.level in
      let x = e ∙ found_place in
      let y = m ∙ ap piece_length level in
      (λ i. Ok (record { place = x i; length = y i; row_bytes = (level i).row_bytes; rows = (level i).rows })) ∙ sym (cond-true _ _ _ inside)
