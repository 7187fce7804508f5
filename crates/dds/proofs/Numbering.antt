-- The number of a piece in its plan's list.
use Rattle.std.proofs.Common.{◌≡◌, ℕ, zero, suc, ◌+◌, ◌-◌, ◌*◌, ◌/◌, ◌%◌, ◌<◌, ◌≤◌, List, [], ◌∷◌, ◌++◌, length, Some, None, Option, sym, refl, ap, ◌∙◌, subst, le_refl, add-zero, add-suc, suc-mul, suc-add, div-add-mod', zero-add, arith, length-append, take, drop, map, get_or, add-one, sum_by}
use Rattle.std.proofs.lemmas.List.Sums.{sum_by_more}
use Rattle.dds.specs.Tables.{blank}
use Rattle.std.specs.List.{slice_get}
use Rattle.std.specs.Option.{option_map, unwrap_or}
use Rattle.std.proofs.lemmas.Option.{none-some}
use Rattle.std.proofs.Math.Seq.{drop-nil}
use Rattle.std.proofs.lemmas.Nat.{mod_below, mul-le}
use Rattle.dds.specs.declared.piece.Piece.{Piece}
use Rattle.dds.specs.declared.layout.Layout.{Layout}
use Rattle.dds.specs.declared.level.Level.{Level}
use Rattle.dds.specs.declared.table.Table.{Table}
use Rattle.dds.specs.Sound.{slices_in, size_in, plan_in, Sound}
use Rattle.dds.specs.Plans.{Plan, begin_at, stride_of}
use Rattle.dds.specs.Pieces.{Placed, slices_from, levels_from, elements_from, pieces_of}
use Rattle.dds.specs.Counts.{count_at, piece_numbered}

abbrev pub piece_at : ℕ → ℕ → ℕ → Piece
piece_at e l s = record { element = e; level = l; slice = s }

-- the piece at a number of a list
abbrev pub pick : List Placed → ℕ → Option Piece
pick xs n = option_map (λ (x : Placed). x.piece) (slice_get xs n)

pick_left : (xs ys : List Placed) (n : ℕ) → n < length xs → pick (xs ++ ys) n ≡ pick xs n
pick_left [] ys n h = absurd (omega arith)
pick_left (x ∷ xs) ys zero h = refl
pick_left (x ∷ xs) ys (suc n) h = pick_left xs ys n (omega arith)

pick_right : (xs ys : List Placed) (n : ℕ) → pick (xs ++ ys) (length xs + n) ≡ pick ys n
pick_right [] ys n = ap (pick ys) (zero-add n)
pick_right (x ∷ xs) ys n = ap (λ m. pick (x ∷ (xs ++ ys)) m) (suc-add (length xs) n) ∙ pick_right xs ys n

pick_past : (xs : List Placed) (n : ℕ) → length xs ≤ n → pick xs n ≡ None
pick_past [] n h = refl
pick_past (x ∷ xs) zero h = absurd (omega arith)
pick_past (x ∷ xs) (suc n) h = pick_past xs n (omega arith)

slices_length : (size e l s k here : ℕ) → length (slices_from size e l s k here) ≡ k
slices_length size e l s zero here = refl
slices_length size e l s (suc k) here = ap suc (slices_length size e l (suc s) k (here + size))

slices_pick : (size e l s k here n : ℕ) → n < k → pick (slices_from size e l s k here) n ≡ Some (piece_at e l (s + n))
slices_pick size e l s zero here n h = absurd (omega arith)
slices_pick size e l s (suc k) here zero h = ap (λ m. Some (piece_at e l m)) (sym (add-zero s))
slices_pick size e l s (suc k) here (suc n) h =
    slices_pick size e l (suc s) k (here + size) n (omega arith) ∙ ap (λ m. Some (piece_at e l m)) (suc-add s n ∙ sym (add-suc s n))

module _ (plan : Plan) where
  -- the pieces of the levels before one
  at : ℕ → ℕ
  at level = count_at plan.slices level

  first : ℕ → ℕ → ℕ → List Placed
  first e l here = slices_from (plan.size l) e l 0 (plan.slices l) here

  levels_length : (e l k here : ℕ) → length (levels_from plan e l k here) + at l ≡ at (l + k)
  unfolding at first
  levels_length e l zero here = zero-add (at l) ∙ ap at (sym (add-zero l))
  levels_length e l (suc k) here =
      let r = levels_length e (suc l) k (here + plan.slices l * plan.size l) in
      let s = slices_length (plan.size l) e l 0 (plan.slices l) here in
      let a = length-append (first e l here) (levels_from plan e (suc l) k (here + plan.slices l * plan.size l)) in
      let m = ap at (suc-add l k ∙ sym (add-suc l k)) in
      omega arith

  at_grows : (l j : ℕ) → at (suc l) ≤ at (l + suc j)
  unfolding at
  at_grows l zero = subst (λ n. at (suc l) ≤ at n) (sym (add-suc l 0 ∙ ap suc (add-zero l))) (le_refl (at (suc l)))
  at_grows l (suc j) =
      let r = at_grows l j in
      subst (λ n. at (suc l) ≤ at n) (sym (add-suc l (suc j))) (omega arith)

  levels_pick : (e l k here j s n : ℕ) → j < k → s < plan.slices (l + j) → n + at l ≡ at (l + j) + s
      → pick (levels_from plan e l k here) n ≡ Some (piece_at e (l + j) s)
  unfolding at first
  levels_pick e l zero here j s n h few e' = absurd (omega arith)
  levels_pick e l (suc k) here zero s n h few e' =
      let z = ap at (add-zero l) in
      let m : n ≡ s = omega arith in
      let less : s < plan.slices l = subst (λ i. s < plan.slices i) (add-zero l) few in
      let len = slices_length (plan.size l) e l 0 (plan.slices l) here in
      ap (pick (levels_from plan e l (suc k) here)) m
      ∙ pick_left (first e l here) (levels_from plan e (suc l) k (here + plan.slices l * plan.size l)) s (omega arith)
      ∙ slices_pick (plan.size l) e l 0 (plan.slices l) here s less
      ∙ (λ i. Some (piece_at e (sym (add-zero l) i) (zero-add s i)))
  levels_pick e l (suc k) here (suc j) s n h few e' =
      let grows = at_grows l j in
      let len = slices_length (plan.size l) e l 0 (plan.slices l) here in
      let m : n ≡ length (first e l here) + (n - plan.slices l) = omega arith in
      let same : suc l + j ≡ l + suc j = suc-add l j ∙ sym (add-suc l j) in
      let here' = here + plan.slices l * plan.size l in
      let b = ap at same in
      ap (pick (levels_from plan e l (suc k) here)) m
      ∙ pick_right (first e l here) (levels_from plan e (suc l) k here') (n - plan.slices l)
      ∙ levels_pick e (suc l) k here' j s (n - plan.slices l) (omega arith) (subst (λ i. s < plan.slices i) (sym same) few) (omega arith)
      ∙ ap (λ i. Some (piece_at e i s)) same

  per : ℕ
  per = at plan.levels

  whole_length : (e here : ℕ) → length (levels_from plan e 0 plan.levels here) ≡ per
  unfolding at per
  whole_length e here =
      let a = levels_length e 0 plan.levels here in
      let b = ap at (zero-add plan.levels) in
      omega arith

  elements_length : (e k here : ℕ) → length (elements_from plan e k here) ≡ k * per
  unfolding at per
  elements_length e zero here = omega arith
  elements_length e (suc k) here =
      let a = whole_length e here in
      let r = elements_length (suc e) k (here + stride_of plan) in
      let p = length-append (levels_from plan e 0 plan.levels here) (elements_from plan (suc e) k (here + stride_of plan)) in
      let m = suc-mul k per in
      omega arith

  elements_pick : (e k here i l s n : ℕ) → i < k → l < plan.levels → s < plan.slices l → n ≡ i * per + (at l + s)
      → at l + s < per → pick (elements_from plan e k here) n ≡ Some (piece_at (e + i) l s)
  unfolding at per
  elements_pick e zero here i l s n h few some e' less = absurd (omega arith)
  elements_pick e (suc k) here zero l s n h few some e' less =
      let len = whole_length e here in
      let m : n ≡ at l + s = omega arith in
      let z = ap at (zero-add l) in
      ap (pick (elements_from plan e (suc k) here)) m
      ∙ pick_left (levels_from plan e 0 plan.levels here) (elements_from plan (suc e) k (here + stride_of plan)) (at l + s) (omega arith)
      ∙ levels_pick e 0 plan.levels here l s (at l + s) few (subst (λ i. s < plan.slices i) (sym (zero-add l)) some) (omega arith)
      ∙ (λ i. Some (piece_at (sym (add-zero e) i) (zero-add l i) s))
  elements_pick e (suc k) here (suc i) l s n h few some e' less =
      let len = whole_length e here in
      let p = suc-mul i per in
      let m : n ≡ length (levels_from plan e 0 plan.levels here) + (i * per + (at l + s)) = omega arith in
      ap (pick (elements_from plan e (suc k) here)) m
      ∙ pick_right (levels_from plan e 0 plan.levels here) (elements_from plan (suc e) k (here + stride_of plan)) (i * per + (at l + s))
      ∙ elements_pick (suc e) k (here + stride_of plan) i l s (i * per + (at l + s)) (omega arith) few some refl less
      ∙ ap (λ j. Some (piece_at j l s)) (suc-add e i ∙ sym (add-suc e i))

  pub pieces_length : length (pieces_of plan) ≡ plan.elements * count_at plan.slices plan.levels
  unfolding at per pieces_of
  pieces_length = elements_length 0 plan.elements plan.begin

  pub pieces_pick : (n e l s : ℕ) → e < plan.elements → l < plan.levels → s < plan.slices l
      → n ≡ e * count_at plan.slices plan.levels + (count_at plan.slices l + s) → count_at plan.slices l + s < count_at plan.slices plan.levels
      → pick (pieces_of plan) n ≡ Some (piece_at e l s)
  unfolding at per pieces_of
  pieces_pick n e l s h few some eq less =
      elements_pick 0 plan.elements plan.begin e l s n h few some eq less ∙ ap (λ i. Some (piece_at i l s)) (zero-add e)

  pub pieces_past : (n : ℕ) → plan.elements * count_at plan.slices plan.levels ≤ n → pick (pieces_of plan) n ≡ None
  pieces_past n h = let e = pieces_length in pick_past (pieces_of plan) n (omega arith)

-- where each piece has a byte, an element has no more pieces than bytes
pub count_few : (s z : ℕ → ℕ) (n : ℕ) → ((k : ℕ) → k < n → 1 ≤ z k) → count_at s n ≤ begin_at s z n
count_few s z zero some = le_refl 0
count_few s z (suc n) some =
    let before = count_few s z n (λ k h. some k (omega arith)) in
    let here = mul-le (s n) 1 (s n) (z n) (le_refl (s n)) (some n (omega arith)) in
    omega arith

-- the pieces of a layout are no more than the bytes of its file
pub pieces_few : (layout : Layout) → layout.table.elements * count_at (slices_in layout.table) layout.table.level_count ≤ 1073741824
pieces_few layout =
    let t = layout.table in
    let few = count_few (slices_in t) (size_in t) t.level_count layout.sound.sizes in
    let m = mul-le t.elements (count_at (slices_in t) t.level_count) t.elements (begin_at (slices_in t) (size_in t) t.level_count) (le_refl t.elements) few in
    let a = layout.sound.ends in
    let b = layout.sound.inside in
    let c = layout.sound.few_bytes in
    omega arith

-- the slices of the first levels of a list, as a sum
pub count_sum : (xs : List Level) (n : ℕ) → n ≤ length xs → sum_by (λ (l : Level). l.slices) (take n xs) ≡ count_at (λ k. (get_or xs k blank).slices) n
count_sum xs zero h = refl
count_sum xs (suc n) h =
    subst (λ m. sum_by (λ (l : Level). l.slices) (take m xs) ≡ count_at (λ k. (get_or xs k blank).slices) (suc n)) (add-one n)
    (sum_by_more (λ (l : Level). l.slices) xs n blank (omega arith) ∙ ap (λ m. m + (get_or xs n blank).slices) (count_sum xs n (omega arith)))

count_grows : (s : ℕ → ℕ) (m n : ℕ) → count_at s m ≤ count_at s (n + m)
count_grows s m zero = subst (λ k. count_at s m ≤ count_at s k) (sym (zero-add m)) (le_refl (count_at s m))
count_grows s m (suc n) = let r = count_grows s m n in subst (λ k. count_at s m ≤ count_at s k) (sym (suc-add n m)) (omega arith)

-- the pieces of a level are among those of all levels
count_within : (s : ℕ → ℕ) (k n : ℕ) → k < n → count_at s (suc k) ≤ count_at s n
count_within s k n h =
    let e : n - suc k + suc k ≡ n = omega arith in
    subst (λ m. count_at s (suc k) ≤ count_at s m) e (count_grows s (suc k) (n - suc k))

module _ (t : Table) (sound : Sound t) where
  -- an element has a piece
  pub count_some : 1 ≤ count_at (slices_in t) t.level_count
  count_some =
      let w = count_within (slices_in t) 0 t.level_count sound.some_levels in
      let s = sound.slices 0 sound.some_levels in
      omega arith

  -- a number's piece, by a division and a search in the element
  pub number_pick : (n l s : ℕ) → n / count_at (slices_in t) t.level_count < t.elements → l < t.level_count → s < slices_in t l
      → n % count_at (slices_in t) t.level_count ≡ count_at (slices_in t) l + s
      → pick (pieces_of (plan_in t)) n ≡ Some (piece_at (n / count_at (slices_in t) t.level_count) l s)
  number_pick n l s few level slice rest =
      let per = count_at (slices_in t) t.level_count in
      let d = div-add-mod' n per in
      let m = mod_below n per count_some in
      pieces_pick (plan_in t) n (n / per) l s few level slice (omega arith) (omega arith)

  pub number_past : (n : ℕ) → t.elements ≤ n / count_at (slices_in t) t.level_count → pick (pieces_of (plan_in t)) n ≡ None
  number_past n h =
      let per = count_at (slices_in t) t.level_count in
      let d = div-add-mod' n per in
      let m = mul-le t.elements per (n / per) per h (le_refl per) in
      pieces_past (plan_in t) n (omega arith)

-- the same for a layout, by the number of pieces that an element has
module _ (layout : Layout) (per : ℕ) (all : per ≡ count_at (slices_in layout.table) layout.table.level_count) where
  pub per_some : 0 < per
  per_some = let s = count_some layout.table layout.sound in omega arith

  pub piece_found : (n l s : ℕ) → n / per < layout.table.elements → l < layout.table.level_count → s < slices_in layout.table l
      → n % per ≡ count_at (slices_in layout.table) l + s
      → Some (piece_at (n / per) l s) ≡ piece_numbered layout n
  piece_found n l s few level slice rest =
      ap (λ m. Some (piece_at (n / m) l s)) all
      ∙ sym (number_pick layout.table layout.sound n l s (subst (λ m. n / m < layout.table.elements) all few) level slice
      (subst (λ m. n % m ≡ count_at (slices_in layout.table) l + s) all rest))

  pub piece_none : (n : ℕ) → layout.table.elements ≤ n / per → None ≡ piece_numbered layout n
  piece_none n h = sym (number_past layout.table layout.sound n (subst (λ m. layout.table.elements ≤ n / m) all h))

  -- every number in an element has a piece there
  pub rest_below : (n : ℕ) → count_at (slices_in layout.table) layout.table.level_count ≤ n % per → ⊥
  rest_below n h = let m = mod_below n per per_some in omega arith

-- where a list has an entry at a number, what is left from there on begins with it
pub numbered_left : (xs : List Placed) (n : ℕ) (p : Piece) → option_map (λ (x : Placed). x.piece) (slice_get xs n) ≡ Some p
    → (drop n (map (λ (x : Placed). x.piece) xs) ≡ p ∷ drop (suc n) (map (λ (x : Placed). x.piece) xs)) × (n < length xs)
numbered_left [] n p e = absurd (none-some p e)
numbered_left (x ∷ xs) zero p e = (ap (λ q. q ∷ map (λ (y : Placed). y.piece) xs) (ap (λ (o : Option Piece). unwrap_or o p) e), omega arith)
numbered_left (x ∷ xs) (suc n) p e = let r = numbered_left xs n p e in (r.0, omega arith)

-- else nothing is left
pub numbered_past : (xs : List Placed) (n : ℕ) → option_map (λ (x : Placed). x.piece) (slice_get xs n) ≡ None
    → drop n (map (λ (x : Placed). x.piece) xs) ≡ []
numbered_past [] n e = drop-nil n
numbered_past (x ∷ xs) zero e = absurd (none-some x.piece (sym e))
numbered_past (x ∷ xs) (suc n) e = numbered_past xs n e
