-- A plan has one list of pieces that fits, and it ends where the plan does.
use Rattle.std.proofs.Common.{◌≡◌, ℕ, zero, suc, ◌+◌, ◌*◌, ◌<◌, ◌≤◌, ◌⊎◌, List, [], ◌∷◌, ◌++◌, sym, refl, ap, ◌∙◌, subst, inl, inr, ⊎_elim, add-zero, add_assoc, add-suc, suc-mul, suc-add, zero-add, arith}
use Rattle.std.proofs.lemmas.Bool.{cases_order}
use Rattle.dds.specs.declared.piece.Piece.{Piece}
use Rattle.dds.specs.Plans.{Plan, begin_at, stride_of, end_of}
use Rattle.dds.specs.Pieces.{Placed, Before, Lists, Rising, Sized, Touching, FitsPlan, slices_from, levels_from, elements_from, pieces_of}

lists_left : (xs ys : List Placed) (p : Piece) → Lists xs p → Lists (xs ++ ys) p
lists_left [] ys p h = elim h [ ]
lists_left (x ∷ xs) ys p (inl e) = inl e
lists_left (x ∷ xs) ys p (inr h) = inr (lists_left xs ys p h)

lists_right : (xs ys : List Placed) (p : Piece) → Lists ys p → Lists (xs ++ ys) p
lists_right [] ys p h = h
lists_right (x ∷ xs) ys p h = inr (lists_right xs ys p h)

lists_either : (xs ys : List Placed) (p : Piece) → Lists (xs ++ ys) p → Lists xs p ⊎ Lists ys p
lists_either [] ys p h = inr h
lists_either (x ∷ xs) ys p (inl e) = inl (inl e)
lists_either (x ∷ xs) ys p (inr h) = ⊎_elim (λ a. inl (inr a)) (λ b. inr b) (lists_either xs ys p h)

rising_append : (xs ys : List Placed) → Rising xs → Rising ys
    → ((p q : Piece) → Lists xs p → Lists ys q → Before p q) → Rising (xs ++ ys)
rising_append [] ys rx ry h = ry
rising_append (x ∷ xs) ys rx ry h = (
  λ p l. ⊎_elim (λ a. rx.0 p a) (λ b. h x.piece p (inl refl) b) (lists_either xs ys p l),
  rising_append xs ys rx.1 ry (λ p q a b. h p q (inr a) b),
)

sized_append : (size : ℕ → ℕ) (xs ys : List Placed) → Sized size xs → Sized size ys → Sized size (xs ++ ys)
sized_append size [] ys sx sy = sy
sized_append size (x ∷ xs) ys sx sy = (sx.0, sized_append size xs ys sx.1 sy)

touching_append : (a b c : ℕ) (xs ys : List Placed) → Touching a xs b → Touching b ys c → Touching a (xs ++ ys) c
touching_append a b c [] ys tx ty = subst (λ n. Touching n ys c) (sym tx) ty
touching_append a b c (x ∷ xs) ys tx ty = (tx.0, touching_append (a + x.length) b c xs ys tx.1 ty)

-- the slices of a level
record InSlices (e l s k : ℕ) (p : Piece) : Type 0 where
  element : p.element ≡ e
  level : p.level ≡ l
  low : s ≤ p.slice
  high : p.slice < s + k

slices_only : (size e l s k here : ℕ) (p : Piece) → Lists (slices_from size e l s k here) p → InSlices e l s k p
slices_only size e l s zero here p h = elim h [ ]
slices_only size e l s (suc k) here p (inl q) =
    let a = ap (λ (x : Piece). x.slice) q in
    record { element = sym (ap (λ (x : Piece). x.element) q); level = sym (ap (λ (x : Piece). x.level) q); low = omega arith; high = omega arith }
slices_only size e l s (suc k) here p (inr h) =
    let i = slices_only size e l (suc s) k (here + size) p h in
    let low = i.low in
    let high = i.high in
    record { element = i.element; level = i.level; low = omega arith; high = omega arith }

slices_every : (size e l s k here : ℕ) (p : Piece) → InSlices e l s k p → Lists (slices_from size e l s k here) p
slices_every size e l s zero here p i = let low = i.low in let high = i.high in absurd (omega arith)
slices_every size e l s (suc k) here p i =
    let low = i.low in
    let high = i.high in
    ⊎_elim
    (λ (same : s ≡ p.slice). inl (λ j. record { element = sym i.element j; level = sym i.level j; slice = same j }))
    (⊎_elim
    (λ (less : s < p.slice).
    inr (slices_every size e l (suc s) k (here + size) p (record { element = i.element; level = i.level; low = omega arith; high = omega arith })))
    (λ (more : p.slice < s). absurd (omega arith)))
    (cases_order s p.slice)

slices_rising : (size e l s k here : ℕ) → Rising (slices_from size e l s k here)
slices_rising size e l s zero here = tt
slices_rising size e l s (suc k) here = (
  λ p h.
      let i = slices_only size e l (suc s) k (here + size) p h in
      let low = i.low in
      inr (sym i.element, inr (sym i.level, omega arith)),
  slices_rising size e l (suc s) k (here + size),
)

slices_sized : (size : ℕ → ℕ) (e l s k here : ℕ) → Sized size (slices_from (size l) e l s k here)
slices_sized size e l s zero here = tt
slices_sized size e l s (suc k) here = (refl, slices_sized size e l (suc s) k (here + size l))

slices_touching : (size e l s k here : ℕ) → Touching here (slices_from size e l s k here) (here + k * size)
slices_touching size e l s zero here = omega arith
slices_touching size e l s (suc k) here =
    (refl, subst (λ n. Touching (here + size) (slices_from size e l (suc s) k (here + size)) n) (omega (arith, suc-mul k size)) (slices_touching size e l (suc s) k (here + size)))

-- the levels of an element
record InLevels (plan : Plan) (e l k : ℕ) (p : Piece) : Type 0 where
  element : p.element ≡ e
  low : l ≤ p.level
  high : p.level < l + k
  slice : p.slice < plan.slices p.level

module _ (plan : Plan) where
  -- the slices of one level, and what follows them in the element
  first : ℕ → ℕ → ℕ → List Placed
  first e l here = slices_from (plan.size l) e l 0 (plan.slices l) here

  next : ℕ → ℕ → ℕ
  next l here = here + plan.slices l * plan.size l

  levels_only : (e l k here : ℕ) (p : Piece) → Lists (levels_from plan e l k here) p → InLevels plan e l k p
  unfolding first next
  levels_only e l zero here p h = elim h [ ]
  levels_only e l (suc k) here p h =
      ⊎_elim
      (λ (a : Lists (first e l here) p).
      let i = slices_only (plan.size l) e l 0 (plan.slices l) here p a in
      let level = i.level in
      let high = i.high in
      let few : p.slice < plan.slices l = omega arith in
      record { element = i.element; low = omega arith; high = omega arith; slice = subst (λ n. p.slice < plan.slices n) (sym level) few })
      (λ (b : Lists (levels_from plan e (suc l) k (next l here)) p).
      let i = levels_only e (suc l) k (next l here) p b in
      let low = i.low in
      let high = i.high in
      record { element = i.element; low = omega arith; high = omega arith; slice = i.slice })
      (lists_either (first e l here) (levels_from plan e (suc l) k (next l here)) p h)

  levels_every : (e l k here : ℕ) (p : Piece) → InLevels plan e l k p → Lists (levels_from plan e l k here) p
  unfolding first next
  levels_every e l zero here p i = let low = i.low in let high = i.high in absurd (omega arith)
  levels_every e l (suc k) here p i =
      let low = i.low in
      let high = i.high in
      ⊎_elim
      (λ (same : l ≡ p.level).
      let few : p.slice < plan.slices l = subst (λ n. p.slice < plan.slices n) (sym same) i.slice in
      lists_left (first e l here) (levels_from plan e (suc l) k (next l here)) p
      (slices_every (plan.size l) e l 0 (plan.slices l) here p (record { element = i.element; level = sym same; low = omega arith; high = omega arith })))
      (⊎_elim
      (λ (less : l < p.level).
      lists_right (first e l here) (levels_from plan e (suc l) k (next l here)) p
      (levels_every e (suc l) k (next l here) p (record { element = i.element; low = omega arith; high = omega arith; slice = i.slice })))
      (λ (more : p.level < l). absurd (omega arith)))
      (cases_order l p.level)

  levels_rising : (e l k here : ℕ) → Rising (levels_from plan e l k here)
  unfolding first next
  levels_rising e l zero here = tt
  levels_rising e l (suc k) here =
      rising_append (first e l here) (levels_from plan e (suc l) k (next l here)) (slices_rising (plan.size l) e l 0 (plan.slices l) here)
      (levels_rising e (suc l) k (next l here))
      (λ p q a b.
      let i = slices_only (plan.size l) e l 0 (plan.slices l) here p a in
      let j = levels_only e (suc l) k (next l here) q b in
      let level = i.level in
      let low = j.low in
      inr (i.element ∙ sym j.element, inl (omega arith)))

  levels_sized : (e l k here : ℕ) → Sized plan.size (levels_from plan e l k here)
  unfolding first next
  levels_sized e l zero here = tt
  levels_sized e l (suc k) here =
      sized_append plan.size (first e l here) (levels_from plan e (suc l) k (next l here)) (slices_sized plan.size e l 0 (plan.slices l) here)
      (levels_sized e (suc l) k (next l here))

  -- from where a level begins in its element to where the last one ends
  levels_touching : (e l k start : ℕ) → Touching (start + begin_at plan.slices plan.size l) (levels_from plan e l k (start + begin_at plan.slices plan.size l)) (start + begin_at plan.slices plan.size (l + k))
  unfolding first next
  levels_touching e l zero start = ap (λ n. start + begin_at plan.slices plan.size n) (sym (add-zero l))
  levels_touching e l (suc k) start =
      let here = start + begin_at plan.slices plan.size l in
      let a : next l here ≡ start + begin_at plan.slices plan.size (suc l) = add_assoc start (begin_at plan.slices plan.size l) (plan.slices l * plan.size l) in
      touching_append here (next l here) (start + begin_at plan.slices plan.size (l + suc k)) (first e l here) (levels_from plan e (suc l) k (next l here))
      (slices_touching (plan.size l) e l 0 (plan.slices l) here)
      (subst (λ n. Touching n (levels_from plan e (suc l) k n) (start + begin_at plan.slices plan.size (l + suc k))) (sym a)
      (subst (λ n. Touching (start + begin_at plan.slices plan.size (suc l)) (levels_from plan e (suc l) k (start + begin_at plan.slices plan.size (suc l))) (start + begin_at plan.slices plan.size n)) (suc-add l k ∙ sym (add-suc l k)) (levels_touching e (suc l) k start)))

-- the elements
record InElements (plan : Plan) (e k : ℕ) (p : Piece) : Type 0 where
  low : e ≤ p.element
  high : p.element < e + k
  level : p.level < plan.levels
  slice : p.slice < plan.slices p.level

module _ (plan : Plan) where
  whole : ℕ → ℕ → List Placed
  whole e here = levels_from plan e 0 plan.levels here

  elements_only : (e k here : ℕ) (p : Piece) → Lists (elements_from plan e k here) p → InElements plan e k p
  unfolding whole
  elements_only e zero here p h = elim h [ ]
  elements_only e (suc k) here p h =
      ⊎_elim
      (λ (a : Lists (whole e here) p).
      let i = levels_only plan e 0 plan.levels here p a in
      let element = i.element in
      let high = i.high in
      record { low = omega arith; high = omega arith; level = omega arith; slice = i.slice })
      (λ (b : Lists (elements_from plan (suc e) k (here + stride_of plan)) p).
      let i = elements_only (suc e) k (here + stride_of plan) p b in
      let low = i.low in
      let high = i.high in
      record { low = omega arith; high = omega arith; level = i.level; slice = i.slice })
      (lists_either (whole e here) (elements_from plan (suc e) k (here + stride_of plan)) p h)

  elements_every : (e k here : ℕ) (p : Piece) → InElements plan e k p → Lists (elements_from plan e k here) p
  unfolding whole
  elements_every e zero here p i = let low = i.low in let high = i.high in absurd (omega arith)
  elements_every e (suc k) here p i =
      let low = i.low in
      let high = i.high in
      let level = i.level in
      ⊎_elim
      (λ (same : e ≡ p.element).
      lists_left (whole e here) (elements_from plan (suc e) k (here + stride_of plan)) p
      (levels_every plan e 0 plan.levels here p (record { element = sym same; low = omega arith; high = omega arith; slice = i.slice })))
      (⊎_elim
      (λ (less : e < p.element).
      lists_right (whole e here) (elements_from plan (suc e) k (here + stride_of plan)) p
      (elements_every (suc e) k (here + stride_of plan) p (record { low = omega arith; high = omega arith; level = i.level; slice = i.slice })))
      (λ (more : p.element < e). absurd (omega arith)))
      (cases_order e p.element)

  elements_rising : (e k here : ℕ) → Rising (elements_from plan e k here)
  unfolding whole
  elements_rising e zero here = tt
  elements_rising e (suc k) here =
      rising_append (whole e here) (elements_from plan (suc e) k (here + stride_of plan)) (levels_rising plan e 0 plan.levels here)
      (elements_rising (suc e) k (here + stride_of plan))
      (λ p q a b.
      let i = levels_only plan e 0 plan.levels here p a in
      let j = elements_only (suc e) k (here + stride_of plan) q b in
      let element = i.element in
      let low = j.low in
      inl (omega arith))

  elements_sized : (e k here : ℕ) → Sized plan.size (elements_from plan e k here)
  unfolding whole
  elements_sized e zero here = tt
  elements_sized e (suc k) here =
      sized_append plan.size (whole e here) (elements_from plan (suc e) k (here + stride_of plan)) (levels_sized plan e 0 plan.levels here)
      (elements_sized (suc e) k (here + stride_of plan))

  whole_touching : (e here : ℕ) → Touching here (whole e here) (here + stride_of plan)
  unfolding whole
  whole_touching e here =
      let t = levels_touching plan e 0 plan.levels here in
      subst (λ n. Touching n (levels_from plan e 0 plan.levels n) (here + stride_of plan)) (add-zero here)
      (subst (λ n. Touching (here + 0) (levels_from plan e 0 plan.levels (here + 0)) (here + begin_at plan.slices plan.size n)) (zero-add plan.levels) t)

  elements_touching : (e k here : ℕ) → Touching here (elements_from plan e k here) (here + k * stride_of plan)
  unfolding whole
  elements_touching e zero here = omega arith
  elements_touching e (suc k) here =
      touching_append here (here + stride_of plan) (here + suc k * stride_of plan) (whole e here) (elements_from plan (suc e) k (here + stride_of plan))
      (whole_touching e here)
      (subst (λ n. Touching (here + stride_of plan) (elements_from plan (suc e) k (here + stride_of plan)) n) (omega (arith, suc-mul k (stride_of plan)))
      (elements_touching (suc e) k (here + stride_of plan)))

  -- the plan's list fits where the plan ends
  pub pieces_fit : FitsPlan plan (end_of plan) (pieces_of plan)
  unfolding pieces_of
  pieces_fit = record {
    every = λ p h. elements_every 0 plan.elements plan.begin p (record { low = omega arith; high = (let a = h.0 in omega arith); level = h.1; slice = h.2 });
    only = λ p h. (let i = elements_only 0 plan.elements plan.begin p h in let high = i.high in (omega arith, i.level, i.slice));
    rising = elements_rising 0 plan.elements plan.begin;
    sized = elements_sized 0 plan.elements plan.begin;
    touching = elements_touching 0 plan.elements plan.begin;
  }

-- no piece comes before itself, and of two pieces at most one comes before the other
not_before_itself : (p q : Piece) → p ≡ q → Before p q → ⊥
not_before_itself p q e h =
    let a = ap (λ (x : Piece). x.element) e in
    let b = ap (λ (x : Piece). x.level) e in
    let c = ap (λ (x : Piece). x.slice) e in
    ⊎_elim (λ (x : p.element < q.element). omega arith)
    (λ x. ⊎_elim (λ (y : p.level < q.level). omega arith) (λ (y : (p.level ≡ q.level) × (p.slice < q.slice)). let z = y.1 in omega arith) x.1) h

not_both_before : (p q : Piece) → Before p q → Before q p → ⊥
not_both_before p q h k = grind arith

-- two rising lists of the same pieces, of the same lengths and touching from the same place on, are the same and end alike
same_lists : (size : ℕ → ℕ) (here m n : ℕ) (xs ys : List Placed) → ((p : Piece) → Lists xs p → Lists ys p) → ((p : Piece) → Lists ys p → Lists xs p)
    → Rising xs → Rising ys → Sized size xs → Sized size ys → Touching here xs m → Touching here ys n → (xs ≡ ys) × (m ≡ n)
same_lists size here m n [] [] f g rx ry sx sy tx ty = (refl, sym tx ∙ ty)
same_lists size here m n [] (y ∷ ys) f g rx ry sx sy tx ty = absurd (g y.piece (inl refl))
same_lists size here m n (x ∷ xs) [] f g rx ry sx sy tx ty = absurd (f x.piece (inl refl))
same_lists size here m n (x ∷ xs) (y ∷ ys) f g rx ry sx sy tx ty =
    let piece : x.piece ≡ y.piece =
    ⊎_elim (λ (e : y.piece ≡ x.piece). sym e)
    (λ (a : Lists ys x.piece).
    ⊎_elim (λ (e : x.piece ≡ y.piece). e) (λ (b : Lists xs y.piece). absurd (not_both_before y.piece x.piece (ry.0 x.piece a) (rx.0 y.piece b)))
    (g y.piece (inl refl)))
    (f x.piece (inl refl)) in
    let place : x.place ≡ y.place = tx.0 ∙ sym ty.0 in
    let length : x.length ≡ y.length = sx.0 ∙ ap (λ (p : Piece). size p.level) piece ∙ sym sy.0 in
    let head : x ≡ y = λ i. record { piece = piece i; place = place i; length = length i } in
    let rest = same_lists size (here + x.length) m n xs ys
    (λ p a. ⊎_elim (λ (e : y.piece ≡ p). absurd (not_before_itself x.piece p (piece ∙ e) (rx.0 p a))) (λ b. b) (f p (inr a)))
    (λ p b. ⊎_elim (λ (e : x.piece ≡ p). absurd (not_before_itself y.piece p (sym piece ∙ e) (ry.0 p b))) (λ a. a) (g p (inr b)))
    rx.1 ry.1 sx.1 sy.1 tx.1 (subst (λ k. Touching (here + k) ys n) (sym length) ty.1) in
    ((λ i. head i ∷ rest.0 i), rest.1)

-- a list that fits is the plan's, and ends where the plan does
pub fits_only : (plan : Plan) (n : ℕ) (ps : List Placed) → FitsPlan plan n ps → (ps ≡ pieces_of plan) × (n ≡ end_of plan)
fits_only plan n ps f =
    let q = pieces_fit plan in
    same_lists plan.size plan.begin n (end_of plan) ps (pieces_of plan) (λ p a. q.every p (f.only p a)) (λ p b. f.every p (q.only p b))
    f.rising q.rising f.sized q.sized f.touching q.touching
