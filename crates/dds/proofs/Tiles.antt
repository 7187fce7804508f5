-- The pieces of a layout: where each stands, and that no two share a byte.
use Rattle.std.proofs.Common.{◌≡◌, ℕ, zero, suc, ◌+◌, ◌*◌, ◌<◌, ◌≤◌, List, [], ◌∷◌, ◌++◌, sym, refl, ap, ◌∙◌, subst, inl, inr, ⊎_elim, add-zero, add_assoc, add-suc, suc-mul, suc-add, zero-add, arith}
use Rattle.std.proofs.lemmas.Bool.{cases_lt}
use Rattle.dds.specs.declared.piece.Piece.{Piece}
use Rattle.dds.specs.Plans.{Plan, begin_at, stride_of, end_of}
use Rattle.dds.specs.Pieces.{Placed, Exists, Lists, Touching, slices_from, levels_from, elements_from, pieces_of}
use Rattle.dds.specs.Places.{Stands, Holds, Disjoint, Between}
use Rattle.dds.proofs.Fitting.{pieces_fit}

stands_left : (xs ys : List Placed) (x : Placed) → Stands xs x → Stands (xs ++ ys) x
stands_left [] ys x h = elim h [ ]
stands_left (y ∷ xs) ys x (inl e) = inl e
stands_left (y ∷ xs) ys x (inr h) = inr (stands_left xs ys x h)

stands_right : (xs ys : List Placed) (x : Placed) → Stands ys x → Stands (xs ++ ys) x
stands_right [] ys x h = h
stands_right (y ∷ xs) ys x h = inr (stands_right xs ys x h)

pub lists_stands : (xs : List Placed) (x : Placed) → Stands xs x → Lists xs x.piece
lists_stands [] x h = elim h [ ]
lists_stands (y ∷ xs) x (inl e) = inl (ap (λ (z : Placed). z.piece) e)
lists_stands (y ∷ xs) x (inr h) = inr (lists_stands xs x h)

pub stands_lists : (xs : List Placed) (p : Piece) → Lists xs p → (x : Placed) × (Stands xs x × (x.piece ≡ p))
stands_lists [] p h = elim h [ ]
stands_lists (y ∷ xs) p (inl e) = (y, (inl refl, e))
stands_lists (y ∷ xs) p (inr h) = let r = stands_lists xs p h in (r.0, (inr r.1.0, r.1.1))

ends : (low high : ℕ) (xs : List Placed) → Touching low xs high → low ≤ high
ends low high [] t = omega arith
ends low high (y ∷ xs) t = let r = ends (low + y.length) high xs t.1 in omega arith

between : (low high : ℕ) (xs : List Placed) → Touching low xs high → Between low high xs
between low high [] t x h = elim h [ ]
between low high (y ∷ xs) t x (inl e) =
    let place = ap (λ (z : Placed). z.place) e in
    let length = ap (λ (z : Placed). z.length) e in
    let rest = ends (low + y.length) high xs t.1 in
    let first = t.0 in
    (omega arith, omega arith)
between low high (y ∷ xs) t x (inr h) = let b = between (low + y.length) high xs t.1 x h in let c = b.0 in (omega arith, b.1)

-- a byte of the first piece is none of a later one's
behind : (low high : ℕ) (z : Placed) (xs : List Placed) → Touching low (z ∷ xs) high → (x y : Placed) (place : ℕ) → z ≡ x → Stands xs y
    → Holds x place → Holds y place → ⊥
behind low high z xs t x y place e sy hx hy =
    let a = ap (λ (w : Placed). w.place) e in
    let b = ap (λ (w : Placed). w.length) e in
    let c = t.0 in
    let d = (between (low + z.length) high xs t.1 y sy).0 in
    let f = hx.1 in
    let g = hy.0 in
    omega arith

disjoint : (low high : ℕ) (xs : List Placed) → Touching low xs high → Disjoint xs
disjoint low high [] t x y place sx sy hx hy = elim sx [ ]
disjoint low high (z ∷ xs) t x y place (inl ex) (inl ey) hx hy = sym ex ∙ ey
disjoint low high (z ∷ xs) t x y place (inl ex) (inr sy) hx hy = absurd (behind low high z xs t x y place ex sy hx hy)
disjoint low high (z ∷ xs) t x y place (inr sx) (inl ey) hx hy = absurd (behind low high z xs t y x place ey sx hy hx)
disjoint low high (z ∷ xs) t x y place (inr sx) (inr sy) hx hy = disjoint (low + z.length) high xs t.1 x y place sx sy hx hy

covers : (low high : ℕ) (xs : List Placed) → Touching low xs high → (place : ℕ) → low ≤ place → place < high → (x : Placed) × (Stands xs x × Holds x place)
covers low high [] t place a b = absurd (omega arith)
covers low high (y ∷ xs) t place a b =
    let first = t.0 in
    ⊎_elim
    (λ (here : place < low + y.length). (y, (inl refl, (omega arith, omega arith))))
    (λ (later : low + y.length ≤ place). let r = covers (low + y.length) high xs t.1 place later b in (r.0, (inr r.1.0, r.1.1)))
    (cases_lt place (low + y.length))

pub pieces_cover : (plan : Plan) (place : ℕ) → plan.begin ≤ place → place < end_of plan → (x : Placed) × (Stands (pieces_of plan) x × Holds x place)
pieces_cover plan place a b = covers plan.begin (end_of plan) (pieces_of plan) (pieces_fit plan).touching place a b

pub pieces_between : (plan : Plan) → Between plan.begin (end_of plan) (pieces_of plan)
pieces_between plan = between plan.begin (end_of plan) (pieces_of plan) (pieces_fit plan).touching

pub pieces_disjoint : (plan : Plan) → Disjoint (pieces_of plan)
pieces_disjoint plan = disjoint plan.begin (end_of plan) (pieces_of plan) (pieces_fit plan).touching

abbrev entry : ℕ → ℕ → ℕ → ℕ → ℕ → Placed
entry e l s at size = record { piece = record { element = e; level = l; slice = s }; place = at; length = size }

slices_stand : (size e l s k here i : ℕ) → i < k → Stands (slices_from size e l s k here) (entry e l (s + i) (here + i * size) size)
slices_stand size e l s zero here i h = absurd (omega arith)
slices_stand size e l s (suc k) here zero h =
    let a : s ≡ s + 0 = omega arith in
    let b : here ≡ here + 0 * size = omega arith in
    inl (λ j. entry e l (a j) (b j) size)
slices_stand size e l s (suc k) here (suc i) h =
    let a : suc s + i ≡ s + suc i = omega arith in
    let b : here + size + i * size ≡ here + suc i * size = omega (arith, suc-mul i size) in
    inr (subst (λ n. Stands (slices_from size e l (suc s) k (here + size)) (entry e l n (here + suc i * size) size)) a
    (subst (λ n. Stands (slices_from size e l (suc s) k (here + size)) (entry e l (suc s + i) n size)) b
    (slices_stand size e l (suc s) k (here + size) i (omega arith))))

module _ (plan : Plan) where
  -- where a level begins in its element
  at : ℕ → ℕ
  at level = begin_at plan.slices plan.size level

  levels_stand : (e l k start j s : ℕ) → j < k → s < plan.slices (l + j)
      → Stands (levels_from plan e l k (start + at l)) (entry e (l + j) s (start + at (l + j) + s * plan.size (l + j)) (plan.size (l + j)))
  unfolding at
  levels_stand e l zero start j s h few = absurd (omega arith)
  levels_stand e l (suc k) start zero s h few =
      let z : l + 0 ≡ l = add-zero l in
      subst (λ n. Stands (levels_from plan e l (suc k) (start + at l)) (entry e n s (start + at n + s * plan.size n) (plan.size n))) (sym z)
      (stands_left (slices_from (plan.size l) e l 0 (plan.slices l) (start + at l)) (levels_from plan e (suc l) k (start + at l + plan.slices l * plan.size l)) _
      (subst (λ n. Stands (slices_from (plan.size l) e l 0 (plan.slices l) (start + at l)) (entry e l n (start + at l + s * plan.size l) (plan.size l))) (zero-add s)
      (slices_stand (plan.size l) e l 0 (plan.slices l) (start + at l) s (subst (λ n. s < plan.slices n) z few))))
  levels_stand e l (suc k) start (suc j) s h few =
      let m : suc l + j ≡ l + suc j = suc-add l j ∙ sym (add-suc l j) in
      let a : start + at (suc l) ≡ start + at l + plan.slices l * plan.size l = sym (add_assoc start (at l) (plan.slices l * plan.size l)) in
      stands_right (slices_from (plan.size l) e l 0 (plan.slices l) (start + at l)) (levels_from plan e (suc l) k (start + at l + plan.slices l * plan.size l)) _
      (subst (λ n. Stands (levels_from plan e (suc l) k n) (entry e (l + suc j) s (start + at (l + suc j) + s * plan.size (l + suc j)) (plan.size (l + suc j)))) a
      (subst (λ n. Stands (levels_from plan e (suc l) k (start + at (suc l))) (entry e n s (start + at n + s * plan.size n) (plan.size n))) m
      (levels_stand e (suc l) k start j s (omega arith) (subst (λ n. s < plan.slices n) (sym m) few))))

  elements_stand : (e k here i l s : ℕ) → i < k → l < plan.levels → s < plan.slices l
      → Stands (elements_from plan e k here) (entry (e + i) l s (here + i * stride_of plan + at l + s * plan.size l) (plan.size l))
  unfolding at
  elements_stand e zero here i l s h few some = absurd (omega arith)
  elements_stand e (suc k) here zero l s h few some =
      let a : e ≡ e + 0 = omega arith in
      let b : here ≡ here + 0 * stride_of plan = omega arith in
      stands_left (levels_from plan e 0 plan.levels here) (elements_from plan (suc e) k (here + stride_of plan)) _
      (subst (λ n. Stands (levels_from plan e 0 plan.levels here) (entry n l s (here + 0 * stride_of plan + at l + s * plan.size l) (plan.size l))) a
      (subst (λ n. Stands (levels_from plan e 0 plan.levels here) (entry e l s (n + at l + s * plan.size l) (plan.size l))) b
      (subst (λ n. Stands (levels_from plan e 0 plan.levels n) (entry e l s (here + at l + s * plan.size l) (plan.size l))) (add-zero here)
      (subst (λ n. Stands (levels_from plan e 0 plan.levels (here + 0)) (entry e n s (here + at n + s * plan.size n) (plan.size n))) (zero-add l)
      (levels_stand e 0 plan.levels here l s few (subst (λ n. s < plan.slices n) (sym (zero-add l)) some))))))
  elements_stand e (suc k) here (suc i) l s h few some =
      let a : suc e + i ≡ e + suc i = omega arith in
      let b : here + stride_of plan + i * stride_of plan ≡ here + suc i * stride_of plan = omega (arith, suc-mul i (stride_of plan)) in
      stands_right (levels_from plan e 0 plan.levels here) (elements_from plan (suc e) k (here + stride_of plan)) _
      (subst (λ n. Stands (elements_from plan (suc e) k (here + stride_of plan)) (entry n l s (here + suc i * stride_of plan + at l + s * plan.size l) (plan.size l))) a
      (subst (λ n. Stands (elements_from plan (suc e) k (here + stride_of plan)) (entry (suc e + i) l s (n + at l + s * plan.size l) (plan.size l))) b
      (elements_stand (suc e) k (here + stride_of plan) i l s (omega arith) few some)))

  -- each piece of the plan stands where its element, level and slice say
  pub piece_stands : (p : Piece) → Exists plan p
      → Stands (pieces_of plan)
      (record { piece = p; place = plan.begin + p.element * stride_of plan + begin_at plan.slices plan.size p.level + p.slice * plan.size p.level; length = plan.size p.level })
  unfolding at pieces_of
  piece_stands p h =
      subst (λ n. Stands (elements_from plan 0 plan.elements plan.begin) (entry n p.level p.slice (plan.begin + p.element * stride_of plan + at p.level + p.slice * plan.size p.level) (plan.size p.level)))
      (zero-add p.element) (elements_stand 0 plan.elements plan.begin p.element p.level p.slice h.0 h.1 h.2)
