-- A file's table has the plan of its header.
use Rattle.std.proofs.Common.{◌≡◌, ℕ, zero, suc, ◌+◌, ◌*◌, ◌<◌, ◌≤◌, ltb, List, [], ◌∷◌, ◌++◌, length, get_or, take, take_all, sym, refl, ap, ◌∙◌, subst, inl, inr, add-zero, add_assoc, zero-add, add-one, arith}
use Rattle.std.proofs.lemmas.List.{take_more}
use Rattle.std.proofs.lemmas.Bool.{lt-ltb, cond-true}
use Rattle.dds.specs.declared.header.Header.{Header}
use Rattle.dds.specs.declared.level.Level.{Level}
use Rattle.dds.specs.declared.piece.Piece.{Piece}
use Rattle.dds.specs.declared.shape.Shape.{Shape}
use Rattle.dds.specs.declared.sides.Sides.{Sides}
use Rattle.dds.specs.declared.table.Table.{Table}
use Rattle.dds.specs.LevelEnds.{piece_length, total_of}
use Rattle.dds.specs.Levels.{levels_of, side_at}
use Rattle.dds.specs.Plans.{Plan, plan_of, size_at, begin_at, stride_of, end_of}
use Rattle.dds.specs.Tables.{level_at, blank, IsChain}
use Rattle.dds.specs.Pieces.{Placed, Lists, Sized, Touching, FitsPlan, pieces_of}
use Rattle.dds.specs.Sound.{slices_in, size_in, plan_in, Sound}
use Rattle.dds.specs.Layouts.{sides_of, TableOf}
use Rattle.dds.proofs.Begins.{Lawful, size_some}
use Rattle.dds.proofs.Halving.{side_some}
use Rattle.dds.proofs.Fitting.{pieces_fit, fits_only}
use Rattle.dds.proofs.Shaped.{Shaped}

pub begin_agree : (s s' z z' : ℕ → ℕ) (n : ℕ) → ((k : ℕ) → k < n → s k ≡ s' k) → ((k : ℕ) → k < n → z k ≡ z' k)
    → begin_at s z n ≡ begin_at s' z' n
begin_agree s s' z z' zero f g = refl
begin_agree s s' z z' (suc n) f g =
    let e = begin_agree s s' z z' n (λ k h. f k (omega arith)) (λ k h. g k (omega arith)) in
    let a = f n (omega arith) in
    let b = g n (omega arith) in
    λ i. e i + a i * b i

total_append : (xs ys : List Level) → total_of (xs ++ ys) ≡ total_of xs + total_of ys
total_append [] ys = sym (zero-add (total_of ys))
total_append (x ∷ xs) ys = ap (λ n. x.slices * piece_length x + n) (total_append xs ys) ∙ sym (add_assoc (x.slices * piece_length x) (total_of xs) (total_of ys))

-- the bytes of the first n levels of a list are where the next begins
pub total_front : (xs : List Level) (n : ℕ) → n ≤ length xs
    → total_of (take n xs) ≡ begin_at (λ k. (get_or xs k blank).slices) (λ k. piece_length (get_or xs k blank)) n
total_front xs zero h = refl
total_front xs (suc n) h =
    let m : take (suc n) xs ≡ take n xs ++ (get_or xs n blank ∷ []) = rw add-one at (take_more xs n blank (omega arith)) in
    let e = total_front xs n (omega arith) in
    let last : total_of (get_or xs n blank ∷ []) ≡ (get_or xs n blank).slices * piece_length (get_or xs n blank) = add-zero ((get_or xs n blank).slices * piece_length (get_or xs n blank)) in
    ap total_of m ∙ total_append (take n xs) (get_or xs n blank ∷ []) ∙ (λ i. e i + last i)

-- the bytes of a chain's levels are those by the rules
pub chain_total : (row_bytes rows : ℕ → ℕ → ℕ) (s : Sides) (ls : List Level) (bytes : ℕ) → IsChain row_bytes rows s ls bytes
    → total_of ls ≡ begin_at (side_at s.depth) (size_at row_bytes rows s.width s.height) (length ls)
chain_total row_bytes rows s ls bytes is =
    ap total_of (sym (take_all (length ls) ls (omega arith))) ∙ total_front ls (length ls) (omega arith)
    ∙ begin_agree (λ k. (get_or ls k blank).slices) (side_at s.depth) (λ k. piece_length (get_or ls k blank)) (size_at row_bytes rows s.width s.height) (length ls)
    (λ k h. ap (λ (x : Level). x.slices) (is.level k h)) (λ k h. ap piece_length (is.level k h))

-- two plans that agree as far as their levels go have the same pieces and the same end
record Agree (a b : Plan) : Type 0 where
  elements : a.elements ≡ b.elements
  levels : a.levels ≡ b.levels
  begin : a.begin ≡ b.begin
  slices : (k : ℕ) → k < a.levels → a.slices k ≡ b.slices k
  size : (k : ℕ) → k < a.levels → a.size k ≡ b.size k

sized_agree : (a b : ℕ → ℕ) (n : ℕ) (xs : List Placed) → ((k : ℕ) → k < n → a k ≡ b k) → ((p : Piece) → Lists xs p → p.level < n)
    → Sized a xs → Sized b xs
sized_agree a b n [] f g s = tt
sized_agree a b n (x ∷ xs) f g s =
    (s.0 ∙ f x.piece.level (g x.piece (inl refl)), sized_agree a b n xs f (λ p h. g p (inr h)) s.1)

agree_fit : (a b : Plan) → Agree a b → FitsPlan b (end_of a) (pieces_of a)
agree_fit a b g =
    let f = pieces_fit a in
    let elements = g.elements in
    let levels = g.levels in
    record {
      every = λ p h. f.every p
          (let e = h.0 in
          let l = h.1 in
          let here : p.level < a.levels = omega arith in
          let slices = g.slices p.level here in
          let s = h.2 in
          (omega arith, here, omega arith));
      only = λ p h.
          (let o = f.only p h in
          let e = o.0 in
          let l = o.1 in
          let slices = g.slices p.level l in
          let s = o.2 in
          (omega arith, omega arith, omega arith));
      rising = f.rising;
      sized = sized_agree a.size b.size a.levels (pieces_of a) g.size (λ p h. (f.only p h).1) f.sized;
      touching = subst (λ n. Touching n (pieces_of a) (end_of a)) g.begin f.touching;
    }

module _ (h : Header) (shape : Shape) (row_bytes rows : ℕ → ℕ → ℕ) (n : ℕ) (t : Table) (is : TableOf h shape row_bytes rows n t) (ok : Shaped h shape) where
  level_at_lem : (k : ℕ) → k < levels_of h → get_or t.levels k blank ≡ level_at row_bytes rows (sides_of h shape) k
  level_at_lem k l =
      let few = ok.few_levels in
      is.levels k (omega arith) ∙ cond-true (ltb k (levels_of h)) _ _ (lt-ltb k (levels_of h) l)

  agree : Agree (plan_in t) (plan_of h shape row_bytes rows)
  agree =
      let count = is.count in
      record {
        elements = is.elements;
        levels = is.count;
        begin = is.begin;
        slices = λ k l. ap (λ (x : Level). x.slices) (level_at_lem k (omega arith));
        size = λ k l. ap piece_length (level_at_lem k (omega arith));
      }

  -- the pieces of the table fit the header's plan, and end where it does
  pub table_fits : FitsPlan (plan_of h shape row_bytes rows) (end_of (plan_in t)) (pieces_of (plan_in t))
  table_fits = agree_fit (plan_in t) (plan_of h shape row_bytes rows) agree

  pub table_end : end_of (plan_in t) ≡ end_of (plan_of h shape row_bytes rows)
  table_end = (fits_only (plan_of h shape row_bytes rows) (end_of (plan_in t)) (pieces_of (plan_in t)) table_fits).1

  pub table_stride : t.stride ≡ stride_of (plan_in t)
  table_stride =
      is.stride
      ∙ sym (ap (λ m. begin_at (slices_in t) (size_in t) m) is.count
      ∙ begin_agree (slices_in t) (plan_of h shape row_bytes rows).slices (size_in t) (plan_of h shape row_bytes rows).size (levels_of h)
      (λ j m. ap (λ (x : Level). x.slices) (level_at_lem j m)) (λ j m. ap piece_length (level_at_lem j m)))

  -- where the table ends at the file's end, it is sound
  pub table_sound : Lawful row_bytes rows → n ≤ 1073741824 → t.pixel_end ≡ n → Sound t
  table_sound law few e =
      let count = is.count in
      let elements = is.elements in
      let some_levels = ok.some_levels in
      let few_levels = ok.few_levels in
      let few_elements = ok.few_elements in
      let length = is.length in
      record {
        some_levels = omega arith;
        few_levels = omega arith;
        few_elements = omega arith;
        slices = λ k l. subst (λ m. 1 ≤ m) (sym (ap (λ (x : Level). x.slices) (level_at_lem k (omega arith)))) (side_some (sides_of h shape).depth k);
        sizes = λ k l. subst (λ m. 1 ≤ m) (sym (ap piece_length (level_at_lem k (omega arith)))) (size_some row_bytes rows law (sides_of h shape) ok.sides k);
        begins = λ k l.
            ap (λ (x : Level). x.begin) (level_at_lem k (omega arith))
            ∙ sym (begin_agree (slices_in t) (plan_of h shape row_bytes rows).slices (size_in t) (plan_of h shape row_bytes rows).size k
            (λ j m. agree.slices j (omega arith)) (λ j m. agree.size j (omega arith)));
        stride = table_stride;
        ends = is.end ∙ sym table_end;
        inside = omega arith;
        few_bytes = omega arith;
      }

  -- where the table ends at the file's end, its pieces fit the file
  pub table_fits_file : t.pixel_end ≡ n → FitsPlan (plan_of h shape row_bytes rows) n (pieces_of (plan_in t))
  table_fits_file e = subst (λ m. FitsPlan (plan_of h shape row_bytes rows) m (pieces_of (plan_in t))) (table_end ∙ sym is.end ∙ e) table_fits

  -- and where it does not, none fits it
  pub table_fits_none : (t.pixel_end ≡ n → ⊥) → (ps : List Placed) → FitsPlan (plan_of h shape row_bytes rows) n ps → ⊥
  table_fits_none ne ps f = ne (is.end ∙ sym (fits_only (plan_of h shape row_bytes rows) n ps f).1)
