-- What a header's shape says of its sizes, once it was not refused.
use Rattle.std.proofs.Common.{◌≡◌, ℕ, ◌≤◌, true, false, not, ltb, Some, None, Ok, Err, Option, Result, sym, refl, ◌∙◌, subst, ⊎_elim, arith}
use Rattle.std.proofs.lemmas.Bool.{cases_Bool, cond-true, cond-false, ltb-false, not-false}
use Rattle.std.proofs.lemmas.Bool.Decides.{nat_tests}
use Rattle.refusal.specs.declared.Refusal.{Refusal}
use Rattle.refusal.specs.declared.Refusal.TheVariants.{OutOfRange, TooManyLevels}
use Rattle.dds.specs.declared.header.Header.{Header}
use Rattle.dds.specs.declared.shape.Shape.{Shape}
use Rattle.dds.specs.declared.shape.Shape.TheVariants.{Line, Flat, Cube, Volume}
use Rattle.dds.specs.Levels.{levels_of, longest_chain}
use Rattle.dds.specs.Shapes.{shape_of, elements_of, depth_of, limit_of, is_in_range, largest_side, judged, shape_read}
use Rattle.dds.specs.Tables.{InRange}
use Rattle.dds.specs.Layouts.{sides_of}
use Rattle.dds.proofs.Halving.{chain_few}

pub record Shaped (h : Header) (shape : Shape) : Type 0 where
  pub sides : InRange (sides_of h shape)
  pub some_levels : 1 ≤ levels_of h
  pub few_levels : levels_of h ≤ 15
  pub some_elements : 1 ≤ elements_of shape
  pub few_elements : elements_of shape ≤ 2048

pub limit_few : (shape : Shape) → limit_of shape ≤ 16384
limit_few (Line n) = omega arith
limit_few (Flat n) = omega arith
limit_few (Cube n) = omega arith
limit_few (Volume d) = omega arith

pub limit_some : (shape : Shape) → 2048 ≤ limit_of shape
limit_some (Line n) = omega arith
limit_some (Flat n) = omega arith
limit_some (Cube n) = omega arith
limit_some (Volume d) = omega arith

-- the two tests that an accepted shape passes
record Passed (h : Header) (o : Option Shape) (shape : Shape) : Type 0 where
  some : o ≡ Some shape
  range : is_in_range h shape ≡ true
  chain : ltb (longest_chain (largest_side h shape)) (levels_of h) ≡ false

passed : (h : Header) (o : Option Shape) (shape : Shape) → judged h o ≡ Ok shape → Passed h o shape
passed h None shape e = let z : ◌≡◌ {A = ℕ} 0 1 = cc in absurd (omega arith)
passed h (Some s) shape e =
    ⊎_elim
    (λ (out : not (is_in_range h s) ≡ true).
    let f : ◌≡◌ {A = Result Shape Refusal} (Err OutOfRange) (Ok shape) = sym (cond-true (not (is_in_range h s)) _ _ out) ∙ e in
    let z : ◌≡◌ {A = ℕ} 0 1 = cc in absurd (omega arith))
    (λ (inside : not (is_in_range h s) ≡ false).
    let f = sym (cond-false (not (is_in_range h s)) _ _ inside) ∙ e in
    ⊎_elim
    (λ (many : ltb (longest_chain (largest_side h s)) (levels_of h) ≡ true).
    let k : ◌≡◌ {A = Result Shape Refusal} (Err TooManyLevels) (Ok shape) = sym (cond-true (ltb (longest_chain (largest_side h s)) (levels_of h)) _ _ many) ∙ f in
    let z : ◌≡◌ {A = ℕ} 0 1 = cc in absurd (omega arith))
    (λ (few : ltb (longest_chain (largest_side h s)) (levels_of h) ≡ false).
    let k : ◌≡◌ {A = Result Shape Refusal} (Ok s) (Ok shape) = sym (cond-false (ltb (longest_chain (largest_side h s)) (levels_of h)) _ _ few) ∙ f in
    let same : s ≡ shape = cc in
    subst (λ (x : Shape). Passed h (Some s) x) same (record { some = refl; range = not-false (is_in_range h s) inside; chain = few }))
    (cases_Bool (ltb (longest_chain (largest_side h s)) (levels_of h))))
    (cases_Bool (not (is_in_range h s)))

pub shaped : (h : Header) (shape : Shape) → shape_read h ≡ Ok shape → Shaped h shape
shaped h shape e =
    let p = passed h (shape_of h) shape e in
    let limit = limit_few shape in
    let range = p.range in
    let chain = ltb-false (longest_chain (largest_side h shape)) (levels_of h) p.chain in
    let w : (1 ≤ h.width) × (h.width ≤ limit_of shape) = grind (arith, nat_tests) in
    let t : (1 ≤ h.height) × (h.height ≤ limit_of shape) = grind (arith, nat_tests) in
    let d : (1 ≤ depth_of shape) × (depth_of shape ≤ limit_of shape) = grind (arith, nat_tests) in
    let n : (1 ≤ elements_of shape) × (elements_of shape ≤ 2048) = grind (arith, nat_tests) in
    let few = chain_few (largest_side h shape) (omega arith) in
    let some : 1 ≤ levels_of h = grind (arith, nat_tests) in
    record {
      sides = record { some_width = w.0; few_width = omega arith; some_height = t.0; few_height = omega arith; some_depth = d.0; few_depth = omega arith };
      some_levels = some;
      few_levels = omega arith;
      some_elements = n.0;
      few_elements = n.1;
    }

pub shape_is : (h : Header) (shape : Shape) → shape_read h ≡ Ok shape → shape_of h ≡ Some shape
shape_is h shape e = (passed h (shape_of h) shape e).some
