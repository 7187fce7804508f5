-- How far the levels of an element can reach.
use Rattle.std.proofs.Common.{◌≡◌, ℕ, zero, suc, ◌+◌, ◌*◌, ◌/◌, ◌≤◌, max, true, ◌&&◌, ap, ◌∙◌, arith}
use Rattle.std.proofs.lemmas.Nat.{mul-le}
use Rattle.std.proofs.lemmas.Bool.{cond-true}
use Rattle.std.proofs.lemmas.Bool.Decides.{nat_tests}
use Rattle.formats.specs.declared.extent.Extent.{Extent}
use Rattle.formats.specs.Extents.{Bounded, extent_of, is_side}
use Rattle.dds.specs.declared.sides.Sides.{Sides}
use Rattle.dds.specs.Levels.{side_at}
use Rattle.dds.specs.Plans.{size_at, begin_at}
use Rattle.dds.specs.Tables.{InRange, level_at, level_with}
use Rattle.dds.proofs.Halving.{side_some, side_few, side_step}

-- a family's law, for all sides in range
abbrev pub Lawful : (ℕ → ℕ → ℕ) → (ℕ → ℕ → ℕ) → Type 0
Lawful row_bytes rows = (w h : ℕ) → 1 ≤ w → w ≤ 16384 → 1 ≤ h → h ≤ 16384 → Bounded row_bytes rows w h

-- the sides of a level, from those of the first
abbrev pub sides_at : Sides → ℕ → Sides
sides_at s level = record { width = side_at s.width level; height = side_at s.height level; depth = side_at s.depth level }

module _ (row_bytes rows : ℕ → ℕ → ℕ) (law : Lawful row_bytes rows) (s : Sides) (r : InRange s) where
  pub lawful_at : (k : ℕ) → Bounded row_bytes rows (side_at s.width k) (side_at s.height k)
  lawful_at k =
      let w = side_few s.width k r.some_width in
      let h = side_few s.height k r.some_height in
      let fw = r.few_width in
      let fh = r.few_height in
      law (side_at s.width k) (side_at s.height k) (side_some s.width k) (omega arith) (side_some s.height k) (omega arith)

  pub size_some : (k : ℕ) → 1 ≤ size_at row_bytes rows s.width s.height k
  size_some k = mul-le 1 1 _ _ (lawful_at k).some_bytes (lawful_at k).some_rows

  pub size_few : (k : ℕ) → size_at row_bytes rows s.width s.height k ≤ 4294967296
  size_few k =
      let b = lawful_at k in
      let w = side_few s.width k r.some_width in
      let h = side_few s.height k r.some_height in
      let fw = r.few_width in
      let fh = r.few_height in
      let few = b.few_bytes in
      let fewer = b.few_rows in
      mul-le (row_bytes (side_at s.width k) (side_at s.height k)) (rows (side_at s.width k) (side_at s.height k)) 262144 16384 (omega arith) (omega arith)

  pub begin_few : (k : ℕ) → begin_at (side_at s.depth) (size_at row_bytes rows s.width s.height) k ≤ k * 70368744177664
  begin_few zero = omega arith
  begin_few (suc k) =
      let d = side_few s.depth k r.some_depth in
      let fd = r.few_depth in
      let p = mul-le (side_at s.depth k) (size_at row_bytes rows s.width s.height k) 16384 4294967296 (omega arith) (size_few k) in
      let b = begin_few k in
      omega arith

-- the level that a family's answer makes, at sides in range, is the level by the rules
pub level_is : (row_bytes rows : ℕ → ℕ → ℕ) (s : Sides) → InRange s → (k : ℕ)
    → level_with (extent_of row_bytes rows (side_at s.width k) (side_at s.height k)) (sides_at s k) (begin_at (side_at s.depth) (size_at row_bytes rows s.width s.height) k)
    ≡ level_at row_bytes rows s k
level_is row_bytes rows s r k =
    let w = side_few s.width k r.some_width in
    let h = side_few s.height k r.some_height in
    let fw = r.few_width in
    let fh = r.few_height in
    let i : (is_side (side_at s.width k) && is_side (side_at s.height k)) ≡ true = grind (arith, nat_tests) in
    ap (λ (x : Extent). level_with x (sides_at s k) (begin_at (side_at s.depth) (size_at row_bytes rows s.width s.height) k)) (cond-true _ _ _ i)

pub sides_step : (first s : Sides) (k : ℕ) → s ≡ sides_at first k
    → record { width = max (s.width / 2) 1; height = max (s.height / 2) 1; depth = max (s.depth / 2) 1 } ≡ sides_at first (k + 1)
sides_step first s k e =
    let w = ap (λ (x : Sides). max (x.width / 2) 1) e ∙ side_step first.width k in
    let h = ap (λ (x : Sides). max (x.height / 2) 1) e ∙ side_step first.height k in
    let d = ap (λ (x : Sides). max (x.depth / 2) 1) e ∙ side_step first.depth k in
    λ i. record { width = w i; height = h i; depth = d i }
