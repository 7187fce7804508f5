-- What the fields of a header say: from the numbers in a head to the header's format, shape and sides.
use Rattle.std.proofs.Common.{◌≡◌, ℕ, suc, ◌+◌, ◌*◌, ◌<◌, ◌≤◌, ◌⊎◌, ◌&&◌, ◌||◌, true, false, ltb, List, [], ◌∷◌, take, Some, Ok, sym, ap, ◌∙◌, inl, inr, ⊎_elim, arith}
use Rattle.std.proofs.lemmas.Bool.{cond-true, cond-false, and_left, and_right, and_from, or_from, eq-eqb, ne_eqb, le-ltb, cases_eq, cases_order, not_from_true, not_from_false}
use Rattle.std.proofs.lemmas.Bool.Decides.{nat_tests}
use Rattle.std.specs.List.{list_any}
use Rattle.std.specs.Prelude.{◌==◌}
use Rattle.formats.specs.declared.format_name.FormatName.{FormatName}
use Rattle.formats.specs.declared.format_name.FormatName.TheVariants.{Linear, Block}
use Rattle.formats.specs.BitCounts.{is_set, are_plain}
use Rattle.formats.specs.Codes.{name_for, plain_rows, dxgi_rows, name_in}
use Rattle.dds.specs.declared.shape.Shape.TheVariants.{Line, Flat, Cube, Volume}
use Rattle.dds.specs.Readings.{reading}
use Rattle.dds.specs.Headers.{number_at, has_magic, header_of, header_read, is_extended, header_name}
use Rattle.dds.specs.Levels.{levels_of}
use Rattle.dds.specs.Shapes.{shape_of}
use Rattle.dds.specs.Plans.{pixel_begin}
use Rattle.dds.specs.Figures.{Begins, HasBits, IsDxt1, IsExtended, IsPlain, HasDxgi, PlainFlat, PlainCube, PlainVolume, LineArray, FlatArray, CubeArray, ExtendedVolume}

magic_is : (head : List ℕ) → take 4 head ≡ 0x44 ∷ 0x44 ∷ 0x53 ∷ 0x20 ∷ [] → has_magic head ≡ true
magic_is [] e = cc
magic_is (a ∷ []) e = cc
magic_is (a ∷ b ∷ []) e = cc
magic_is (a ∷ b ∷ c ∷ []) e = cc
magic_is (a ∷ b ∷ c ∷ d ∷ rest) e =
    let first : a ≡ 0x44 = cc in
    let second : b ≡ 0x44 = cc in
    let third : c ≡ 0x53 = cc in
    let fourth : d ≡ 0x20 = cc in
    grind (arith, nat_tests)

told_plain : (flags : ℕ) → (is_set flags 0x2 || is_set flags 0x40 || is_set flags 0x200 || is_set flags 0x20000) ≡ true → are_plain flags ≡ true
told_plain flags e = grind (arith, nat_tests)

module _ (head : List ℕ) where
  pub plain_is : IsPlain head → is_extended (header_of head) ≡ false
  unfolding header_of
  plain_is (inl off) = and_left _ _ off
  plain_is (inr other) = and_right _ _ (ne_eqb _ _ other)

  pub extended_is : IsExtended head → is_extended (header_of head) ≡ true
  unfolding header_of
  extended_is x = and_from _ _ x.counts (eq-eqb _ _ x.code_is)

  pub width_of : {w t l : ℕ} → Begins w t l head → (header_of head).width ≡ w
  unfolding header_of
  width_of b = b.width_is

  pub height_of : {w t l : ℕ} → Begins w t l head → (header_of head).height ≡ t
  unfolding header_of
  height_of b = b.height_is

  -- so many levels, where the level count is not 0
  pub levels_is : {w t l : ℕ} → Begins w t (suc l) head → levels_of (header_of head) ≡ suc l
  unfolding header_of
  levels_is b =
      let count = b.level_count_is in
      cond-false _ _ _ (ne_eqb (number_at head 28) 0 (λ e. absurd (omega arith))) ∙ count

  pub plain_begin : IsPlain head → pixel_begin (header_of head) ≡ 128
  plain_begin p = cond-false _ _ _ (plain_is p)

  pub extended_begin : IsExtended head → pixel_begin (header_of head) ≡ 148
  extended_begin x = cond-true _ _ _ (extended_is x)

  pub bits_plain : {bits : ℕ} → HasBits bits head → IsPlain head
  bits_plain b = inl b.no_code

  pub dxt1_plain : IsDxt1 head → IsPlain head
  dxt1_plain d = inr (λ e. let is = d.code_is in absurd (omega arith))

  -- a header that no refusal before that of its format turns down
  pub read_is : (n : ℕ) {w t l : ℕ} → Begins w t l head → 128 ≤ n → n ≤ 1073741824 → (IsPlain head ⊎ (148 ≤ n))
      → header_read (reading head n) ≡ Ok (header_of head)
  unfolding header_of
  read_is n b short long kind =
      let long_enough : (is_extended (header_of head) && ltb n 148) ≡ false =
      ⊎_elim (λ (p : IsPlain head). and_left _ _ (plain_is p)) (λ (h : 148 ≤ n). and_right _ _ (le-ltb n 148 h)) kind in
      cond-false _ _ _ (or_from _ _ (le-ltb n 128 short) (le-ltb 1073741824 n long))
      ∙ cond-false _ _ _ (not_from_true _ (magic_is head b.magic))
      ∙ cond-false _ _ _ (not_from_true _ (and_from _ _ (eq-eqb _ _ b.header_size) (eq-eqb _ _ b.pixel_format_size)))
      ∙ cond-false _ _ _ long_enough

  pub plain_flat : PlainFlat head → shape_of (header_of head) ≡ Some (Flat 1)
  unfolding header_of
  plain_flat k = cond-false _ _ _ (plain_is k.0) ∙ cond-false _ _ _ k.1.no_cube ∙ cond-false _ _ _ k.1.no_volume

  pub plain_cube : {w l : ℕ} → Begins w w l head → PlainCube head → shape_of (header_of head) ≡ Some (Cube 6)
  unfolding header_of
  plain_cube b k =
      cond-false _ _ _ (plain_is k.0) ∙ cond-true _ _ _ k.1.cube
      ∙ cond-true _ _ _ (and_from _ _ (not_from_false _ k.1.no_volume)
      (and_from _ _ (eq-eqb _ _ k.1.faces) (eq-eqb _ _ (b.width_is ∙ sym b.height_is))))

  pub plain_volume : {depth : ℕ} → PlainVolume depth head → shape_of (header_of head) ≡ Some (Volume depth)
  unfolding header_of
  plain_volume k =
      cond-false _ _ _ (plain_is k.0) ∙ cond-false _ _ _ k.1.0.no_cube ∙ cond-true _ _ _ k.1.0.volume
      ∙ cond-true _ _ _ k.1.1.counts ∙ ap (λ d. Some (Volume d)) k.1.1.depth_is

  pub line_array : {l count : ℕ} {w : ℕ} → Begins w 1 l head → LineArray count head → shape_of (header_of head) ≡ Some (Line count)
  unfolding header_of
  line_array b k =
      cond-true _ _ _ (extended_is k.0) ∙ cond-false _ _ _ k.1.cubes_is ∙ cond-true _ _ _ (eq-eqb _ _ k.1.dimension_is)
      ∙ cond-true _ _ _ (eq-eqb _ _ b.height_is) ∙ ap (λ n. Some (Line n)) k.1.array_size_is

  pub flat_array : {count : ℕ} → FlatArray count head → shape_of (header_of head) ≡ Some (Flat count)
  unfolding header_of
  flat_array k =
      let dimension = k.1.dimension_is in
      cond-true _ _ _ (extended_is k.0) ∙ cond-false _ _ _ k.1.cubes_is
      ∙ cond-false _ _ _ (ne_eqb (number_at head 132) 2 (λ e. absurd (omega arith)))
      ∙ cond-true _ _ _ (eq-eqb _ _ dimension) ∙ ap (λ n. Some (Flat n)) k.1.array_size_is

  pub cube_array : {w l count : ℕ} → Begins w w l head → CubeArray count head → shape_of (header_of head) ≡ Some (Cube (6 * count))
  unfolding header_of
  cube_array b k =
      cond-true _ _ _ (extended_is k.0) ∙ cond-true _ _ _ k.1.cubes_is
      ∙ cond-true _ _ _ (and_from _ _ (eq-eqb _ _ k.1.dimension_is) (eq-eqb _ _ (b.width_is ∙ sym b.height_is)))
      ∙ ap (λ n. Some (Cube (6 * n))) k.1.array_size_is

  pub extended_volume : {depth : ℕ} → ExtendedVolume depth head → shape_of (header_of head) ≡ Some (Volume depth)
  unfolding header_of
  extended_volume k =
      let dimension = k.1.0.dimension_is in
      cond-true _ _ _ (extended_is k.0) ∙ cond-false _ _ _ k.1.0.cubes_is
      ∙ cond-false _ _ _ (ne_eqb (number_at head 132) 2 (λ e. absurd (omega arith)))
      ∙ cond-false _ _ _ (ne_eqb (number_at head 132) 3 (λ e. absurd (omega arith)))
      ∙ cond-true _ _ _ (and_from _ _ (eq-eqb _ _ dimension) (and_from _ _ (eq-eqb _ _ k.1.0.array_size_is) k.1.1.counts))
      ∙ ap (λ d. Some (Volume d)) k.1.1.depth_is

  pub bits_name : HasBits 24 head → header_name (name_for plain_rows) (header_of head) ≡ Some (Linear 24)
  unfolding header_of
  bits_name b =
      cond-false _ _ _ (plain_is (bits_plain b)) ∙ cond-false _ _ _ b.no_code
      ∙ cond-true _ _ _ (and_from _ _ (told_plain (number_at head 80) b.told)
      (ap (λ (n : ℕ). list_any (◌==◌ n) (8 ∷ 16 ∷ 24 ∷ 32 ∷ [])) b.bit_count))
      ∙ ap (λ n. Some (Linear n)) b.bit_count

  pub dxt1_name : IsDxt1 head → header_name (name_for plain_rows) (header_of head) ≡ Some (Block 8)
  unfolding header_of plain_rows name_in
  dxt1_name d =
      cond-false _ _ _ (plain_is (dxt1_plain d)) ∙ cond-true _ _ _ d.counts ∙ ap (name_for plain_rows) d.code_is

  -- a format that three codes in a row name
  pub dxgi_name : (first : ℕ) {name : FormatName} → HasDxgi first (first + 2) head
      → name_for dxgi_rows first ≡ Some name → name_for dxgi_rows (first + 1) ≡ Some name → name_for dxgi_rows (first + 2) ≡ Some name
      → header_name (name_for plain_rows) (header_of head) ≡ Some name
  unfolding header_of
  dxgi_name first {name} d one two three =
      let low = d.not_below in
      let high = d.not_above in
      cond-true _ _ _ (extended_is d.extended)
      ∙ ⊎_elim (λ (e : number_at head 128 ≡ first). ap (name_for dxgi_rows) e ∙ one)
      (⊎_elim (λ (l : number_at head 128 < first). absurd (omega arith))
      (λ (g : first < number_at head 128).
      ⊎_elim (λ (e : number_at head 128 ≡ first + 1). ap (name_for dxgi_rows) e ∙ two)
      (λ (other : number_at head 128 ≡ first + 1 → ⊥).
      let e : number_at head 128 ≡ first + 2 = omega arith in ap (name_for dxgi_rows) e ∙ three)
      (cases_eq (number_at head 128) (first + 1))))
      (cases_order (number_at head 128) first)
