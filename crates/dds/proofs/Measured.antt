-- The measured files.
use Rattle.std.proofs.Common.{◌≡◌, ℕ, ◌+◌, ◌*◌, ◌<◌, ◌≤◌, max, Bool, true, false, not, ◌&&◌, ltb, List, length, Some, None, Ok, Err, Option, Result, sym, refl, ap, ◌∙◌, subst, inl, inr, ⊎_elim, arith, pow_mono, lit<, lit≤}
use Rattle.std.proofs.lemmas.Bool.{cond-true, cond-false, and_parts, lt-ltb, cases_lt, not-true, not_from_true, not_from_false}
use Rattle.std.proofs.lemmas.Bool.Decides.{nat_tests}
use Rattle.refusal.specs.declared.Refusal.{Refusal}
use Rattle.refusal.specs.declared.Refusal.TheVariants.{OutOfRange, TooManyLevels, WrongEnd, PastFileEnd}
use Rattle.formats.specs.declared.format_name.FormatName.{FormatName}
use Rattle.formats.specs.declared.format_name.FormatName.TheVariants.{Linear, Block}
use Rattle.formats.specs.Codes.{name_for, plain_rows, dxgi_rows, name_in}
use Rattle.formats.specs.Extents.{row_bytes_of, rows_of}
use Rattle.dds.specs.declared.header.Header.{Header}
use Rattle.dds.specs.declared.layout.Layout.{Layout}
use Rattle.dds.specs.declared.piece.Piece.{Piece}
use Rattle.dds.specs.declared.shape.Shape.{Shape}
use Rattle.dds.specs.declared.shape.Shape.TheVariants.{Line, Flat, Cube, Volume}
use Rattle.dds.specs.Readings.{Reading, reading}
use Rattle.dds.specs.Sources.{source_of}
use Rattle.dds.specs.Headers.{header_of, header_read, header_name}
use Rattle.dds.specs.Levels.{levels_of, side_at, longest_chain}
use Rattle.formats.specs.Extents.{within}
use Rattle.dds.specs.Shapes.{shape_of, elements_of, depth_of, limit_of, is_in_range, largest_side, judged, shape_read}
use Rattle.dds.specs.Plans.{Plan, plan_of, pixel_begin, size_at, end_of, stride_of, begin_at}
use Rattle.dds.specs.Pieces.{Placed, FitsPlan, Exists, pieces_of}
use Rattle.dds.specs.Layouts.{Fits, Opened, OpenedAs, OpenedIn, OpenedBy, Turned, refusal_of, first_refusal, err_of, pieces_in}
use Rattle.dds.specs.Places.{Stands}
use Rattle.dds.specs.Figures.{Begins, Plain24, PlainDxt1, ExtendedBc3, Volume24, CubesBc6h, AcceptedWith, Whose, FourLevels, TooWide, Figures, image_of}
use Rattle.dds.proofs.Fitting.{pieces_fit, fits_only}
use Rattle.dds.proofs.Tiles.{piece_stands, pieces_between}
use Rattle.dds.proofs.Placing.{tiled}
use Rattle.dds.proofs.Shaped.{limit_few, limit_some}
use Rattle.dds.proofs.Answered.{free, fits_plan, plan_fits}
use Rattle.dds.proofs.Numbering.{pieces_length}
use Rattle.dds.proofs.Halving.{chain_powers}
use Rattle.dds.proofs.Fields.{width_of, height_of, levels_is, plain_begin, extended_begin, read_is, bits_plain, dxt1_plain, plain_flat, plain_cube, plain_volume, line_array, flat_array, cube_array, extended_volume, bits_name, dxt1_name, dxgi_name}

-- what a header says; its other fields are free
record Says (h : Header) (width height levels begin : ℕ) (shape : Shape) (name : FormatName) : Type 0 where
  width_is : h.width ≡ width
  height_is : h.height ≡ height
  levels_is : levels_of h ≡ levels
  begin_is : pixel_begin h ≡ begin
  shape_is : shape_of h ≡ Some shape
  name_is : header_name (name_for plain_rows) h ≡ Some name

-- the plan that a header says
plan_for : ℕ → ℕ → ℕ → ℕ → Shape → FormatName → Plan
plan_for w t l b shape name =
    record {
      elements = elements_of shape;
      levels = l;
      slices = side_at (depth_of shape);
      size = size_at (row_bytes_of name) (rows_of name) w t;
      begin = b;
    }

-- its sizes are in range, and its levels no more than the longest chain
in_limits : ℕ → ℕ → ℕ → Shape → Bool
in_limits w t l shape =
    ((within (limit_of shape) w && within (limit_of shape) t) && (within (limit_of shape) (depth_of shape) && within 2048 (elements_of shape)))
    && not (ltb (longest_chain (max (max w t) (depth_of shape))) l)

module _ {w t l b : ℕ} {shape : Shape} {name : FormatName} (ok : in_limits w t l shape ≡ true) (h : Header) (s : Says h w t l b shape name) where
  shape_ok : shape_read h ≡ Ok shape
  unfolding in_limits
  shape_ok =
      let p = and_parts ((within (limit_of shape) w && within (limit_of shape) t) && (within (limit_of shape) (depth_of shape) && within 2048 (elements_of shape)))
      (not (ltb (longest_chain (max (max w t) (depth_of shape))) l)) ok in
      let width = s.width_is in
      let height = s.height_is in
      let levels = s.levels_is in
      let range : is_in_range h shape ≡ true =
      (λ i. (within (limit_of shape) (width i) && within (limit_of shape) (height i)) && (within (limit_of shape) (depth_of shape) && within 2048 (elements_of shape)))
      ∙ p.0 in
      let chain : ltb (longest_chain (largest_side h shape)) (levels_of h) ≡ false =
      (λ i. ltb (longest_chain (max (max (width i) (height i)) (depth_of shape))) (levels i)) ∙ not-true _ p.1 in
      ap (judged h) s.shape_is ∙ cond-false (not (is_in_range h shape)) _ _ (not_from_true _ range)
      ∙ cond-false (ltb (longest_chain (largest_side h shape)) (levels_of h)) _ _ chain

  plan_is : plan_of h shape (row_bytes_of name) (rows_of name) ≡ plan_for w t l b shape name
  unfolding plan_for
  plan_is =
      let width = s.width_is in
      let height = s.height_is in
      let levels = s.levels_is in
      let begin = s.begin_is in
      λ i. record {
        elements = elements_of shape;
        levels = levels i;
        slices = side_at (depth_of shape);
        size = size_at (row_bytes_of name) (rows_of name) (width i) (height i);
        begin = begin i;
      }

  module _ (x : Reading) (e : header_read x ≡ Ok h) where
    opened_with : (r : Result Layout Refusal) → OpenedBy x (name_for plain_rows) r → Opened x (source_of h) (row_bytes_of name) (rows_of name) r
    opened_with r o =
        subst (λ (y : Option FormatName). OpenedAs x (source_of h) y r) s.name_is
        (subst (λ (y : Result Header Refusal). OpenedIn x (name_for plain_rows) y r) e o)

    -- such a file is accepted where its plan ends at its end
    accepts : end_of (plan_for w t l b shape name) ≡ x.length → (P : Layout → Type 0)
        → ((layout : Layout) → pieces_in layout ≡ pieces_of (plan_for w t l b shape name) → layout.table.length ≡ x.length → P layout)
        → (r : Result Layout Refusal) → OpenedBy x (name_for plain_rows) r → AcceptedWith P r
    accepts end P k (Ok layout) o =
        let a = opened_with (Ok layout) o in
        k layout
        ((fits_only (plan_of h shape (row_bytes_of name) (rows_of name)) x.length (pieces_in layout)
        (fits_plan x (row_bytes_of name) (rows_of name) h shape e shape_ok (pieces_in layout) a.fits)).0 ∙ ap pieces_of plan_is)
        a.table.length
    accepts end P k (Err d) o =
        let a = subst (λ (y : Option Refusal). Turned y d ((ps : List Placed) → Fits x (row_bytes_of name) (rows_of name) ps → ⊥))
        (free x (row_bytes_of name) (rows_of name) h shape e shape_ok) (opened_with (Err d) o) in
        let plan = plan_of h shape (row_bytes_of name) (rows_of name) in
        absurd (a.1 (pieces_of plan) (plan_fits x (row_bytes_of name) (rows_of name) h shape e shape_ok (pieces_of plan)
        (subst (λ m. FitsPlan plan m (pieces_of plan)) (ap end_of plan_is ∙ end) (pieces_fit plan))))

    -- and refused where it does not
    refuses : (end_of (plan_for w t l b shape name) ≡ x.length → ⊥) → (r : Result Layout Refusal) → OpenedBy x (name_for plain_rows) r → r ≡ Err WrongEnd
    refuses not_end (Ok layout) o =
        let a = opened_with (Ok layout) o in
        absurd (not_end (sym ((fits_only (plan_of h shape (row_bytes_of name) (rows_of name)) x.length (pieces_in layout)
        (fits_plan x (row_bytes_of name) (rows_of name) h shape e shape_ok (pieces_in layout) a.fits)).1 ∙ ap end_of plan_is)))
    refuses not_end (Err d) o =
        let a = subst (λ (y : Option Refusal). Turned y d ((ps : List Placed) → Fits x (row_bytes_of name) (rows_of name) ps → ⊥))
        (free x (row_bytes_of name) (rows_of name) h shape e shape_ok) (opened_with (Err d) o) in
        ap Err a.0

abbrev entry_of : Plan → Piece → Placed
entry_of plan p =
    record {
      piece = p;
      place = plan.begin + p.element * stride_of plan + begin_at plan.slices plan.size p.level + p.slice * plan.size p.level;
      length = plan.size p.level;
    }

module _ (layout : Layout) (plan : Plan) (is : pieces_in layout ≡ pieces_of plan) where
  -- the byte of a piece at an offset is answered by that piece and offset
  whose_piece : (p : Piece) → Exists plan p → (place offset : ℕ) → place ≡ (entry_of plan p).place + offset → offset < plan.size p.level
      → Whose place (Ok (Some (p, offset))) layout
  whose_piece p exists place offset at inside r o =
      (tiled layout).leads (entry_of plan p) place (subst (λ (ps : List Placed). Stands ps (entry_of plan p)) (sym is) (piece_stands plan p exists))
      (omega arith, omega arith) r o
      ∙ ap (λ n. Ok (Some (p, n))) (omega arith)

  -- a byte before the pixel data is of no piece
  whose_header : (place : ℕ) → place < plan.begin → place < layout.table.length → Whose place (Ok None) layout
  whose_header place before below (Err x) o = let past = o.1 in absurd (omega arith)
  whose_header place before below (Ok None) o = refl
  whose_header place before below (Ok (Some po)) o =
      let x = o.1.0 in
      let low = (pieces_between plan x (subst (λ (ps : List Placed). Stands ps x) is o.1.1.0)).0 in
      let place_is = o.1.1.2 in
      absurd (omega arith)

whose_past : (layout : Layout) (place : ℕ) → layout.table.length ≤ place → Whose place (Err PastFileEnd) layout
whose_past layout place past (Err x) o = ap Err o.0
whose_past layout place past (Ok po) o = let below = o.0 in absurd (omega arith)

refused : (x : Reading) (h : Header) (d : Refusal) → header_read x ≡ Ok h → shape_read h ≡ Err d → refusal_of x ≡ Some d
refused x h d e f = ap first_refusal e ∙ ap err_of f

-- what the fields of the measured files say
module _ (head : List ℕ) where
  plain_24 : Plain24 head → Says (header_of head) 256 256 9 128 (Flat 1) (Linear 24)
  plain_24 k = record {
    width_is = width_of head k.0;
    height_is = height_of head k.0;
    levels_is = levels_is head k.0;
    begin_is = plain_begin head (bits_plain head k.1.0);
    shape_is = plain_flat head (bits_plain head k.1.0, k.1.1);
    name_is = bits_name head k.1.0;
  }

  plain_dxt1 : PlainDxt1 head → Says (header_of head) 256 64 9 128 (Flat 1) (Block 8)
  plain_dxt1 k = record {
    width_is = width_of head k.0;
    height_is = height_of head k.0;
    levels_is = levels_is head k.0;
    begin_is = plain_begin head (dxt1_plain head k.1.0);
    shape_is = plain_flat head (dxt1_plain head k.1.0, k.1.1);
    name_is = dxt1_name head k.1.0;
  }

  extended_bc3 : ExtendedBc3 head → Says (header_of head) 256 64 9 148 (Flat 1) (Block 16)
  unfolding dxgi_rows name_in
  extended_bc3 k = record {
    width_is = width_of head k.0;
    height_is = height_of head k.0;
    levels_is = levels_is head k.0;
    begin_is = extended_begin head k.1.0.extended;
    shape_is = flat_array head (k.1.0.extended, k.1.1);
    name_is = dxgi_name head 76 k.1.0 refl refl refl;
  }

  volume_24 : Volume24 head → Says (header_of head) 64 64 7 128 (Volume 4) (Linear 24)
  volume_24 k = record {
    width_is = width_of head k.0;
    height_is = height_of head k.0;
    levels_is = levels_is head k.0;
    begin_is = plain_begin head (bits_plain head k.1.0);
    shape_is = plain_volume head (bits_plain head k.1.0, k.1.1);
    name_is = bits_name head k.1.0;
  }

  cubes_bc6h : (count : ℕ) → CubesBc6h count head → Says (header_of head) 256 256 9 148 (Cube (6 * count)) (Block 16)
  unfolding dxgi_rows name_in
  cubes_bc6h count k = record {
    width_is = width_of head k.0;
    height_is = height_of head k.0;
    levels_is = levels_is head k.0;
    begin_is = extended_begin head k.1.0.extended;
    shape_is = cube_array head k.0 (k.1.0.extended, k.1.1);
    name_is = dxgi_name head 94 k.1.0 refl refl refl;
  }

-- the longest chain of a side of at most 7
chain_short : (side : ℕ) → side ≤ 7 → longest_chain side ≤ 3
chain_short side h =
    let d = (chain_powers side).not_more in
    ⊎_elim (λ (e : longest_chain side < 4). omega arith)
    (λ (g : 4 ≤ longest_chain side). let up = pow_mono {i = 4} {j = longest_chain side} g in absurd (omega arith))
    (cases_lt (longest_chain side) 4)

too_wide : (h : Header) (shape : Shape) → shape_of h ≡ Some shape → h.width ≡ 16385 → shape_read h ≡ Err OutOfRange
too_wide h shape has w =
    let limit = limit_few shape in
    let out : is_in_range h shape ≡ false = grind (arith, nat_tests) in
    ap (judged h) has ∙ cond-true (not (is_in_range h shape)) _ _ (not_from_false _ out)

four_levels : (h : Header) (shape : Shape) → shape_of h ≡ Some shape → 1 ≤ depth_of shape → depth_of shape ≤ 7
    → 1 ≤ elements_of shape → elements_of shape ≤ 2048
    → h.width ≡ 4 → h.height ≡ 4 → levels_of h ≡ 4 → shape_read h ≡ Err TooManyLevels
four_levels h shape has deep not_deep some few w t l =
    let limit = limit_some shape in
    let inside : is_in_range h shape ≡ true = grind (arith, nat_tests) in
    let short = chain_short (largest_side h shape) (omega arith) in
    let many : ltb (longest_chain (largest_side h shape)) (levels_of h) ≡ true = lt-ltb _ _ (omega arith) in
    ap (judged h) has ∙ cond-false (not (is_in_range h shape)) _ _ (not_from_true _ inside)
    ∙ cond-true (ltb (longest_chain (largest_side h shape)) (levels_of h)) _ _ many

-- a header that was read, and is 16,385 wide or 4 by 4 with four levels
module _ (head : List ℕ) (n : ℕ) (shape : Shape) (has : shape_of (header_of head) ≡ Some shape) where
  wide : {t l : ℕ} → Begins 16385 t l head → header_read (reading head n) ≡ Ok (header_of head) → refusal_of (reading head n) ≡ Some OutOfRange
  wide b e = refused (reading head n) (header_of head) OutOfRange e (too_wide (header_of head) shape has (width_of head b))

  many : Begins 4 4 4 head → header_read (reading head n) ≡ Ok (header_of head) → 1 ≤ depth_of shape → depth_of shape ≤ 7
      → 1 ≤ elements_of shape → elements_of shape ≤ 2048 → refusal_of (reading head n) ≡ Some TooManyLevels
  many b e deep not_deep some few =
      refused (reading head n) (header_of head) TooManyLevels e
      (four_levels (header_of head) shape has deep not_deep some few (width_of head b) (height_of head b) (levels_is head b))

all_four_levels : FourLevels
all_four_levels = record {
  plain_flat = λ head n b k short long.
      many head n (Flat 1) (plain_flat head k) b (read_is head n b short long (inl k.0)) (lit≤ tt) (lit≤ tt) (lit≤ tt) (lit≤ tt);
  plain_cube = λ head n b k short long.
      many head n (Cube 6) (plain_cube head b k) b (read_is head n b short long (inl k.0)) (lit≤ tt) (lit≤ tt) (lit≤ tt) (lit≤ tt);
  plain_volume = λ depth deep not_deep head n b k short long.
      many head n (Volume depth) (plain_volume head k) b (read_is head n b short long (inl k.0)) deep not_deep (lit≤ tt) (lit≤ tt);
  flat_array = λ count some few head n b k short long.
      many head n (Flat count) (flat_array head k) b (read_is head n b (omega arith) long (inr short)) (lit≤ tt) (lit≤ tt) some few;
  cube_array = λ count some few head n b k short long.
      many head n (Cube (6 * count)) (cube_array head b k) b (read_is head n b (omega arith) long (inr short)) (lit≤ tt) (lit≤ tt) (omega arith) (omega arith);
  extended_volume = λ depth deep not_deep head n b k short long.
      many head n (Volume depth) (extended_volume head k) b (read_is head n b (omega arith) long (inr short)) deep not_deep (lit≤ tt) (lit≤ tt);
}

all_too_wide : TooWide
all_too_wide = record {
  plain_flat = λ t l head n b k short long. wide head n (Flat 1) (plain_flat head k) b (read_is head n b short long (inl k.0));
  plain_cube = λ l head n b k short long. wide head n (Cube 6) (plain_cube head b k) b (read_is head n b short long (inl k.0));
  plain_volume = λ t l depth head n b k short long. wide head n (Volume depth) (plain_volume head k) b (read_is head n b short long (inl k.0));
  line_array = λ l count head n b k short long. wide head n (Line count) (line_array head b k) b (read_is head n b (omega arith) long (inr short));
  flat_array = λ t l count head n b k short long. wide head n (Flat count) (flat_array head k) b (read_is head n b (omega arith) long (inr short));
  cube_array = λ l count head n b k short long. wide head n (Cube (6 * count)) (cube_array head b k) b (read_is head n b (omega arith) long (inr short));
  extended_volume = λ t l depth head n b k short long.
      wide head n (Volume depth) (extended_volume head k) b (read_is head n b (omega arith) long (inr short));
}

accepts_dxt1 : (head : List ℕ) → PlainDxt1 head → (P : Layout → Type 0)
    → ((layout : Layout) → pieces_in layout ≡ pieces_of (plan_for 256 64 9 128 (Flat 1) (Block 8)) → layout.table.length ≡ 11080 → P layout)
    → (r : Result Layout Refusal) → OpenedBy (reading head 11080) (name_for plain_rows) r → AcceptedWith P r
unfolding plan_for in_limits longest_chain
accepts_dxt1 head k =
    accepts refl (header_of head) (plain_dxt1 head k) (reading head 11080) (read_is head 11080 k.0 (lit≤ tt) (lit≤ tt) (inl (dxt1_plain head k.1.0))) refl

pub figures : Figures
unfolding plan_for in_limits longest_chain
figures = record {
  plain = λ head k. accepts refl (header_of head) (plain_24 head k) (reading head 262271) (read_is head 262271 k.0 (lit≤ tt) (lit≤ tt) (inl (bits_plain head k.1.0))) refl
      (λ _. Unit {0}) (λ _ _ _. tt);
  one_more = λ head k. refuses refl (header_of head) (plain_24 head k) (reading head 262272) (read_is head 262272 k.0 (lit≤ tt) (lit≤ tt) (inl (bits_plain head k.1.0)))
      (λ end. omega arith);
  last_byte = λ head k. accepts_dxt1 head k (Whose 11063 (Ok (Some (image_of 6, 7))))
      (λ layout is n. whose_piece layout _ is (image_of 6) (lit< tt, lit< tt, lit< tt) 11063 7 refl (lit< tt));
  next_byte = λ head k. accepts_dxt1 head k (Whose 11064 (Ok (Some (image_of 7, 0))))
      (λ layout is n. whose_piece layout _ is (image_of 7) (lit< tt, lit< tt, lit< tt) 11064 0 refl (lit< tt));
  header_byte = λ head k. accepts_dxt1 head k (Whose 127 (Ok None))
      (λ layout is n. whose_header layout _ is 127 (lit< tt) (omega arith));
  past_end = λ head k. accepts_dxt1 head k (Whose 11080 (Err PastFileEnd))
      (λ layout is n. whose_past layout 11080 (omega arith));
  extended = λ head k. accepts refl (header_of head) (extended_bc3 head k) (reading head 22052) (read_is head 22052 k.0 (lit≤ tt) (lit≤ tt) (inr (lit≤ tt))) refl
      (λ _. Unit {0}) (λ _ _ _. tt);
  volume = λ head k. accepts refl (header_of head) (volume_24 head k) (reading head 56447) (read_is head 56447 k.0 (lit≤ tt) (lit≤ tt) (inl (bits_plain head k.1.0))) refl
      (λ layout. length (pieces_in layout) ≡ 11)
      (λ layout is n. ap length is ∙ pieces_length _);
  cube = λ head k. accepts refl (header_of head) (cubes_bc6h head 1 k) (reading head 524596) (read_is head 524596 k.0 (lit≤ tt) (lit≤ tt) (inr (lit≤ tt))) refl
      (λ _. Unit {0}) (λ _ _ _. tt);
  six_cubes = λ head k. refuses refl (header_of head) (cubes_bc6h head 6 k) (reading head 524596) (read_is head 524596 k.0 (lit≤ tt) (lit≤ tt) (inr (lit≤ tt)))
      (λ end. omega arith);
  four_levels = all_four_levels;
  too_wide = all_too_wide;
}
