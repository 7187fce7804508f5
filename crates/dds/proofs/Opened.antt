-- What the steps of laying out a file come to.
use Rattle.std.proofs.Common.{◌≡◌, ℕ, suc, ◌+◌, ◌*◌, ◌^◌, ◌<◌, ◌≤◌, cond, ltb, List, [], ◌∷◌, ◌++◌, length, get_or, take, drop, replicate, Ok, refl, sym, ap, ◌∙◌, subst, arith}
use Rattle.std.proofs.lemmas.List.{length-take-le}
use Rattle.std.proofs.lemmas.Nat.{mul-le}
use Rattle.std.proofs.lemmas.Bool.Decides.{nat_tests}
use Rattle.dds.specs.declared.header.Header.{Header}
use Rattle.dds.specs.declared.level.Level.{Level}
use Rattle.dds.specs.declared.shape.Shape.{Shape}
use Rattle.dds.specs.LevelEnds.{Sliced, total_of}
use Rattle.dds.specs.Levels.{levels_of, side_at}
use Rattle.dds.specs.Shapes.{elements_of, depth_of, shape_read}
use Rattle.dds.specs.Plans.{plan_of, pixel_begin, stride_of, size_at, begin_at}
use Rattle.dds.specs.Tables.{IsChain, level_at, blank}
use Rattle.dds.specs.Layouts.{sides_of, TableOf}
use Rattle.dds.proofs.Begins.{Lawful, begin_few}
use Rattle.dds.proofs.Halving.{side_some}
use Rattle.dds.proofs.Shaped.{Shaped, shaped}
use Rattle.dds.proofs.Tabled.{chain_total}
use Rattle.dds.proofs.Written.{written}

-- where each level of a list has a slice, the list is sliced
sliced : (xs : List Level) → ((k : ℕ) → k < length xs → 1 ≤ (get_or xs k blank).slices) → Sliced xs
sliced [] f = tt
sliced (x ∷ xs) f = (f 0 (omega arith), sliced xs (λ k h. f (suc k) (omega arith)))

blank_is : (d : Level) → (d.width ≡ 0) × ((d.height ≡ 0) × ((d.slices ≡ 0) × ((d.row_bytes ≡ 0) × ((d.rows ≡ 0) × (d.begin ≡ 0))))) → d ≡ blank
blank_is d e = λ i. record { width = e.0 i; height = e.1.0 i; slices = e.1.1.0 i; row_bytes = e.1.1.1.0 i; rows = e.1.1.1.1.0 i; begin = e.1.1.1.1.1 i }

filled_long : {h : Header} {shape : Shape} {count : ℕ} (d : Level) (filled : List Level) → Shaped h shape → count ≡ levels_of h
    → length filled ≡ length (take count (replicate 15 d)) → length filled ≡ count
filled_long {count = count} d filled ok is e = e ∙ length-take-le count (replicate 15 d) (omega (arith, ok.few_levels))

-- the values that the steps answered, and what each is; the levels that were filled stand before blanks
pub record Steps (h : Header) (shape : Shape) (row_bytes rows : ℕ → ℕ → ℕ) (depth count begin elements stride : ℕ) (filled : List Level) (d : Level) : Type 0 where
  pub ok : Shaped h shape
  pub depth_is : depth ≡ depth_of shape
  pub count_is : count ≡ levels_of h
  pub begin_is : begin ≡ pixel_begin h
  pub elements_is : elements ≡ elements_of shape
  pub blank_is : d ≡ blank
  pub long : length filled ≡ count
  pub chain_is : IsChain row_bytes rows (record { width = h.width; height = h.height; depth = depth }) filled stride

pub steps_of : (h : Header) (shape : Shape) (row_bytes rows : ℕ → ℕ → ℕ) {depth count begin elements stride : ℕ} (filled : List Level) (d : Level)
    → shape_read h ≡ Ok shape → depth ≡ depth_of shape → count ≡ levels_of h → begin ≡ pixel_begin h → elements ≡ elements_of shape
    → (d.width ≡ 0) × ((d.height ≡ 0) × ((d.slices ≡ 0) × ((d.row_bytes ≡ 0) × ((d.rows ≡ 0) × (d.begin ≡ 0)))))
    → length filled ≡ length (take count (replicate 15 d))
    → IsChain row_bytes rows (record { width = h.width; height = h.height; depth = depth }) filled stride
    → Steps h shape row_bytes rows depth count begin elements stride filled d
steps_of h shape row_bytes rows filled d read depth_is count_is begin_is elements_is zeros long chain_is =
    let ok = shaped h shape read in
    record {
      ok = ok;
      depth_is = depth_is;
      count_is = count_is;
      begin_is = begin_is;
      elements_is = elements_is;
      blank_is = blank_is d zeros;
      long = filled_long d filled ok count_is long;
      chain_is = chain_is;
    }

module _ {h : Header} {shape : Shape} {row_bytes rows : ℕ → ℕ → ℕ} {depth count begin elements stride : ℕ} {filled : List Level} {d : Level}
    (s : Steps h shape row_bytes rows depth count begin elements stride filled d) where
  at_rules : IsChain row_bytes rows (sides_of h shape) filled stride
  at_rules =
      subst (λ x. IsChain row_bytes rows (record { width = h.width; height = h.height; depth = x }) filled stride) s.depth_is s.chain_is

  total_is : total_of filled ≡ stride_of (plan_of h shape row_bytes rows)
  total_is =
      chain_total row_bytes rows (sides_of h shape) filled stride at_rules
      ∙ ap (begin_at (side_at (depth_of shape)) (size_at row_bytes rows h.width h.height)) (s.long ∙ s.count_is)

  -- each level that is walked over has a slice
  pub walk_sliced : Sliced filled
  walk_sliced = sliced filled (λ k l. subst (λ m. 1 ≤ m) (sym (ap (λ (x : Level). x.slices) (at_rules.level k l))) (side_some (depth_of shape) k))

  pub walk_fits : Lawful row_bytes rows → begin + elements * total_of filled < 2 ^ 64
  walk_fits law =
      let a = s.begin_is in
      let b = s.elements_is in
      let few = s.ok.few_elements in
      let most = s.ok.few_levels in
      let start : begin ≤ 148 = grind (arith, nat_tests) in
      let bound = begin_few row_bytes rows law (sides_of h shape) s.ok.sides (levels_of h) in
      let total : total_of filled ≤ 1055531162664960 = (let c = total_is in omega arith) in
      let product = mul-le elements (total_of filled) 2048 1055531162664960 (omega arith) total in
      omega arith

  pub made : (n end : ℕ) → end ≡ begin + elements * total_of filled
      → TableOf h shape row_bytes rows n (record { levels = filled ++ drop count (replicate 15 d); level_count = count; elements = elements; stride = stride; pixel_begin = begin; pixel_end = end; length = n })
  made n end e =
      let a = s.begin_is in
      let b = s.elements_is in
      let c = total_is in
      let few = s.ok.few_levels in
      record {
        levels = λ k l.
            written (level_at row_bytes rows (sides_of h shape)) blank d 15 count filled s.blank_is s.long (λ j m. at_rules.level j (let long = s.long in omega arith)) k l
            ∙ ap (λ m. cond (ltb k m) (level_at row_bytes rows (sides_of h shape) k) blank) s.count_is;
        count = s.count_is;
        elements = s.elements_is;
        stride = at_rules.bytes ∙ ap (begin_at (side_at (depth_of shape)) (size_at row_bytes rows h.width h.height)) (s.long ∙ s.count_is);
        begin = s.begin_is;
        end = e ∙ (λ i. a i + b i * c i);
        length = refl;
      }
