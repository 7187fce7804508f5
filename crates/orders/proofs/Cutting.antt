-- How a text is cut into its lines.
use Rattle.std.proofs.Common.{ltb, ◌≡◌, ℕ, ◌+◌, ◌<◌, Bool, true, false, cond, List, [], ◌∷◌, length, take, drop, Some, None, Option, refl, ap, ap₂, ◌∙◌, arith, length-drop}
use Rattle.std.proofs.lemmas.Bool.{ltb-true, ne_eqb}
use Rattle.std.proofs.lemmas.Option.{cond_some}
use Rattle.std.proofs.lemmas.Iterator.Adapters.{position_from-zero}
use Rattle.std.proofs.lemmas.List.Splits.{slice_split_first, length-slice_split}
use Rattle.std.specs.List.{slice_split, position_from, position_or_len, count_by}
use Rattle.orders.specs.Lines.{is_end, less_empty_end, lines_of, Begins}

one_more : (l : List ℕ) (ls : List (List ℕ)) → 0 < length ls → less_empty_end (l ∷ ls) ≡ l ∷ less_empty_end ls
one_more l [] h = absurd (omega arith)
one_more l (m ∷ ls) h = refl

tested : (b : Bool) (i : ℕ) (o : Option ℕ) → cond b (Some i) o ≡ None → (b ≡ false) × (o ≡ None)
tested true i o h = absurd cc
tested false i o h = (refl, h)

-- no line ends
whole : (text : List ℕ) (i : ℕ) → position_from is_end i text ≡ None → slice_split is_end text ≡ text ∷ []
whole [] i h = refl
whole (b ∷ text) i h = let t = tested (is_end b) i _ h in rw (t.0, whole text (i + 1) t.1) refl

pub begins_none : (text : List ℕ) → position_from is_end 0 text ≡ None → Begins text text []
begins_none text h some = (ap less_empty_end (whole text 0 h) ∙ rw (ne_eqb (length text) 0 (λ e. omega arith)) refl, some)

pub begins_some : (text : List ℕ) (n : ℕ) → position_from is_end 0 text ≡ Some n → Begins text (take n text) (drop (n + 1) text)
begins_some text n h some =
    let at : ℕ = position_or_len is_end text in
    let c : (ltb at (length text) ≡ true) × (at ≡ n) = cond_some _ _ n (position_from-zero is_end text ∙ h) in
    let inside : at < length text = ltb-true _ _ c.0 in
    let rest : List (List ℕ) = slice_split is_end (drop (at + 1) text) in
    let some_rest : length rest ≡ count_by is_end (drop (at + 1) text) + 1 = length-slice_split is_end (drop (at + 1) text) in
    let cut = one_more (take at text) rest (omega (arith, some_rest)) in
    let same : at ≡ n = c.1 in (
      ap less_empty_end (slice_split_first is_end text 0 inside) ∙ cut ∙ ap₂ (λ (l : List ℕ) (ls : List (List ℕ)). l ∷ ls) (ap (λ k. take k text) same) (ap (λ k. lines_of (drop (k + 1) text)) same),
      omega (arith, length-drop (n + 1) text, same, inside),
    )

-- a line's end stands in the text
pub end_inside : (text : List ℕ) (n : ℕ) → position_from is_end 0 text ≡ Some n → n < length text
end_inside text n h =
    let at : ℕ = position_or_len is_end text in
    let c : (ltb at (length text) ≡ true) × (at ≡ n) = cond_some _ _ n (position_from-zero is_end text ∙ h) in
    let inside : at < length text = ltb-true _ _ c.0 in
    omega (arith, c.1, inside)
