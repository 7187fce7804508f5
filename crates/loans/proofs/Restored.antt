-- Putting back all that a loan's strokes covered, the newest first.
use Rattle.std.proofs.Common.{◌≡◌, ℕ, ◌+◌, ◌-◌, ◌<◌, ◌≤◌, cond, ◌≢◌, List, [], ◌∷◌, length, get_or, take, drop, sym, ap, ◌∙◌, ap₂, arith, length-drop, take-append-drop, length-take-le, drop-drop, subst₂}
use lib.Seq.{paste}
use Rattle.std.proofs.lemmas.List.Edits.{length-paste}
use Rattle.std.proofs.lemmas.List.{take_more, at_drop_more}
use Rattle.std.proofs.lemmas.Bool.{cond-true, cond-false, eq-eqb, ne_eqb}
use Rattle.loans.specs.declared.mark.Mark.{Mark}
use Rattle.loans.specs.Stocks.{of_loan, lengths}
use Rattle.loans.specs.steps.Taking.{no_mark}
use Rattle.loans.specs.LoanEnds.{restored, InFile}
use Rattle.loans.proofs.Marks.{lengths_append}
use Rattle.loans.proofs.NewestMark.{Stepped}

-- from a position on all is put back
pub record Back (ms : List Mark) (ks f₀ f : List ℕ) (n k end' : ℕ) : Type 0 where
  pub within : k ≤ length ms
  pub end : end' ≡ lengths (take k ms)
  pub file : f ≡ restored n f₀ (drop k ms) (drop end' ks)
  pub sized : length f ≡ length f₀

module _ {ms : List Mark} {ks f₀ f : List ℕ} {n k end : ℕ} (b : Back ms ks f₀ f n k end) (some : 0 < k) (covered : lengths ms ≡ length ks) where
  abbrev last : ℕ
  last = k - 1

  abbrev m : Mark
  m = get_or ms last no_mark

  on : last + 1 ≡ k
  on = omega arith

  pub back_inside : last < length ms
  back_inside = omega (arith, b.within)

  end_is : end ≡ lengths (take last ms) + m.length
  end_is =
      b.end ∙ ap (λ i. lengths (take i ms)) (sym on) ∙ ap lengths (take_more ms last no_mark back_inside)
      ∙ (lengths_append (take last ms) (m ∷ []) ∙ omega arith)

  pub back_long : m.length ≤ end
  back_long = omega (arith, end_is)

  begin_is : end - m.length ≡ lengths (take last ms)
  begin_is = omega (arith, end_is)

  pub back_fits : end ≤ length ks
  back_fits =
      let all = ap lengths (sym (take-append-drop k ms)) ∙ lengths_append (take k ms) (drop k ms) in
      omega (arith, b.end, all, covered)

  rest_is : drop m.length (drop (end - m.length) ks) ≡ drop end ks
  rest_is = let at : end - m.length + m.length ≡ end = omega (arith, back_long) in drop-drop m.length (end - m.length) ks ∙ ap (λ i. drop i ks) at

  step : restored n f₀ (drop last ms) (drop (end - m.length) ks)
      ≡ cond (of_loan n m) (paste f m.place (take m.length (drop (end - m.length) ks)) m.length) f
  step =
      at_drop_more (λ xs. restored n f₀ xs (drop (end - m.length) ks)) ms last no_mark back_inside
      ∙ ap (λ (y : List ℕ). cond (of_loan n m) (paste y m.place (take m.length (drop (end - m.length) ks)) m.length) y)
      (ap₂ (λ (i : ℕ) (y : List ℕ). restored n f₀ (drop i ms) y) on rest_is ∙ sym b.file)

  pub back_other : m.loan ≢ n → Back ms ks f₀ f n last (end - m.length)
  back_other e = record {
    within = omega (arith, back_inside);
    end = begin_is;
    file = sym (step ∙ cond-false _ _ _ (ne_eqb n m.loan (λ g. e (sym g))));
    sized = b.sized;
  }

  pub back_one : m.loan ≡ n → InFile (length f₀) ms → (f' part : List ℕ) → part ≡ take (end - (end - m.length)) (drop (end - m.length) ks)
      → f' ≡ paste f m.place part (length part) → Back ms ks f₀ f' n last (end - m.length)
  back_one e inside f' part is laid =
      let long : end - (end - m.length) ≡ m.length = omega (arith, back_long) in
      let part-is : part ≡ take m.length (drop (end - m.length) ks) = is ∙ ap (λ i. take i (drop (end - m.length) ks)) long in
      let len : length part ≡ m.length =
      ap length part-is ∙ length-take-le m.length (drop (end - m.length) ks) (omega (arith, length-drop (end - m.length) ks, back_fits, back_long)) in
      let now : f' ≡ paste f m.place (take m.length (drop (end - m.length) ks)) m.length =
      laid ∙ ap₂ (λ (y : List ℕ) (i : ℕ). paste f m.place y i) part-is len in
      record {
        within = omega (arith, back_inside);
        end = begin_is;
        file = now ∙ sym (step ∙ cond-true _ _ _ (eq-eqb n m.loan (sym e)));
        sized = ap length laid ∙ length-paste f m.place part (length part) (omega (arith, inside last back_inside, len, b.sized)) (omega arith) ∙ b.sized;
      }

-- the steps of `back_other` and `back_one`, by the last mark and the marks before it
module _ {ms xs ys : List Mark} {ks f₀ f : List ℕ} {n end : ℕ} {m : Mark} (s : Stepped ms xs ys m) (b : Back ms ks f₀ f n (length xs) end)
    (covered : lengths ms ≡ length ks) where
  pub past_other : m.loan ≢ n → Back ms ks f₀ f n (length ys) (end - m.length)
  past_other =
      subst₂ (λ (x : Mark) (k : ℕ). x.loan ≢ n → Back ms ks f₀ f n k (end - x.length)) s.last s.less (back_other b s.some covered)

  pub past_one : m.loan ≡ n → InFile (length f₀) ms → (f' part : List ℕ) → part ≡ take (end - (end - m.length)) (drop (end - m.length) ks)
      → f' ≡ paste f m.place part (length part) → Back ms ks f₀ f' n (length ys) (end - m.length)
  past_one =
      subst₂ (λ (x : Mark) (k : ℕ). x.loan ≡ n → InFile (length f₀) ms → (f' part : List ℕ) → part ≡ take (end - (end - x.length)) (drop (end - x.length) ks)
      → f' ≡ paste f x.place part (length part) → Back ms ks f₀ f' n k (end - x.length)) s.last s.less (back_one b s.some covered)
