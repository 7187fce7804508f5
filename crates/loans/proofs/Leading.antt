-- How much stands before the first mark of a loan.
use Rattle.std.proofs.Common.{◌≡◌, ℕ, ◌+◌, ◌<◌, ◌≤◌, false, ◌≢◌, ◌||◌, List, [], ◌∷◌, length, get_or, take, drop, sym, ap, ◌∙◌, ap₂, take-append-drop, arith}
use Rattle.std.proofs.lemmas.List.{take_more}
use Rattle.std.proofs.lemmas.Bool.{cond-false, eq-eqb, ne_eqb}
use Rattle.std.specs.List.{list_any}
use Rattle.loans.specs.declared.mark.Mark.{Mark}
use Rattle.loans.specs.Stocks.{of_loan, lengths}
use Rattle.loans.specs.steps.Sifting.{Leads}
use Rattle.loans.specs.steps.Taking.{no_mark}
use Rattle.loans.proofs.Marks.{lengths_append}
use Rattle.loans.proofs.Searches.{some_append}

-- so many marks were passed, with so many bytes, and none is the loan's
pub record Passed (ms : List Mark) (n k bytes : ℕ) : Type 0 where
  pub inside : k ≤ length ms
  pub others : list_any (of_loan n) (take k ms) ≡ false
  pub sum : bytes ≡ lengths (take k ms)

module _ {ms : List Mark} {n k bytes : ℕ} (p : Passed ms n k bytes) where
  pub passed_low : bytes ≤ lengths ms
  passed_low = omega (arith, p.sum, lengths_append (take k ms) (drop k ms), ap lengths (take-append-drop k ms))

  pub passed_more : k < length ms → (get_or ms k no_mark).loan ≢ n → Passed ms n (k + 1) (bytes + (get_or ms k no_mark).length)
  passed_more h e =
      let last = get_or ms k no_mark in
      let more = take_more ms k no_mark h in
      record {
        inside = omega (arith, h);
        others =
            ap (list_any (of_loan n)) more ∙ some_append (of_loan n) (take k ms) (last ∷ []) ∙ cond-false _ _ _ p.others
            ∙ ap (λ b. b || false) (ne_eqb n last.loan (λ f. e (sym f)));
        sum = ap₂ (λ a b. a + b) p.sum (omega arith) ∙ sym (ap lengths more ∙ lengths_append (take k ms) (last ∷ []));
      }

  pub leads_here : k < length ms → (get_or ms k no_mark).loan ≡ n → Leads ms n (record { marks = k; bytes = bytes })
  leads_here h e = record { inside = p.inside; others = p.others; bytes = p.sum; next = λ _. eq-eqb n _ (sym e) }

  pub leads_all : k ≡ length ms → Leads ms n (record { marks = length ms; bytes = bytes })
  leads_all e = record {
    inside = omega arith;
    others = ap (λ i. list_any (of_loan n) (take i ms)) (sym e) ∙ p.others;
    bytes = p.sum ∙ ap (λ i. lengths (take i ms)) e;
    next = λ h. absurd (omega arith);
  }
