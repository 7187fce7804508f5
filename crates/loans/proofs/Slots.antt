-- Which loan has a number, and where it stands.
use Rattle.std.proofs.Common.{◌≡◌, ℕ, suc, ◌<◌, ◌≤◌, Bool, false, cond, eqb, ltb, ◌≢◌, List, [], ◌∷◌, length, get_or, take, Some, None, Option, sym, refl, ◌∙◌, subst, ⊎_elim, arith, length-take-le}
use Rattle.std.specs.List.{list_any, position_or_len}
use Rattle.std.proofs.lemmas.List.{get_or-take}
use Rattle.std.proofs.lemmas.List.Sums.{fails_before_first, passes_at_first}
use Rattle.std.proofs.lemmas.Bool.{or_from, cases_lt, cond-true, cond-false, lt-ltb, le-ltb, eqb-true, eqb-false, eq-eqb, ne_eqb}
use Rattle.loans.specs.declared.loan.Loan.{Loan}
use Rattle.loans.specs.Ledgers.{no_loan}
use Rattle.loans.specs.Stocks.{is_number}
use Rattle.loans.specs.steps.Finding.{IsAt, Found}
use Rattle.loans.proofs.Searches.{first_at}

-- none of the loans has the number, where none at any position has
pub none_has : (ls : List Loan) (n : ℕ) → ((j : ℕ) → j < length ls → (get_or ls j no_loan).number ≢ n) → list_any (is_number n) ls ≡ false
none_has [] n h = refl
none_has (l ∷ ls) n h =
    or_from (is_number n l) (list_any (is_number n) ls) (ne_eqb n l.number (λ e. h 0 (omega arith) (sym e))) (none_has ls n (λ j f. h (suc j) (omega arith)))

-- the first that has the number
pub first_is_at : (ls : List Loan) (n k : ℕ) → k < length ls → ((j : ℕ) → j < k → (get_or ls j no_loan).number ≢ n) → (get_or ls k no_loan).number ≡ n
    → IsAt ls n k
first_is_at ls n k inside before here =
    let none = none_has (take k ls) n (λ j h. let h' : j < k = omega (arith, length-take-le k ls (omega arith)) in
    subst (λ (x : Loan). x.number ≢ n) (sym (get_or-take k ls j no_loan h')) (before j h')) in
    let first = first_at (is_number n) no_loan no_loan ls k inside none (eq-eqb n _ (sym here)) in
    record { inside = inside; out = first.1; number = here; found = first.0 }

module _ (ls : List Loan) (n : ℕ) where
  abbrev has : Loan → Bool
  has l = eqb l.number n

  abbrev k : ℕ
  k = position_or_len has ls

  before : (j : ℕ) → j < k → (get_or ls j no_loan).number ≢ n
  before j h = eqb-false _ _ (fails_before_first has ls j no_loan h)

  -- what a search for the number answers
  pub found_at : (r : Option ℕ) → r ≡ cond (ltb k (length ls)) (Some k) None → Found ls n r
  found_at r e =
      ⊎_elim
      (λ (inside : k < length ls).
      subst (Found ls n) (sym (e ∙ cond-true _ _ _ (lt-ltb k (length ls) inside)))
      (first_is_at ls n k inside before (eqb-true _ _ (passes_at_first has ls no_loan inside))))
      (λ (past : length ls ≤ k).
      subst (Found ls n) (sym (e ∙ cond-false _ _ _ (le-ltb k (length ls) past))) (none_has ls n (λ j h. before j (omega arith))))
      (cases_lt k (length ls))
