-- What a ledger holds once a loan has ended.
use Rattle.std.proofs.Common.{◌≡◌, ℕ, suc, ◌+◌, ◌-◌, ◌*◌, ◌<◌, ◌≤◌, Bool, true, false, cond, not, eqb, ◌≢◌, List, [], ◌∷◌, ◌++◌, map, length, get_or, take, drop, sym, refl, ap, ◌∙◌, subst, ap₂, subst₂, ⊎_elim, arith, length-drop, length-take-le, take-take, take-add, drop_at}
use Rattle.std.proofs.lemmas.List.{get_or-take, get_or-drop, get_or_append_left, get_or-append_right}
use Rattle.std.proofs.lemmas.Bool.{cases_lt, cond-false, eqb-true, eqb-false, eq-eqb, ne_eqb, and_parts}
use Rattle.shelf.proofs.Runs.{slid_front}
use Rattle.loans.specs.declared.outcome.Outcome.{Outcome}
use Rattle.loans.specs.declared.outcome.Outcome.TheVariants.{Kept, Cancelled}
use Rattle.dds.specs.declared.layout.Layout.{Layout}
use Rattle.loans.specs.declared.ledger.Ledger.{Ledger}
use Rattle.loans.specs.declared.loan.Loan.{Loan}
use Rattle.loans.specs.declared.mark.Mark.{Mark}
use Rattle.loans.specs.Lists.{less_all}
use Rattle.loans.specs.Ledgers.{InOrder, Balanced, Inside, NumbersGiven, NumbersRise, outs, no_loan}
use Rattle.loans.specs.Books.{book_in}
use Rattle.loans.specs.Stocks.{Stock, is_number, of_loan, marks_of, all_counted}
use Rattle.loans.specs.Strokes.{counted_loan}
use Rattle.loans.specs.steps.Finding.{IsAt}
use Rattle.loans.specs.steps.Writing.{kept_by, cancelled_by, ledger_ended, book_ended}
use Rattle.loans.proofs.Counting.{rise_in, rise_from}
use Rattle.loans.proofs.Marks.{marks_cons}
use Rattle.loans.proofs.Recounting.{other_number}
use Rattle.loans.proofs.Searches.{less_at}
use Rattle.loans.proofs.Slots.{none_has}
use Rattle.loans.proofs.Sifted.{length_slid}

-- the marks of other loans stay
pub others_stay : (n m : ℕ) (ms : List Mark) → m ≢ n → marks_of m (less_all (of_loan n) ms) ≡ marks_of m ms
others_stay n m [] ne = refl
others_stay n m (x ∷ ms) ne = go (eqb n x.loan) refl (others_stay n m ms ne) ∙ sym (marks_cons m x ms)
  where
    go : (b : Bool) → eqb n x.loan ≡ b → marks_of m (less_all (of_loan n) ms) ≡ marks_of m ms
        → marks_of m (cond (not b) (x ∷ less_all (of_loan n) ms) (less_all (of_loan n) ms)) ≡ cond (of_loan m x) (suc (marks_of m ms)) (marks_of m ms)
    go true e r =
        let other : m ≢ x.loan = λ f. ne (f ∙ sym (eqb-true n x.loan e)) in
        r ∙ sym (cond-false (of_loan m x) _ _ (ne_eqb m x.loan other))
    go false e r = marks_cons m x (less_all (of_loan n) ms) ∙ ap (λ y. cond (of_loan m x) (suc y) y) r

-- those that stay are counted as before
pub recount_less : (ls : List Loan) (n : ℕ) (ms : List Mark) → all_counted ls ms ≡ true
    → map (counted_loan (less_all (of_loan n) ms)) (less_all (is_number n) ls) ≡ less_all (is_number n) ls
recount_less [] n ms h = refl
recount_less (l ∷ ls) n ms h = go (eqb n l.number) refl (recount_less ls n ms (and_parts (eqb l.strokes (marks_of l.number ms)) (all_counted ls ms) h).1)
  where
    go : (b : Bool) → eqb n l.number ≡ b → map (counted_loan (less_all (of_loan n) ms)) (less_all (is_number n) ls) ≡ less_all (is_number n) ls
        → map (counted_loan (less_all (of_loan n) ms)) (cond (not b) (l ∷ less_all (is_number n) ls) (less_all (is_number n) ls)) ≡ cond (not b) (l ∷ less_all (is_number n) ls) (less_all (is_number n) ls)
    go true e r = r
    go false e r =
        let other : l.number ≢ n = λ f. eqb-false n l.number e (sym f) in
        let strokes : marks_of l.number (less_all (of_loan n) ms) ≡ l.strokes =
        others_stay n l.number ms other ∙ sym (eqb-true l.strokes (marks_of l.number ms) (and_parts (eqb l.strokes (marks_of l.number ms)) (all_counted ls ms) h).0) in
        λ i. record { number = l.number; borrower = l.borrower; piece = l.piece; area = l.area; strokes = strokes i } ∷ r i

-- the loans without the one at a position
pub less_here : (ls : List Loan) (n k : ℕ) → NumbersRise ls → IsAt ls n k → less_all (is_number n) ls ≡ take k ls ++ drop (k + 1) ls
less_here ls n k rising at =
    let on : suc k ≡ k + 1 = omega arith in
    less_at (is_number n) no_loan ls k at.inside
    (none_has (take k ls) n (λ j f. let f' : j < k = omega (arith, length-take-le k ls (omega (arith, at.inside))) in let ne : j ≢ k = omega arith in
    subst (λ (x : Loan). x.number ≢ n) (sym (get_or-take k ls j no_loan f')) (other_number ls rising n k j at (omega (arith, at.inside)) ne)))
    (eq-eqb n (get_or ls k no_loan).number (sym at.number))
    (none_has (drop (suc k) ls) n (λ j f. let ne : suc k + j ≢ k = omega arith in
    subst (λ (x : Loan). x.number ≢ n) (sym (get_or-drop (suc k) ls j no_loan)) (other_number ls rising n k (suc k + j) at (omega (arith, length-drop (suc k) ls)) ne)))
    ∙ ap (λ i. take k ls ++ drop i ls) on

module _ (l : Ledger) (b : Balanced l) (k more less m y : ℕ) (out : k < l.out) where
  abbrev new : List Loan
  new = (ledger_ended l k more less m y).loans

  front : take (l.out - 1) new ≡ take k l.loans ++ take (l.out - (k + 1)) (drop (k + 1) l.loans)
  front =
      let c = b.0 in
      let d = b.1 in
      let all : l.out - 1 ≡ k + (l.out - (k + 1)) = omega arith in
      ap (λ i. take i new) all ∙ slid_front l.loans (k + 1) (l.out - (k + 1)) k (omega arith) (omega arith)

  -- the loans that stay out
  pub ended_outs : outs (ledger_ended l k more less m y) ≡ take k (outs l) ++ drop (k + 1) (outs l)
  ended_outs =
      let c = b.0 in
      let d = b.1 in
      let all : l.out ≡ k + 1 + (l.out - (k + 1)) = omega arith in
      let len : length (take (k + 1) l.loans) ≡ k + 1 = length-take-le (k + 1) l.loans (omega arith) in
      let behind : drop (k + 1) (outs l) ≡ take (l.out - (k + 1)) (drop (k + 1) l.loans) =
      ap (λ i. drop (k + 1) (take i l.loans)) all ∙ ap (drop (k + 1)) (take-add (k + 1) (l.out - (k + 1)) l.loans)
      ∙ drop_at (take (k + 1) l.loans) (take (l.out - (k + 1)) (drop (k + 1) l.loans)) (k + 1) len in
      front ∙ ap₂ (λ a b. a ++ b) (sym (take-take k l.out l.loans (omega arith))) (sym behind)

  pub ended_balanced : more + less ≡ 1 → Balanced (ledger_ended l k more less m y)
  ended_balanced one =
      let c = b.0 in
      let d = b.1 in
      let e = b.3 in
      (length_slid l.loans (k + 1) (l.out - (k + 1)) k (omega arith) (omega arith) ∙ c, omega arith, b.2, omega arith)

  -- the loan at a position stood there or one position further on
  at_below : (j : ℕ) → j < l.out - 1 → j < k → get_or new j no_loan ≡ get_or l.loans j no_loan
  at_below j h f =
      let c = b.0 in
      let d = b.1 in
      let len : length (take k l.loans) ≡ k = length-take-le k l.loans (omega arith) in
      sym (get_or-take (l.out - 1) new j no_loan h) ∙ ap (λ xs. get_or xs j no_loan) front
      ∙ get_or_append_left (take k l.loans) (take (l.out - (k + 1)) (drop (k + 1) l.loans)) no_loan j (omega arith) ∙ get_or-take k l.loans j no_loan f

  at_above : (j : ℕ) → j < l.out - 1 → k ≤ j → get_or new j no_loan ≡ get_or l.loans (j + 1) no_loan
  at_above j h f =
      let c = b.0 in
      let d = b.1 in
      let len : length (take k l.loans) ≡ k = length-take-le k l.loans (omega arith) in
      let on : k + 1 + (j - k) ≡ j + 1 = omega arith in
      sym (get_or-take (l.out - 1) new j no_loan h) ∙ ap (λ xs. get_or xs j no_loan) front
      ∙ get_or-append_right (take k l.loans) (take (l.out - (k + 1)) (drop (k + 1) l.loans)) k j no_loan len f
      ∙ get_or-take (l.out - (k + 1)) (drop (k + 1) l.loans) (j - k) no_loan (omega arith) ∙ get_or-drop (k + 1) l.loans (j - k) no_loan
      ∙ ap (λ i. get_or l.loans i no_loan) on

  -- some loan that was out stands at a position
  record Was (j : ℕ) : Type 0 where
    old : ℕ
    is : get_or new j no_loan ≡ get_or l.loans old no_loan
    still : old < l.out

  was : (j : ℕ) → j < l.out - 1 → Was j
  was j h = ⊎_elim
      (λ (f : j < k). record { old = j; is = at_below j h f; still = omega arith })
      (λ (f : k ≤ j). record { old = j + 1; is = at_above j h f; still = omega arith })
      (cases_lt j k)

  pub ended_inside : (a : ℕ) → Inside a l → Inside a (ledger_ended l k more less m y)
  ended_inside a inside j h =
      let w = was j h in
      subst (λ (x : Loan). (x.area.place + x.area.length ≤ a) × (x.area.length ≡ x.area.row_bytes * x.area.rows)) (sym w.is) (inside w.old w.still)

  pub ended_given : NumbersGiven l → NumbersGiven (ledger_ended l k more less m y)
  ended_given given j h = let w = was j h in subst (λ (x : Loan). x.number ≤ l.granted) (sym w.is) (given w.old w.still)

  pub ended_rising : more + less ≡ 1 → NumbersRise (outs l) → NumbersRise (outs (ledger_ended l k more less m y))
  ended_rising one rising =
      let c = (ended_balanced one).0 in
      let d = (ended_balanced one).1 in
      rise_from (ledger_ended l k more less m y) (omega arith) in_memory
    where
      Less : Loan → Loan → Type 0
      Less x y = x.number < y.number

      was_less : (i j : ℕ) → i < j → j < l.out → Less (get_or l.loans i no_loan) (get_or l.loans j no_loan)
      was_less = rise_in l b rising

      in_memory : (i j : ℕ) → i < j → j < l.out - 1 → Less (get_or new i no_loan) (get_or new j no_loan)
      in_memory i j h f =
          let g : i < l.out - 1 = omega arith in
          ⊎_elim
          (λ (below : i < k).
          ⊎_elim
          (λ (low : j < k). subst₂ Less (sym (at_below i g below)) (sym (at_below j f low)) (was_less i j h (omega arith)))
          (λ (high : k ≤ j). subst₂ Less (sym (at_below i g below)) (sym (at_above j f high)) (was_less i (j + 1) (omega arith) (omega arith)))
          (cases_lt j k))
          (λ (above : k ≤ i).
          let high : k ≤ j = omega arith in
          subst₂ Less (sym (at_above i g above)) (sym (at_above j f high)) (was_less (i + 1) (j + 1) (omega arith) (omega arith)))
          (cases_lt i k)

  pub ended_in_order : more + less ≡ 1 → (a : ℕ) → InOrder a l → InOrder a (ledger_ended l k more less m y)
  ended_in_order one a o =
      record { balanced = ended_balanced one; inside = ended_inside a o.inside; given = ended_given o.given; rising = ended_rising one o.rising }

-- a job's book after one of its loans ended
pub ended_in : (l : Ledger) (b : Balanced l) (k : ℕ) (outcome : Outcome) (m y : ℕ) → k < l.out → (z : Layout) (stock : Stock) → m ≡ length stock.marks → y ≡ length stock.bytes
    → book_in z (ledger_ended l k (kept_by outcome) (cancelled_by outcome) m y) ≡ book_ended (book_in z l) k outcome stock
ended_in l b k outcome m y out z stock marks' bytes' =
    let outs' = ended_outs l b k (kept_by outcome) (cancelled_by outcome) m y out in
    λ i. record {
      layout = z;
      number = l.number;
      outs = outs' i;
      granted = l.granted;
      kept = l.kept + kept_by outcome;
      cancelled = l.cancelled + cancelled_by outcome;
      marks = marks' i;
      bytes = bytes' i;
    }

-- each ending counts one loan
pub counts_one : (e : Outcome) → kept_by e + cancelled_by e ≡ 1
counts_one Kept = refl
counts_one Cancelled = refl
