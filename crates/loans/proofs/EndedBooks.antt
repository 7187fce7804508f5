-- What a keep and a cancel that are carried out leave.
use Rattle.std.proofs.Common.{◌≡◌, ℕ, ◌+◌, ◌++◌, true, not, List, map, length, take, drop, sym, ap, ◌∙◌}
use Rattle.std.proofs.lemmas.Bool.{cond-false, not_from_true, eq-eqb}
use Rattle.loans.specs.declared.outcome.Outcome.{Outcome}
use Rattle.loans.specs.declared.outcome.Outcome.TheVariants.{Kept, Cancelled}
use Rattle.loans.specs.declared.loan.Loan.{Loan}
use Rattle.loans.specs.Lists.{less_all}
use Rattle.loans.specs.Books.{Book, Orderly}
use Rattle.loans.specs.Stocks.{Stock, is_number, is_out, are_own}
use Rattle.loans.specs.steps.Finding.{IsAt}
use Rattle.loans.specs.Strokes.{state_of, is_other_length, recounted, counted_loan}
use Rattle.loans.specs.LoanEnds.{stock_without, book_without, restored}
use Rattle.loans.specs.Rules.Request.{keep, cancel}
use Rattle.loans.specs.Calls.{Carried}
use Rattle.loans.specs.steps.Writing.{kept_by, cancelled_by, book_ended}
use Rattle.loans.proofs.Allowed.{own_shelves}
use Rattle.loans.proofs.Ended.{less_here, recount_less}

-- the steps of a keep or a cancel: what they left, and what each is
pub record EndSteps (s t : Book) (v w : Stock) (n k : ℕ) (outcome : Outcome) (left : ℕ) : Type 0 where
  pub orderly : Orderly s
  pub loan : IsAt s.outs n k
  pub own_shelves : are_own s v ≡ true
  pub shelves : w ≡ stock_without v n
  pub book : t ≡ book_ended s k outcome w
  pub answer : left ≡ length t.outs

module _ {s t : Book} {v w : Stock} {n k left : ℕ} {outcome : Outcome} (x : EndSteps s t v w n k outcome left) where
  outs_are : take k s.outs ++ drop (k + 1) s.outs ≡ map (counted_loan (stock_without v n).marks) (less_all (is_number n) s.outs)
  outs_are =
      sym (less_here s.outs n k x.orderly.rising x.loan) ∙ sym (recount_less s.outs n v.marks (own_shelves s v x.own_shelves).counted)

  pub ended_book : t ≡ recounted (book_without s n (kept_by outcome) (cancelled_by outcome)) (stock_without v n)
  ended_book =
      x.book ∙ ap (λ (k' : Stock). book_ended s k outcome k') x.shelves
      ∙ ap (λ (ls : List Loan). let b : Book = record (book_ended s k outcome (stock_without v n)) { outs = ls } in b) outs_are

  ended_answer : left ≡ length (recounted (book_without s n (kept_by outcome) (cancelled_by outcome)) (stock_without v n)).outs
  ended_answer = x.answer ∙ ap (λ (b : Book). length b.outs) ended_book

pub keep_carried : {s t : Book} {v w : Stock} {n k left : ℕ} → EndSteps s t v w n k Kept left → (f : List ℕ) → Carried (keep n) (state_of s f v) left (state_of t f w)
keep_carried {s} {t} {v} {w} {n} {k} x f = record {
  none = cond-false (not (is_out s.outs n)) _ _ (not_from_true _ x.loan.out) ∙ cond-false (not (are_own s v)) _ _ (not_from_true _ x.own_shelves);
  answer = ended_answer x;
  state = λ i. record { book = ended_book x i; file = f; stock = x.shelves i };
}

pub cancel_carried : {s t : Book} {v w : Stock} {n k left : ℕ} {f f' : List ℕ} → EndSteps s t v w n k Cancelled left
    → length f ≡ s.layout.table.length → f' ≡ restored n f v.marks v.bytes → Carried (cancel n) (state_of s f v) left (state_of t f' w)
cancel_carried {s} {t} {v} {w} {n} {k} {left} {f} {f'} x sized file = record {
  none =
      cond-false (is_other_length (state_of s f v)) _ _ (not_from_true _ (eq-eqb _ _ sized))
      ∙ cond-false (not (is_out s.outs n)) _ _ (not_from_true _ x.loan.out) ∙ cond-false (not (are_own s v)) _ _ (not_from_true _ x.own_shelves);
  answer = ended_answer x;
  state = λ i. record { book = ended_book x i; file = file i; stock = x.shelves i };
}
