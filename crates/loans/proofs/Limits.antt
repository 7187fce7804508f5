-- What no call exceeds: the shelves can hold as much after it as before, and its number is at most the limit.
use Rattle.std.proofs.Common.{ℕ, ◌≤◌, List, [], ◌∷◌, length, Some, None, Option, Ok, Err, Result, sym, refl, ap, ◌∙◌, subst, arith}
use Rattle.std.specs.Prelude.{IfOk}
use Rattle.refusal.specs.declared.Refusal.{Refusal}
use Rattle.loans.specs.Books.{Book, Orderly}
use Rattle.loans.specs.Calls.{Called}
use Rattle.loans.specs.Stocks.{Stock, ShelfPair, stock_of, Fits, SameRoom, answer_limit}
use Rattle.loans.specs.Strokes.{State, state_of}
use Rattle.loans.specs.Rules.{Request, number_for, left, after, after_all, call_refusal, carried_out}
use Rattle.loans.specs.Rules.Request.{lend, paint, undo}
use Rattle.loans.proofs.Tallying.{marks_few}
use Rattle.loans.proofs.Calling.{called_state}

-- ---- the shelves can hold as much

pub same_itself : (k : Stock) → SameRoom k k
same_itself k = record { marks = refl; bytes = refl }

pub same_then : {k m n : Stock} → SameRoom k m → SameRoom m n → SameRoom k n
same_then a b = record { marks = b.marks ∙ a.marks; bytes = b.bytes ∙ a.bytes }

same_carried : (s : State) (d : Request) → SameRoom s.stock (carried_out s d).stock
same_carried s (lend p who) = record { marks = refl; bytes = refl }
same_carried s d = record { marks = refl; bytes = refl }

same_after : (s : State) (d : Request) → SameRoom s.stock (after s d).stock
same_after s d = go (call_refusal s d)
  where
    go : (r : Option Refusal) → SameRoom s.stock (left r s (carried_out s d)).stock
    go None = same_carried s d
    go (Some e) = same_itself s.stock

pub same_after_all : (s : State) (ds : List Request) → SameRoom s.stock (after_all s ds).stock
same_after_all s [] = same_itself s.stock
same_after_all s (d ∷ ds) = same_then (same_after s d) (same_after_all (after s d) ds)

-- ---- a number is at most the limit

-- what holds of a job's book and of its shelves, as far as a number goes by it
record Counted (s : State) : Type 0 where
  granted : s.book.granted ≤ 65535
  outs : length s.book.outs ≤ 32
  marks : length s.stock.marks ≤ s.stock.most_marks

number_within : (s : State) → Counted s → (d : Request) → number_for s d ≤ answer_limit s.stock
number_within s c (lend p who) = omega (arith, c.granted)
number_within s c (paint p) = omega (arith, c.marks, marks_few p.loan s.stock.marks)
number_within s c (undo n who) = omega (arith, c.marks, marks_few n s.stock.marks)
number_within s c d = omega (arith, c.outs)

module _ (d : Request) (j j' : Book) (f f' : List ℕ) (v v' : ShelfPair) where
  pub called_room : (r : Result ℕ Refusal) → Called d j f v r j' f' v' → SameRoom (stock_of v) (stock_of v')
  called_room r c =
      subst (λ (s : State). SameRoom (stock_of v) s.stock) (sym (called_state d j j' f f' v v' r c)) (same_after (state_of j f (stock_of v)) d)

  pub called_within : Orderly j' → Fits (stock_of v') → (r : Result ℕ Refusal) → Called d j f v r j' f' v' → IfOk r (λ n. n ≤ answer_limit (stock_of v))
  called_within orderly fits (Ok n) c =
      let same = called_room (Ok n) c in
      let counted : Counted (state_of j' f' (stock_of v')) = record { granted = orderly.numbers; outs = orderly.few; marks = fits.marks } in
      omega (arith, same.marks, c.answer, ap (λ (s : State). number_for s d) c.state, number_within (state_of j' f' (stock_of v')) counted d)
  called_within orderly fits (Err e) c = tt
