-- What each call on a job answers and leaves, in one place: the single calls and the law over lists of calls both cite this.
use Rattle.std.specs.Prelude.{ℕ, List, [], ◌∷◌, length, Some, None, Ok, Err, Option, Result}
use Rattle.refusal.specs.declared.Refusal.{Refusal}
use Rattle.dds.specs.declared.piece.Piece.{Piece}
use Rattle.loans.specs.declared.call.Call.{Call}
use Rattle.loans.specs.declared.call.Call.TheVariants.{Loan, Paint, Undo, Keep, Cancel}
use Rattle.loans.specs.Lending.{loan_refusal, with_loan}
use Rattle.loans.specs.Stocks.{marks_of}
use Rattle.loans.specs.Strokes.{State, Painting, painting_of, paint_refusal, painted, undo_refusal, undone}
use Rattle.loans.specs.LoanEnds.{keep_refusal, kept_book, stock_without, cancel_refusal, cancelled}

-- a call with its arguments, the bytes of a paint included
pub data Request : Type 0 where
  lend : Piece → ℕ → Request
  paint : Painting → Request
  undo : ℕ → ℕ → Request
  keep : ℕ → Request
  cancel : ℕ → Request

-- what a call of the code asks for
abbrev pub request_of : Call → Request
request_of (Loan p who) = lend p who
request_of (Paint p) = paint (painting_of p)
request_of (Undo n who) = undo n who
request_of (Keep n) = keep n
request_of (Cancel n) = cancel n

-- the first refusal that applies
abbrev pub call_refusal : State → Request → Option Refusal
call_refusal s (lend p who) = loan_refusal s.book p
call_refusal s (paint p) = paint_refusal s p
call_refusal s (undo n who) = undo_refusal s n who
call_refusal s (keep n) = keep_refusal s.book s.stock n
call_refusal s (cancel n) = cancel_refusal s n

-- what a call that is carried out leaves
abbrev pub carried_out : State → Request → State
carried_out s (lend p who) = record s { book = with_loan s.book p who }
carried_out s (paint p) = painted s p
carried_out s (undo n who) = undone s n
carried_out s (keep n) = record s { book = kept_book s.book s.stock n; stock = stock_without s.stock n }
carried_out s (cancel n) = cancelled s n

-- the number that it answers, read off what it leaves: the loan's number, the loan's undoable strokes, or how many loans are still out
abbrev pub number_for : State → Request → ℕ
number_for t (lend p who) = t.book.granted
number_for t (paint p) = marks_of p.loan t.stock.marks
number_for t (undo n who) = marks_of n t.stock.marks
number_for t (keep n) = length t.book.outs
number_for t (cancel n) = length t.book.outs

-- the refusal that applies, or the number where none does
abbrev pub refusal_or : Option Refusal → ℕ → Result ℕ Refusal
refusal_or None n = Ok n
refusal_or (Some e) n = Err e

-- what stood before where a refusal applies, else what the call leaves
abbrev pub left : Option Refusal → State → State → State
left None s t = t
left (Some e) s t = s

-- what a call answers: the first refusal that applies, else its number
abbrev pub answer_to : State → Request → Result ℕ Refusal
answer_to s d = refusal_or (call_refusal s d) (number_for (carried_out s d) d)

-- what stands after a call: a refused one changes nothing
abbrev pub after : State → Request → State
after s d = left (call_refusal s d) s (carried_out s d)

-- what calls answer that are made one after the other
abbrev pub answers_to : State → List Request → List (Result ℕ Refusal)
answers_to s [] = []
answers_to s (d ∷ ds) = answer_to s d ∷ answers_to (after s d) ds

-- what stands after them
abbrev pub after_all : State → List Request → State
after_all s [] = s
after_all s (d ∷ ds) = after_all (after s d) ds
