-- How lines are answered one after the other: what the private functions of a day do. No public contract cites this.
use Rattle.std.specs.Prelude.{◌≡◌, ℕ, List, length, ◌++◌, Some, None, Option, Ok, Err, Result}
use Rattle.std.specs.List.{AllZip}
use Rattle.refusal.specs.declared.Refusal.{Refusal}
use Rattle.refusal.specs.declared.Refusal.TheVariants.{MalformedOrder}
use Rattle.loans.specs.Strokes.{State}
use Rattle.loans.specs.Rules.{Request, answer_to, after, answers_to, after_all}
use Rattle.orders.specs.Days.{DayInputs, MasterOpened, morning, Asks, answer_lines, calls_in, answers_in}

-- what is answered to a line
abbrev pub answer_for : State → Option Request → Result ℕ Refusal
answer_for s None = Err MalformedOrder
answer_for s (Some d) = answer_to s d

-- what it leaves
abbrev pub after_line : State → Option Request → State
after_line s None = s
after_line s (Some d) = after s d

-- a line was answered so, and left the state so
pub record LineAnswered (line : List ℕ) (s : State) (answer : Result ℕ Refusal) (t : State) : Type 0 where
  pub request : Option Request
  pub asks : Asks line request
  pub answered : answer ≡ answer_for s request
  pub left : t ≡ after_line s request

-- the calls that lines ask for were made one after the other, and a line is printed for each line
pub record LinesAnswered (lines : List (List ℕ)) (s : State) (old : List ℕ) (t : State) (new : List ℕ) : Type 0 where
  pub requests : List (Option Request)
  pub asked : AllZip Asks lines requests
  pub printed : new ≡ old ++ answer_lines (answers_in requests (answers_to s (calls_in requests)))
  pub left : t ≡ after_all s (calls_in requests)

-- a day begins: the texture was opened, in a job of number 1 that has no loans, with two shelves that hold nothing
pub record Begun (g : DayInputs) (number : ℕ) (s : State) : Type 0 where
  pub first : number ≡ 1
  pub opened : MasterOpened g (Ok s.book.layout)
  pub sized : length g.master ≡ s.book.layout.table.length
  pub state : s ≡ morning s.book.layout g.master
