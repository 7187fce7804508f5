-- What a day's orders come to.
use Rattle.std.specs.Prelude.{◌≡◌, ℕ, ◌*◌, ◌<◌, Bool, ◌||◌, if◌then◌else◌, List, [], ◌∷◌, ◌++◌, length, Some, None, Option, Ok, Err, Result, nat_lt}
use Rattle.std.specs.Bool.{MatchBool}
use Rattle.std.specs.List.{AllZip, filter_map, flat_map}
use Rattle.refusal.specs.declared.Refusal.{Refusal}
use Rattle.refusal.specs.declared.Refusal.TheVariants.{MalformedOrder, OverLimit}
use Rattle.formats.specs.Codes.{name_for, plain_rows}
use Rattle.dds.specs.declared.layout.Layout.{Layout}
use Rattle.dds.specs.Readings.{reading_of}
use Rattle.dds.specs.Layouts.{OpenedBy}
use Rattle.loans.specs.Stocks.{empty_stock}
use Rattle.loans.specs.Strokes.{State}
use Rattle.loans.specs.Rules.{Request, answers_to}
use Rattle.loans.specs.Journals.{journal_of}
use Rattle.loans.specs.Law.{Law}
use Rattle.loans.specs.Runs.{opened_state}
use Rattle.loans.specs.LoanEnds.{all_cancelled}
use Rattle.orders.specs.declared.day.TheConstants.{LONGEST_MASTER, LONGEST_ORDERS}
use Rattle.orders.specs.declared.ending.Ending.{Ending}
use Rattle.orders.specs.declared.ending.Ending.TheVariants.{Refused, Shipped, Scrapped}
use Rattle.orders.specs.declared.reply.Reply.{Reply}
use Rattle.orders.specs.declared.reply.Reply.TheVariants as replies
use Rattle.orders.specs.Spelling.{Instruction, IsOrder, spelling}
use Rattle.orders.specs.Orders.{SpellsNone, request_for}
use Rattle.orders.specs.Lines.{lines_of}
use Rattle.orders.specs.Replies.{reply_text, reply_to}

-- the last line of a day
abbrev pub closing_reply : Ending → Reply
closing_reply (Refused e) = replies.Refused e
closing_reply Shipped = replies.Ship
closing_reply Scrapped = replies.Scrap

-- what a line asks for: the call that its order means, and nothing where it tells no order
abbrev pub Asks : List ℕ → Option Request → Type 0
Asks line (Some d) = (t : Instruction) × IsOrder t × (line ≡ spelling t) × (d ≡ request_for t)
Asks line None = SpellsNone line

-- the lines that are printed for answers
abbrev pub answer_lines : List (Result ℕ Refusal) → List ℕ
answer_lines rs = flat_map (λ (r : Result ℕ Refusal). reply_text (reply_to r)) rs

-- the file ships where no loan is out; else every loan is cancelled, and the file does not ship
abbrev pub Closed : State → Ending → List ℕ → Type 0
Closed s (Refused e) f = ⊥
Closed s Shipped f = (length s.book.outs ≡ 0) × (f ≡ s.file)
Closed s Scrapped f = (0 < length s.book.outs) × (f ≡ (all_cancelled s.book.outs s).file)

-- what the program is given: the texture, the orders, and what was printed before
pub record DayInputs : Type 0 where
  pub master : List ℕ
  pub orders : List ℕ
  pub before : List ℕ

-- one of the inputs is over its limit
abbrev pub is_over : DayInputs → Bool
is_over g = nat_lt LONGEST_MASTER (length g.master) || nat_lt LONGEST_ORDERS (length g.orders)

-- the most that is printed of a day before its last line: six bytes for each byte of the orders, none where they are over their limit
abbrev pub room_for : List ℕ → ℕ
room_for orders = if nat_lt LONGEST_ORDERS (length orders) then 0 else 6 * length orders

-- what opening the texture answers
abbrev pub MasterOpened : DayInputs → Result Layout Refusal → Type 0
MasterOpened g r = OpenedBy (reading_of g.master) (name_for plain_rows) r

-- the job and the shelves at first: number 1, and room for 64 marks and 4,096 bytes
abbrev pub morning : Layout → List ℕ → State
morning y master = opened_state y 1 master (empty_stock 64 4096)

-- the calls that lines ask for, in their order
abbrev pub calls_in : List (Option Request) → List Request
calls_in requests = filter_map (λ (w : Option Request). w) requests

-- what is answered to each line, where those are the answers to the calls
abbrev pub answers_in : List (Option Request) → List (Result ℕ Refusal) → List (Result ℕ Refusal)
answers_in [] rs = []
answers_in (None ∷ ws) rs = Err MalformedOrder ∷ answers_in ws rs
answers_in (Some d ∷ ws) [] = []
answers_in (Some d ∷ ws) (r ∷ rs) = r ∷ answers_in ws rs

-- a day on a texture that was opened: a line is printed for each line of the orders, in their order; the calls that the orders mean were
-- answered by the rules, and the law holds of them, of their answers and of the file
pub record Worked (g : DayInputs) (ending : Ending) (file new : List ℕ) : Type 0 where
  pub layout : Layout
  pub opened : MasterOpened g (Ok layout)
  pub requests : List (Option Request)
  pub asked : AllZip Asks (lines_of g.orders) requests
  pub answers : List (Result ℕ Refusal)
  pub each : length answers ≡ length (calls_in requests)
  pub by_rules : answers ≡ answers_to (morning layout g.master) (calls_in requests)
  pub printed : new ≡ g.before ++ answer_lines (answers_in requests answers)
  pub end : State
  pub law : Law layout 1 64 4096 g.master (journal_of (calls_in requests) answers) end
  pub closed : Closed end ending file

-- where no order is carried out, nothing is printed, and nothing changes
abbrev pub TurnedAway : DayInputs → List ℕ → List ℕ → Type 0
TurnedAway g file new = (file ≡ g.master) × (new ≡ g.before)

-- how a day within the limits ends
abbrev pub EndedAs : DayInputs → Ending → List ℕ → List ℕ → Type 0
EndedAs g (Refused e) file new = MasterOpened g (Err e) × TurnedAway g file new
EndedAs g Shipped file new = Worked g Shipped file new
EndedAs g Scrapped file new = Worked g Scrapped file new

-- how a day ends
abbrev pub DayDone : DayInputs → Ending → List ℕ → List ℕ → Type 0
DayDone g ending file new =
    MatchBool (is_over g) ((ending ≡ Refused OverLimit) × TurnedAway g file new) (EndedAs g ending file new)
