-- What parsing a line answers, and what an order means as a call.
use Rattle.std.specs.Prelude.{◌≡◌, ◌≢◌, ℕ, ◌≤◌, List, length, Ok, Err, Result}
use Rattle.refusal.specs.declared.Refusal.{Refusal}
use Rattle.refusal.specs.declared.Refusal.TheVariants.{MalformedOrder}
use Rattle.dds.specs.Pieces.{piece_of}
use Rattle.loans.specs.Strokes.{painting_on}
use Rattle.loans.specs.Rules.{Request}
use Rattle.loans.specs.Rules.{Request as calls}
use Rattle.orders.specs.declared.digits.Digits.{Digits}
use Rattle.orders.specs.declared.order.Order.{Order}
use Rattle.orders.specs.declared.order.Order.TheVariants.{Loan, LoanElement, Paint, Undo, Keep, Cancel}
use Rattle.orders.specs.Spelling.{Instruction, IsOrder, spelling}
use Rattle.orders.specs.Spelling.Instruction.{lend, lend_element, paint, undo, keep, cancel}
use Rattle.orders.specs.Words.{hex_bytes}

-- the hex digits of a paint, as they stand in its line
abbrev pub digits_of : Digits → List ℕ
digits_of ds = ds.digits.now

-- what an order is as its line words it; of a paint the bytes that its digits spell
abbrev pub instruction_of : Order → Instruction
instruction_of (Loan p who) = lend p who
instruction_of (LoanElement e who) = lend_element e who
instruction_of (Paint n who row first ds) = paint (painting_on n who row first (hex_bytes (digits_of ds)))
instruction_of (Undo n who) = undo n who
instruction_of (Keep n) = keep n
instruction_of (Cancel n) = cancel n

-- the line spells no order
abbrev pub SpellsNone : List ℕ → Type 0
SpellsNone line = (t : Instruction) → IsOrder t → line ≢ spelling t

-- a line that is accepted spells the order; a malformed one spells none
abbrev pub Parsed : List ℕ → Result Order Refusal → Type 0
Parsed line (Ok o) = (line ≡ spelling (instruction_of o)) × IsOrder (instruction_of o)
Parsed line (Err e) = (e ≡ MalformedOrder) × SpellsNone line

-- no line spells two orders
abbrev pub EachLineIsOneOrder : Type 0
EachLineIsOneOrder = (a b : Instruction) → IsOrder a → IsOrder b → spelling a ≡ spelling b → a ≡ b

-- the call that an order means; the short order of a loan is of level 0 and slice 0
abbrev pub request_for : Instruction → Request
request_for (lend p who) = calls.lend p who
request_for (lend_element e who) = calls.lend (piece_of e 0 0) who
request_for (paint p) = calls.paint p
request_for (undo n who) = calls.undo n who
request_for (keep n) = calls.keep n
request_for (cancel n) = calls.cancel n

-- the digits of a paint are no longer than the longest order text
abbrev pub HasShortDigits : Order → Type 0
HasShortDigits (Loan p who) = Unit {0}
HasShortDigits (LoanElement e who) = Unit {0}
HasShortDigits (Paint n who r f ds) = length (digits_of ds) ≤ 16384
HasShortDigits (Undo n who) = Unit {0}
HasShortDigits (Keep n) = Unit {0}
HasShortDigits (Cancel n) = Unit {0}
