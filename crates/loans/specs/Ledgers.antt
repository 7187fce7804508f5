-- What holds of every job's ledger.
use Rattle.std.specs.Prelude.{◌≡◌, ℕ, ◌+◌, ◌*◌, ◌<◌, ◌≤◌, List, length, take, slice_index_or}
use Rattle.dds.specs.declared.area.Area.{Area}
use Rattle.loans.specs.declared.ledger.Ledger.{Ledger}
use Rattle.loans.specs.declared.loan.Loan.{Loan}

-- what is read where no loan stands
abbrev pub no_loan : Loan
no_loan =
    record {
      number = 0;
      borrower = 0;
      piece = record { element = 0; level = 0; slice = 0 };
      area = record { place = 0; length = 0; row_bytes = 0; rows = 0 };
      strokes = 0;
    }

-- the loan with so many strokes that it can undo
abbrev pub loan_with : Loan → ℕ → Loan
loan_with l n = record l { strokes = n }

-- the loans out, in the order in which they were granted
abbrev pub outs : Ledger → List Loan
outs l = take l.out l.loans

-- at most 32 loans are out and 65,535 were granted; granted is kept, cancelled and out together
abbrev pub Balanced : Ledger → Type 0
Balanced l =
    (length l.loans ≡ 32) × (l.out ≤ 32) × (l.granted ≤ 65535) × (l.granted ≡ l.kept + l.cancelled + l.out)

-- an area ends within that many bytes, and is rows one after the other
abbrev pub LiesWithin : ℕ → Area → Type 0
LiesWithin n a = (a.place + a.length ≤ n) × (a.length ≡ a.row_bytes * a.rows)

-- the spans of the loans out lie in a file of that length
abbrev pub Inside : ℕ → Ledger → Type 0
Inside n l = (k : ℕ) → k < l.out → LiesWithin n (slice_index_or l.loans k no_loan).area

-- no loan out has a number above the last that was given
abbrev pub NumbersGiven : Ledger → Type 0
NumbersGiven l = (k : ℕ) → k < l.out → (slice_index_or l.loans k no_loan).number ≤ l.granted

-- the numbers of the loans rise, so no two of them have one number
abbrev pub NumbersRise : List Loan → Type 0
NumbersRise ls = (j k : ℕ) → j < k → k < length ls → (slice_index_or ls j no_loan).number < (slice_index_or ls k no_loan).number

-- what holds of every job's ledger, over a file of that length
pub record InOrder (n : ℕ) (l : Ledger) : Type 0 where
  pub balanced : Balanced l
  pub inside : Inside n l
  pub given : NumbersGiven l
  pub rising : NumbersRise (outs l)
