-- What a job means: its layout, its number, its loans out, and its counts.
use Rattle.std.specs.Prelude.{◌≡◌, ℕ, ◌+◌, ◌<◌, ◌≤◌, List, [], length, slice_index_or, None, Option}
use Rattle.dds.specs.declared.layout.Layout.{Layout}
use Rattle.dds.specs.Sound.{empty_table}
use Rattle.loans.specs.declared.ledger.Ledger.{Ledger}
use Rattle.loans.specs.declared.loan.Loan.{Loan}
use Rattle.loans.specs.declared.report.Report.{Report}
use Rattle.loans.specs.Ledgers.{outs, no_loan, LiesWithin, NumbersRise}

-- the layout of the file, the number of the job, the loans out in the order in which they were granted, how many were granted,
-- kept and cancelled, and how many marks and kept bytes the job's shelves hold
pub record Book : Type 0 where
  pub layout : Layout
  pub number : Option ℕ
  pub outs : List Loan
  pub granted : ℕ
  pub kept : ℕ
  pub cancelled : ℕ
  pub marks : ℕ
  pub bytes : ℕ

-- what a layout and a ledger tell; of the ledger's memory only the loans that are out count
abbrev pub book_in : Layout → Ledger → Book
book_in y l =
    record {
      layout = y;
      number = l.number;
      outs = outs l;
      granted = l.granted;
      kept = l.kept;
      cancelled = l.cancelled;
      marks = l.marks;
      bytes = l.bytes;
    }

-- what holds of every job's book: at most 32 loans are out and 65,535 were granted, and granted is kept, cancelled and out together; the
-- spans of the loans out lie in the file; their numbers rise, and none is above the last that was given
pub record Orderly (b : Book) : Type 0 where
  pub few : length b.outs ≤ 32
  pub numbers : b.granted ≤ 65535
  pub balance : b.granted ≡ b.kept + b.cancelled + length b.outs
  pub inside : (k : ℕ) → k < length b.outs → LiesWithin b.layout.table.length (slice_index_or b.outs k no_loan).area
  pub given : (k : ℕ) → k < length b.outs → (slice_index_or b.outs k no_loan).number ≤ b.granted
  pub rising : NumbersRise b.outs

-- a job that was just opened, or holds no file
abbrev pub fresh_book : Layout → Option ℕ → Book
fresh_book y n = record { layout = y; number = n; outs = []; granted = 0; kept = 0; cancelled = 0; marks = 0; bytes = 0 }

-- no file, no number, no loans
abbrev pub IsEmpty : Book → Type 0
IsEmpty b =
    (b.layout.table ≡ empty_table) × (b.layout.origin ≡ None) × (b ≡ fresh_book b.layout None)

-- how many loans were granted, kept and cancelled, and how many are out
abbrev pub report_of : Book → Report
report_of b = record { granted = b.granted; kept = b.kept; cancelled = b.cancelled; out = length b.outs }

-- granted is kept, cancelled and out together
abbrev pub IsBalanced : Report → Type 0
IsBalanced r = r.granted ≡ r.kept + r.cancelled + r.out
