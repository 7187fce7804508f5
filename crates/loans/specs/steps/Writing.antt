-- What a job writes down after a call that was carried out.
use Rattle.std.specs.Prelude.{ℕ, ◌+◌, ◌-◌, ◌++◌, length, take, drop, slice_index_or, slice_set}
use Rattle.dds.specs.declared.area.Area.{Area}
use Rattle.dds.specs.declared.piece.Piece.{Piece}
use Rattle.shelf.specs.Runs.{slid_down}
use Rattle.loans.specs.declared.outcome.Outcome.{Outcome}
use Rattle.loans.specs.declared.outcome.Outcome.TheVariants.{Kept, Cancelled}
use Rattle.loans.specs.declared.ledger.Ledger.{Ledger}
use Rattle.loans.specs.Ledgers.{no_loan, loan_with}
use Rattle.loans.specs.Books.{Book}
use Rattle.loans.specs.Stocks.{Stock}
use Rattle.loans.specs.Lending.{granting}

-- one loan more, behind those out
abbrev pub ledger_with : Ledger → Piece → ℕ → Area → Ledger
ledger_with l p who a =
    record l { loans = slice_set l.loans l.out (granting (l.granted + 1) p who a); out = l.out + 1; granted = l.granted + 1 }

-- the loan at a position has so many strokes, and the shelves so many marks and bytes
abbrev pub ledger_counted : Ledger → ℕ → ℕ → ℕ → ℕ → Ledger
ledger_counted l k n marks' bytes' =
    record l { loans = slice_set l.loans k (loan_with (slice_index_or l.loans k no_loan) n); marks = marks'; bytes = bytes' }

-- how many loans more were kept, where one ends so
abbrev pub kept_by : Outcome → ℕ
kept_by Kept = 1
kept_by Cancelled = 0

-- how many more were cancelled
abbrev pub cancelled_by : Outcome → ℕ
cancelled_by Kept = 0
cancelled_by Cancelled = 1

-- the loan at a position is out no more; those behind it move up, so many more were kept and so many more cancelled
abbrev pub ledger_ended : Ledger → ℕ → ℕ → ℕ → ℕ → ℕ → Ledger
ledger_ended l k kept' cancelled' marks' bytes' =
    record l {
      loans = slid_down (k + 1) (l.out - (k + 1)) k l.loans;
      out = l.out - 1;
      kept = l.kept + kept';
      cancelled = l.cancelled + cancelled';
      marks = marks';
      bytes = bytes';
    }

-- of a job's book: the loan at a position has so many strokes, and the job counts what stands on the shelves
abbrev pub book_counted : Book → ℕ → ℕ → Stock → Book
book_counted b k n stock =
    record b {
      outs = slice_set b.outs k (loan_with (slice_index_or b.outs k no_loan) n);
      marks = length stock.marks;
      bytes = length stock.bytes;
    }

-- the loan at a position is out no more, and the job counts what stays on the shelves
abbrev pub book_ended : Book → ℕ → Outcome → Stock → Book
book_ended b k outcome stock =
    record b {
      outs = take k b.outs ++ drop (k + 1) b.outs;
      kept = b.kept + kept_by outcome;
      cancelled = b.cancelled + cancelled_by outcome;
      marks = length stock.marks;
      bytes = length stock.bytes;
    }
