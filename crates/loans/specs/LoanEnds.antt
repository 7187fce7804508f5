-- What keeping and cancelling a loan answer and leave, when a scrap is refused, and what cancelling all loans leaves.
use Rattle.std.specs.Prelude.{ℕ, ◌+◌, ◌<◌, ◌≤◌, Bool, cond, not, List, [], ◌∷◌, ◌++◌, length, take, drop, Some, None, Option, slice_index_or}
use Rattle.std.proofs.Math.Seq.{paste}
use Rattle.refusal.specs.declared.Refusal.{Refusal}
use Rattle.refusal.specs.declared.Refusal.TheVariants.{OtherLength, LoanNotOut, ForeignShelves, OtherDocket}
use Rattle.loans.specs.declared.loan.Loan.{Loan}
use Rattle.loans.specs.declared.mark.Mark.{Mark}
use Rattle.loans.specs.Lists.{less_all}
use Rattle.loans.specs.Books.{Book}
use Rattle.loans.specs.Shipping.{is_job_number}
use Rattle.loans.specs.Stocks.{Stock, is_number, is_out, of_loan, are_own}
use Rattle.loans.specs.Strokes.{State, is_other_length, recounted}
use Rattle.loans.specs.steps.Taking.{no_mark}

-- the kept bytes of the marks that pass a test, in their order
abbrev pub bytes_of : (Mark → Bool) → List Mark → List ℕ → List ℕ
bytes_of p [] ks = []
bytes_of p (m ∷ ms) ks =
    cond (p m) (take m.length ks ++ bytes_of p ms (drop m.length ks)) (bytes_of p ms (drop m.length ks))

-- a loan's marks and kept bytes leave the shelves
abbrev pub stock_without : Stock → ℕ → Stock
stock_without k n =
    record k { marks = less_all (of_loan n) k.marks; bytes = bytes_of (λ m. not (of_loan n m)) k.marks k.bytes }

-- a loan is out no more; of those that ended so many more were kept, and so many more cancelled
abbrev pub book_without : Book → ℕ → ℕ → ℕ → Book
book_without b n kept' cancelled' =
    record b { outs = less_all (is_number n) b.outs; kept = b.kept + kept'; cancelled = b.cancelled + cancelled' }

-- the first refusal that applies: a keep asks nothing of the file, and not who the borrower is
abbrev pub keep_refusal : Book → Stock → ℕ → Option Refusal
keep_refusal b k n =
    cond (not (is_out b.outs n)) (Some LoanNotOut)
    (cond (not (are_own b k)) (Some ForeignShelves) None)

-- the loan is out no more, one more was kept, and the job counts what stays on the shelves
abbrev pub kept_book : Book → Stock → ℕ → Book
kept_book b k n = recounted (book_without b n 1 0) (stock_without k n)

-- the first refusal that applies: a cancel asks for the file's length, and then what a keep asks
abbrev pub cancel_refusal : State → ℕ → Option Refusal
cancel_refusal s n = cond (is_other_length s) (Some OtherLength) (keep_refusal s.book s.stock n)

-- the file with all that a loan's strokes covered put back, the newest first
abbrev pub restored : ℕ → List ℕ → List Mark → List ℕ → List ℕ
restored n file [] ks = file
restored n file (m ∷ ms) ks =
    cond (of_loan n m)
    (paste (restored n file ms (drop m.length ks)) m.place (take m.length ks) m.length)
    (restored n file ms (drop m.length ks))

-- marks that lie in a file of that length
abbrev pub InFile : ℕ → List Mark → Type 0
InFile n ms = (k : ℕ) → k < length ms → (slice_index_or ms k no_mark).place + (slice_index_or ms k no_mark).length ≤ n

-- all strokes of the loan are taken back, and it is out no more
abbrev pub cancelled : State → ℕ → State
cancelled s n =
    record {
      book = recounted (book_without s.book n 0 1) (stock_without s.stock n);
      file = restored n s.file s.stock.marks s.stock.bytes;
      stock = stock_without s.stock n;
    }

-- the first refusal that applies
abbrev pub scrap_refusal : State → ℕ → Option Refusal
scrap_refusal s n =
    cond (not (is_job_number s.book.number n)) (Some OtherDocket)
    (cond (is_other_length s) (Some OtherLength)
    (cond (not (are_own s.book s.stock)) (Some ForeignShelves) None))

-- these loans are cancelled one after the other
abbrev pub all_cancelled : List Loan → State → State
all_cancelled [] s = s
all_cancelled (l ∷ ls) s = all_cancelled ls (cancelled s l.number)
