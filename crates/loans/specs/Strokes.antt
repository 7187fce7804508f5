-- What laying a stroke and taking one back answer and leave.
use Rattle.std.specs.Prelude.{ℕ, ◌+◌, ◌*◌, Bool, cond, not, ◌&&◌, ◌||◌, List, [], ◌∷◌, ◌++◌, map, length, take, drop, Some, None, Option, ◌==◌, nat_le, nat_lt}
use Rattle.std.specs.List.{list_any}
use Rattle.std.proofs.Math.Seq.{paste}
use Rattle.refusal.specs.declared.Refusal.{Refusal}
use Rattle.refusal.specs.declared.Refusal.TheVariants.{OtherLength, LoanNotOut, OtherBorrower, ForeignShelves, OutsideRow, NoSpace, NothingToUndo}
use Rattle.dds.specs.declared.area.Area.{Area}
use Rattle.loans.specs.declared.painting.Painting as Call
use Rattle.loans.specs.declared.loan.Loan.{Loan}
use Rattle.loans.specs.declared.mark.Mark.{Mark}
use Rattle.loans.specs.Ledgers.{loan_with}
use Rattle.loans.specs.Books.{Book}
use Rattle.loans.specs.Stocks.{Stock, is_out, the_loan, of_loan, marks_of, are_own}

-- a job, its file and its shelves
pub record State : Type 0 where
  pub book : Book
  pub file : List ℕ
  pub stock : Stock

-- the state of a job, its file and its shelves
abbrev pub state_of : Book → List ℕ → Stock → State
state_of b f k = record { book = b; file = f; stock = k }

-- the file has another length than the job's
abbrev pub is_other_length : State → Bool
is_other_length s = not (length s.file == s.book.layout.table.length)

-- what a borrower's call on a loan is refused with first: another length, the loan not out, another borrower, foreign shelves; where
-- none of these applies, with what comes after them
abbrev pub held_else : State → ℕ → ℕ → Option Refusal → Option Refusal
held_else s n who rest =
    cond (is_other_length s) (Some OtherLength)
    (cond (not (is_out s.book.outs n)) (Some LoanNotOut)
    (cond (not ((the_loan s.book.outs n).borrower == who)) (Some OtherBorrower)
    (cond (not (are_own s.book s.stock)) (Some ForeignShelves) rest)))

-- a loan as the shelves count it
abbrev pub counted_loan : List Mark → Loan → Loan
counted_loan ms l = loan_with l (marks_of l.number ms)

-- the job's counts are those of the shelves
abbrev pub recounted : Book → Stock → Book
recounted b k =
    record b { outs = map (counted_loan k.marks) b.outs; marks = length k.marks; bytes = length k.bytes }

-- what a paint names: the loan and who paints, the row of the piece and the row's byte where the stroke begins, and the bytes laid
pub record Painting : Type 0 where
  pub loan : ℕ
  pub borrower : ℕ
  pub row : ℕ
  pub first : ℕ
  pub laid : List ℕ

-- a paint on a loan, by a borrower, in a row from a byte of it on
abbrev pub painting_on : ℕ → ℕ → ℕ → ℕ → List ℕ → Painting
painting_on n who row' first' laid' =
    record { loan = n; borrower = who; row = row'; first = first'; laid = laid' }

-- what a paint of the code names
abbrev pub painting_of : Call.Painting → Painting
painting_of p = painting_on p.loan p.borrower p.row p.first p.bytes.now

-- no bytes, no such row, or past the row's end
abbrev pub is_outside_row : Area → Painting → Bool
is_outside_row a p = length p.laid == 0 || (nat_le a.rows p.row || nat_lt a.row_bytes (p.first + length p.laid))

-- the marks' shelf is full, or there is too little space for that many kept bytes
abbrev pub lacks_space : Stock → ℕ → Bool
lacks_space k n = nat_le k.most_marks (length k.marks) || nat_lt k.most_bytes (length k.bytes + n)

-- the first refusal that applies
abbrev pub paint_refusal : State → Painting → Option Refusal
paint_refusal s p =
    held_else s p.loan p.borrower
    (cond (is_outside_row (the_loan s.book.outs p.loan).area p) (Some OutsideRow)
    (cond (lacks_space s.stock (length p.laid)) (Some NoSpace) None))

-- where a stroke lies: behind the piece's rows before its own, and the row's bytes before it
abbrev pub stroke_place : Area → Painting → ℕ
stroke_place a p = a.place + (p.row * a.row_bytes + p.first)

-- one mark more, and what the file held under it
abbrev pub stock_with : Stock → Mark → List ℕ → Stock
stock_with k m covered =
    record k { marks = k.marks ++ m ∷ []; bytes = k.bytes ++ covered }

-- the shelves with the stroke's mark and the bytes that it covers
abbrev pub painted_stock : State → Painting → Stock
painted_stock s p =
    let at : ℕ = stroke_place (the_loan s.book.outs p.loan).area p in
    stock_with s.stock (record { loan = p.loan; place = at; length = length p.laid }) (take (length p.laid) (drop at s.file))

-- the bytes are laid, the mark and what they cover are shelved
abbrev pub painted : State → Painting → State
painted s p =
    record {
      book = recounted s.book (painted_stock s p);
      file = paste s.file (stroke_place (the_loan s.book.outs p.loan).area p) p.laid (length p.laid);
      stock = painted_stock s p;
    }

-- a mark is the newest of its loan where none behind it is of that loan
abbrev pub is_newest : ℕ → Mark → List Mark → Bool
is_newest n m behind = of_loan n m && not (list_any (of_loan n) behind)

-- the marks without the newest of a loan
abbrev pub marks_less : ℕ → List Mark → List Mark
marks_less n [] = []
marks_less n (m ∷ ms) = cond (is_newest n m ms) ms (m ∷ marks_less n ms)

-- the kept bytes without those of that mark
abbrev pub bytes_less : ℕ → List Mark → List ℕ → List ℕ
bytes_less n [] ks = ks
bytes_less n (m ∷ ms) ks =
    cond (is_newest n m ms) (drop m.length ks) (take m.length ks ++ bytes_less n ms (drop m.length ks))

-- the file with what the newest of a loan covered put back where it lay
abbrev pub file_back : ℕ → List ℕ → List Mark → List ℕ → List ℕ
file_back n file [] ks = file
file_back n file (m ∷ ms) ks =
    cond (is_newest n m ms) (paste file m.place (take m.length ks) m.length) (file_back n file ms (drop m.length ks))

-- the first refusal that applies; the shelves are looked at before the loan's strokes
abbrev pub undo_refusal : State → ℕ → ℕ → Option Refusal
undo_refusal s n who = held_else s n who (cond (marks_of n s.stock.marks == 0) (Some NothingToUndo) None)

-- the loan's newest mark and its kept bytes leave the shelves
abbrev pub undone_stock : Stock → ℕ → Stock
undone_stock k n =
    record k { marks = marks_less n k.marks; bytes = bytes_less n k.marks k.bytes }

-- the loan's newest stroke is taken back
abbrev pub undone : State → ℕ → State
undone s n =
    record {
      book = recounted s.book (undone_stock s.stock n);
      file = file_back n s.file s.stock.marks s.stock.bytes;
      stock = undone_stock s.stock n;
    }
