-- The law of loans and strokes: what holds after every list of calls on a newly opened job with two empty shelves.
use Rattle.std.specs.Prelude.{◌≡◌, ℕ, ◌+◌, ◌*◌, ◌<◌, ◌≤◌, true, List, [], ◌∷◌, map, length, Some, Err, ◌≢◌, slice_index}
use Rattle.std.specs.List.{All, Contains, flat_map}
use Rattle.refusal.specs.declared.Refusal.TheVariants.{OtherLength, ForeignShelves}
use Rattle.dds.specs.declared.area.Area.{Area}
use Rattle.dds.specs.declared.layout.Layout.{Layout}
use Rattle.dds.specs.declared.table.Table.{Table}
use Rattle.dds.specs.Places.{exists_in, area_in, AreaOf}
use Rattle.loans.specs.declared.loan.Loan.{Loan}
use Rattle.loans.specs.declared.mark.Mark.{Mark}
use Rattle.loans.specs.Stocks.{is_out, the_loan, marks_of}
use Rattle.loans.specs.Strokes.{State, counted_loan}
use Rattle.loans.specs.Rules.{answer_to}
use Rattle.loans.specs.Journals.{Event, Stroke, lent, out_in, keeps_in, cancels_in, standing, ever_laid, stroke_length, byte_under, undoable, mark_of, replayed}

-- each call was answered by the rules, by what was out and stood before it
abbrev pub Answered : Layout → ℕ → ℕ → ℕ → List ℕ → List Event → Type 0
Answered y number most_marks most_bytes opening [] = Unit {0}
Answered y number most_marks most_bytes opening (e ∷ h) =
    (e.answer ≡ answer_to (replayed y number most_marks most_bytes opening h) e.call) × Answered y number most_marks most_bytes opening h

-- the job's own file and shelves are never taken for others
abbrev pub TakenAsOwn : Event → Type 0
TakenAsOwn e = (e.answer ≢ Err OtherLength) × (e.answer ≢ Err ForeignShelves)

-- the numbers given are 1, 2, 3 and so on; the list has the newest first
abbrev pub NumberedFromOne : List Loan → Type 0
NumberedFromOne [] = Unit {0}
NumberedFromOne (l ∷ ls) = (l.number ≡ length ls + 1) × NumberedFromOne ls

-- a loan's piece exists, and the loan spans it
abbrev pub OfPiece : Table → Loan → Type 0
OfPiece t l = (exists_in t l.piece ≡ true) × (l.area ≡ area_in t l.piece)

-- the byte at a place lies in a loan's span
abbrev pub Spans : Loan → ℕ → Type 0
Spans l place = (l.area.place ≤ place) × (place < l.area.place + l.area.length)

-- no byte lies in the spans of two of the loans
abbrev pub Apart : List Loan → Type 0
Apart ls = (place : ℕ) (a b : Loan) → Contains ls a → Contains ls b → Spans a place → Spans b place → a ≡ b

-- the area of the loan that a stroke is of
abbrev pub area_of : List Loan → Stroke → Area
area_of ls s = (the_loan ls s.painting.loan).area

-- a stroke lies in a row of its loan's piece
pub record InRow (ls : List Loan) (s : Stroke) : Type 0 where
  -- its loan was granted, and piece and borrower are the loan's
  pub lent : is_out ls s.painting.loan ≡ true
  pub piece : s.piece ≡ (the_loan ls s.painting.loan).piece
  pub borrower : s.painting.borrower ≡ (the_loan ls s.painting.loan).borrower
  -- it has bytes, its row is below the piece's rows, and it ends at the row's end at the latest
  pub some : 0 < stroke_length s
  pub row : s.painting.row < (area_of ls s).rows
  pub end : s.painting.first + stroke_length s ≤ (area_of ls s).row_bytes
  -- it lies at the piece's place, row × row bytes, and first together
  pub place : s.place
      ≡ (area_of ls s).place + (s.painting.row * (area_of ls s).row_bytes + s.painting.first)
  -- and so inside its piece
  pub not_before : (area_of ls s).place ≤ s.place
  pub not_behind : s.place + stroke_length s ≤ (area_of ls s).place + (area_of ls s).length

-- the loan's area is that of its piece in the list of the layout's pieces
abbrev pub OfListed : Layout → Loan → Type 0
OfListed y l = AreaOf y l.piece l.area

-- the loan has so many undoable strokes as it has marks
abbrev pub CountsMarks : List Mark → Loan → Type 0
CountsMarks ms l = l.strokes ≡ marks_of l.number ms

-- the strokes that stand and whose loan is out, the oldest first
abbrev pub undoable_in : Table → List ℕ → List Event → List Stroke
undoable_in t opening h = undoable (out_in t h) (standing t opening h)

-- what holds of job, file and shelves after a journal
pub record Law (y : Layout) (number most_marks most_bytes : ℕ) (opening : List ℕ) (h : List Event) (s : State) : Type 0 where
  -- the file is as long as the opening's
  pub same_length : length s.file ≡ length opening
  -- each byte is that of the newest stroke standing over it, else the opening's
  pub each_byte : (place : ℕ) → place < length opening
      → slice_index s.file place ≡ byte_under opening (standing y.table opening h) place
  -- the shelves hold a mark of each stroke that stands and whose loan is out, the oldest first
  pub marks : s.stock.marks ≡ map mark_of (undoable_in y.table opening h)
  -- and, in the same order, what the file held under each just before it was laid
  pub kept_bytes : s.stock.bytes
      ≡ flat_map (λ (k : Stroke). k.below) (undoable_in y.table opening h)
  -- they can hold as much as at first, and hold no more
  pub marks_room : s.stock.most_marks ≡ most_marks
  pub bytes_room : s.stock.most_bytes ≡ most_bytes
  pub marks_fit : length s.stock.marks ≤ most_marks
  pub bytes_fit : length s.stock.bytes ≤ most_bytes
  -- the job has the opening's number and the layout
  pub numbered : s.book.number ≡ Some number
  pub layout : s.book.layout ≡ y
  -- its loans are those out, in the order in which they were granted, each with its count of strokes
  pub loans : s.book.outs ≡ map (counted_loan s.stock.marks) (out_in y.table h)
  pub strokes : All (CountsMarks s.stock.marks) s.book.outs
  -- it counts the loans that were granted, kept and cancelled
  pub granted : s.book.granted ≡ length (lent y.table h)
  pub kept : s.book.kept ≡ keeps_in h
  pub cancelled : s.book.cancelled ≡ cancels_in h
  pub balance : length (lent y.table h) ≡ keeps_in h + cancels_in h + length (out_in y.table h)
  -- and what its shelves hold
  pub mark_count : s.book.marks ≡ length s.stock.marks
  pub byte_count : s.book.bytes ≡ length s.stock.bytes
  -- each call was answered by the rules, never as if file or shelves were another's
  pub answers : Answered y number most_marks most_bytes opening h
  pub own : All TakenAsOwn h
  -- the loans ever granted have the numbers 1, 2, 3 and so on
  pub numbers : NumberedFromOne (lent y.table h)
  -- each is of a piece that exists, and its area is the piece's, by the table and in the list of pieces
  pub pieces : All (OfPiece y.table) (lent y.table h)
  pub areas : All (OfListed y) (lent y.table h)
  -- no byte lies in two loans that are out
  pub apart : Apart (out_in y.table h)
  -- every stroke ever laid, also one taken back, lies in its row
  pub rows : All (InRow (lent y.table h)) (ever_laid y.table opening h)
