-- Where the newest stroke of a loan stands on the shelves, and what is left without it.
use Rattle.std.specs.Prelude.{◌≡◌, ℕ, ◌+◌, ◌<◌, ◌≤◌, true, false, List, length, slice_index_or, take, drop, Some, None, Ok, Err, Option, Result}
use Rattle.std.specs.List.{list_any}
use Rattle.std.proofs.Math.Seq.{paste}
use Rattle.refusal.specs.declared.Refusal.{Refusal}
use Rattle.shelf.specs.Runs.{without_run}
use Rattle.loans.specs.declared.mark.Mark.{Mark}
use Rattle.loans.specs.declared.newest.Newest.{Newest}
use Rattle.loans.specs.declared.last.Last.{Last}
use Rattle.loans.specs.Ledgers.{no_loan}
use Rattle.loans.specs.Stocks.{Stock, of_loan, marks_of, lengths}
use Rattle.loans.specs.steps.Finding.{IsAt}
use Rattle.loans.specs.Strokes.{State, undo_refusal}

-- what is read where no mark stands
abbrev pub no_mark : Mark
no_mark = record { loan = 0; place = 0; length = 0 }

-- the mark at a position is the newest of a loan, and its kept bytes begin behind those of the marks before it
pub record NewestAt (ms : List Mark) (n k begin' : ℕ) : Type 0 where
  pub inside : k < length ms
  pub loan : of_loan n (slice_index_or ms k no_mark) ≡ true
  pub last : list_any (of_loan n) (drop (k + 1) ms) ≡ false
  pub begin : begin' ≡ lengths (take k ms)

-- what looking for a loan's newest mark finds: where it stands, or that the loan has none
abbrev pub FoundNewest : List Mark → ℕ → Option Newest → Type 0
FoundNewest ms n (Some x) = NewestAt ms n x.position x.begin
FoundNewest ms n None = marks_of n ms ≡ 0

-- the shelves without the mark at a position and its bytes
abbrev pub stock_less : Stock → ℕ → ℕ → Stock
stock_less k position begin =
    record k { marks = without_run position 1 k.marks; bytes = without_run begin (slice_index_or k.marks position no_mark).length k.bytes }

-- the file with what the mark at a position covered put back
abbrev pub file_less : List ℕ → Stock → ℕ → ℕ → List ℕ
file_less file k position begin =
    let m : Mark = slice_index_or k.marks position no_mark in
    paste file m.place (take m.length (drop begin k.bytes)) m.length

-- a mark at a position covers bytes of the file, and its own kept bytes stand on the shelf
pub record Whole (file : List ℕ) (k : Stock) (position begin : ℕ) : Type 0 where
  pub inside : position < length k.marks
  pub in_file : (slice_index_or k.marks position no_mark).place + (slice_index_or k.marks position no_mark).length ≤ length file
  pub on_shelf : begin + (slice_index_or k.marks position no_mark).length ≤ length k.bytes

-- where none of an undo's refusals applies: the position of the loan, and the loan's newest stroke
pub record UndoAt (s : State) (n who k position begin : ℕ) : Type 0 where
  pub none : undo_refusal s n who ≡ None
  pub loan : IsAt s.book.outs n k
  pub newest : NewestAt s.stock.marks n position begin
  pub whole : Whole s.file s.stock position begin
  pub some : 0 < (slice_index_or s.book.outs k no_loan).strokes

-- the stroke to take back, or the first refusal that applies
abbrev pub UndoTested : State → ℕ → ℕ → Result Last Refusal → Type 0
UndoTested s n who (Ok x) = UndoAt s n who x.position x.newest.position x.newest.begin
UndoTested s n who (Err e) = undo_refusal s n who ≡ Some e
