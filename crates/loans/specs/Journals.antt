-- What was lent, what is out and which strokes stand, read off the calls and their answers alone. A journal has its newest event first.
use Rattle.std.specs.Prelude.{ℕ, ◌+◌, ◌-◌, Bool, cond, ◌&&◌, List, [], ◌∷◌, ◌++◌, map, reverse, length, Some, Ok, Err, Result, filter, ◌==◌, nat_le, nat_lt, slice_index}
use Rattle.std.specs.List.{range_with_len, flat_map}
use Rattle.refusal.specs.declared.Refusal.{Refusal}
use Rattle.dds.specs.declared.piece.Piece.{Piece}
use Rattle.dds.specs.declared.layout.Layout.{Layout}
use Rattle.dds.specs.declared.table.Table.{Table}
use Rattle.dds.specs.Places.{area_in}
use Rattle.loans.specs.declared.loan.Loan.{Loan}
use Rattle.loans.specs.declared.mark.Mark.{Mark}
use Rattle.loans.specs.Lists.{less_first, less_all}
use Rattle.loans.specs.Books.{Book, fresh_book}
use Rattle.loans.specs.Lending.{granting}
use Rattle.loans.specs.Stocks.{Stock, is_number, is_out, the_loan}
use Rattle.loans.specs.Strokes.{State, Painting, stroke_place, recounted}
use Rattle.loans.specs.Rules.{Request}
use Rattle.loans.specs.Rules.Request.{lend, paint, undo, keep, cancel}

-- a call and what it answered
pub record Event : Type 0 where
  pub call : Request
  pub answer : Result ℕ Refusal

-- the calls in order, each with its answer, written down behind a journal
abbrev pub written_down : List Event → List Request → List (Result ℕ Refusal) → List Event
written_down h [] rs = h
written_down h (d ∷ ds) [] = h
written_down h (d ∷ ds) (r ∷ rs) = written_down (record { call = d; answer = r } ∷ h) ds rs

-- the journal of a list of calls and their answers
abbrev pub journal_of : List Request → List (Result ℕ Refusal) → List Event
journal_of ds rs = written_down [] ds rs

-- a loan that is granted comes first, and none ever leaves
abbrev pub lent_after : Table → List Loan → Request → Result ℕ Refusal → List Loan
lent_after t ls d (Err e) = ls
lent_after t ls (lend p who) (Ok n) = granting n p who (area_in t p) ∷ ls
lent_after t ls d (Ok n) = ls

-- every loan that was ever granted, also those that have ended, the newest first
abbrev pub lent : Table → List Event → List Loan
lent t [] = []
lent t (e ∷ h) = lent_after t (lent t h) e.call e.answer

-- a loan is out from the call that answered its number until a keep or a cancel of it is carried out
abbrev pub out_after : Table → List Loan → Request → Result ℕ Refusal → List Loan
out_after t ls d (Err e) = ls
out_after t ls (lend p who) (Ok n) = ls ++ granting n p who (area_in t p) ∷ []
out_after t ls (keep n) (Ok k) = less_all (is_number n) ls
out_after t ls (cancel n) (Ok k) = less_all (is_number n) ls
out_after t ls d (Ok k) = ls

-- the loans that are out, in the order in which they were granted
abbrev pub out_in : Table → List Event → List Loan
out_in t [] = []
out_in t (e ∷ h) = out_after t (out_in t h) e.call e.answer

-- a keep that is carried out is one more
abbrev pub keeps_after : ℕ → Request → Result ℕ Refusal → ℕ
keeps_after k d (Err e) = k
keeps_after k (keep m) (Ok n) = k + 1
keeps_after k d (Ok n) = k

-- how many keeps were carried out
abbrev pub keeps_in : List Event → ℕ
keeps_in [] = 0
keeps_in (e ∷ h) = keeps_after (keeps_in h) e.call e.answer

-- a cancel that is carried out is one more
abbrev pub cancels_after : ℕ → Request → Result ℕ Refusal → ℕ
cancels_after k d (Err e) = k
cancels_after k (cancel m) (Ok n) = k + 1
cancels_after k d (Ok n) = k

-- how many cancels were carried out
abbrev pub cancels_in : List Event → ℕ
cancels_in [] = 0
cancels_in (e ∷ h) = cancels_after (cancels_in h) e.call e.answer

-- a paint that was carried out: the painting, its piece, its place in the file, and what stood under it just before
pub record Stroke : Type 0 where
  pub painting : Painting
  pub piece : Piece
  pub place : ℕ
  pub below : List ℕ

-- the stroke is of that loan
abbrev pub stroke_of : ℕ → Stroke → Bool
stroke_of n s = n == s.painting.loan

-- how many bytes it laid
abbrev pub stroke_length : Stroke → ℕ
stroke_length s = length s.painting.laid

-- so many bytes from a place on reach over the byte at another
abbrev pub reach_over : ℕ → ℕ → ℕ → Bool
reach_over at n i = nat_le at i && nat_lt i (at + n)

-- the stroke lies over the byte at a place
abbrev pub covers : Stroke → ℕ → Bool
covers s i = reach_over s.place (stroke_length s) i

-- the byte at a place under strokes, the newest first: that of the first that lies over it, else the opening's
abbrev pub byte_under : List ℕ → List Stroke → ℕ → ℕ
byte_under opening [] i = slice_index opening i
byte_under opening (s ∷ ss) i = cond (covers s i) (slice_index s.painting.laid (i - s.place)) (byte_under opening ss i)

-- so many bytes from a place on, under strokes
abbrev pub bytes_under : List ℕ → List Stroke → ℕ → ℕ → List ℕ
bytes_under opening ss place n = map (byte_under opening ss) (range_with_len place n)

-- the stroke that a paint lays, by the loans out and the strokes standing before it
abbrev pub laying : List ℕ → List Loan → List Stroke → Painting → Stroke
laying opening ls ss p =
    let at : ℕ = stroke_place (the_loan ls p.loan).area p in
    record { painting = p; piece = (the_loan ls p.loan).piece; place = at; below = bytes_under opening ss at (length p.laid) }

-- a paint lays a stroke, an undo takes back the newest of its loan, a cancel all of them; those of a kept loan stand for good
abbrev pub standing_after : List ℕ → List Loan → List Stroke → Request → Result ℕ Refusal → List Stroke
standing_after opening ls ss d (Err e) = ss
standing_after opening ls ss (paint p) (Ok k) = laying opening ls ss p ∷ ss
standing_after opening ls ss (undo n who) (Ok k) = less_first (stroke_of n) ss
standing_after opening ls ss (cancel n) (Ok k) = less_all (stroke_of n) ss
standing_after opening ls ss d (Ok k) = ss

-- the strokes that stand, the newest first
abbrev pub standing : Table → List ℕ → List Event → List Stroke
standing t opening [] = []
standing t opening (e ∷ h) = standing_after opening (out_in t h) (standing t opening h) e.call e.answer

-- a stroke that is laid comes first, and none ever leaves
abbrev pub laid_after : List ℕ → List Loan → List Stroke → List Stroke → Request → Result ℕ Refusal → List Stroke
laid_after opening ls ss old d (Err e) = old
laid_after opening ls ss old (paint p) (Ok k) = laying opening ls ss p ∷ old
laid_after opening ls ss old d (Ok k) = old

-- every stroke that was ever laid, also those that were taken back, the newest first
abbrev pub ever_laid : Table → List ℕ → List Event → List Stroke
ever_laid t opening [] = []
ever_laid t opening (e ∷ h) =
    laid_after opening (out_in t h) (standing t opening h) (ever_laid t opening h) e.call e.answer

-- the strokes whose loan is out, the oldest first
abbrev pub undoable : List Loan → List Stroke → List Stroke
undoable ls ss = reverse (filter (λ s. is_out ls s.painting.loan) ss)

-- the mark that stands on the shelf for a stroke
abbrev pub mark_of : Stroke → Mark
mark_of s = record { loan = s.painting.loan; place = s.place; length = stroke_length s }

-- what the shelves hold of strokes: a mark for each and, in the same order, what stood under it just before it was laid
abbrev pub shelved : ℕ → ℕ → List Stroke → Stock
shelved most_marks' most_bytes' ss =
    record { marks = map mark_of ss; bytes = flat_map (λ (s : Stroke). s.below) ss; most_marks = most_marks'; most_bytes = most_bytes' }

-- the job that a journal tells: the loans out, how many were granted, kept and cancelled, and the counts of these shelves
abbrev pub replayed_book : Layout → ℕ → List Event → Stock → Book
replayed_book y number' h k =
    recounted (record (fresh_book y (Some number')) {
      outs = out_in y.table h;
      granted = length (lent y.table h);
      kept = keeps_in h;
      cancelled = cancels_in h;
    }) k

-- the shelves that it tells: they hold the strokes that stand and whose loan is out
abbrev pub replayed_stock : Table → ℕ → ℕ → List ℕ → List Event → Stock
replayed_stock t most_marks' most_bytes' opening h = shelved most_marks' most_bytes' (undoable (out_in t h) (standing t opening h))

-- the job, file and shelves that a journal tells of a job opened with a layout, a number and a file, on shelves of these capacities;
-- each byte of the file is that of the newest stroke standing over it, else the opening's
abbrev pub replayed : Layout → ℕ → ℕ → ℕ → List ℕ → List Event → State
replayed y number' most_marks' most_bytes' opening h =
    record {
      book = replayed_book y number' h (replayed_stock y.table most_marks' most_bytes' opening h);
      file = bytes_under opening (standing y.table opening h) 0 (length opening);
      stock = replayed_stock y.table most_marks' most_bytes' opening h;
    }
