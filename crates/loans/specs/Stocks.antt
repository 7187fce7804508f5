-- What stands on a job's shelves, and when the shelves are the job's.
use Rattle.std.specs.Prelude.{◌≡◌, ℕ, ◌+◌, ◌≤◌, max, Bool, true, ◌&&◌, List, [], length, count_by, sum_by, ◌==◌, nat_le}
use Rattle.std.specs.List.{list_any, list_all, find}
use Rattle.std.specs.Option.{unwrap_or}
use Rattle.shelf.specs.Held.{Held}
use Rattle.dds.specs.declared.area.Area.{Area}
use Rattle.loans.specs.declared.loan.Loan.{Loan}
use Rattle.loans.specs.declared.mark.Mark.{Mark}
use Rattle.loans.specs.Ledgers.{no_loan}
use Rattle.loans.specs.Books.{Book}

-- the marks and the kept bytes, each the oldest first, and how many of them the shelves can hold
pub record Stock : Type 0 where
  pub marks : List Mark
  pub bytes : List ℕ
  pub most_marks : ℕ
  pub most_bytes : ℕ

-- what a shelf of marks and one of kept bytes hold, and how much they can hold
abbrev pub stock_on : Held Mark → Held ℕ → Stock
stock_on marks' bytes' =
    record {
      marks = marks'.items;
      bytes = bytes'.items;
      most_marks = marks'.most;
      most_bytes = bytes'.most;
    }

-- a job's two shelves, with what else stands in their memory
pub record ShelfPair : Type 0 where
  pub marks : Held Mark
  pub bytes : Held ℕ

-- what stands on them, and how much they can hold
abbrev pub stock_of : ShelfPair → Stock
stock_of v = stock_on v.marks v.bytes

-- two shelves that hold nothing, and can hold so many marks and bytes
abbrev pub empty_stock : ℕ → ℕ → Stock
empty_stock most_marks' most_bytes' =
    record { marks = []; bytes = []; most_marks = most_marks'; most_bytes = most_bytes' }

-- the shelves can hold as much as before
pub record SameRoom (old new : Stock) : Type 0 where
  pub marks : new.most_marks ≡ old.most_marks
  pub bytes : new.most_bytes ≡ old.most_bytes

-- the largest number that a call answers: 65,535, or as many marks as the shelf can hold where that is more
abbrev pub answer_limit : Stock → ℕ
answer_limit k = max 65535 k.most_marks

-- what stands on the shelves is no more than they can hold, and each can hold at most 1,073,741,824
pub record Fits (k : Stock) : Type 0 where
  pub marks : length k.marks ≤ k.most_marks
  pub bytes : length k.bytes ≤ k.most_bytes
  pub marks_capped : k.most_marks ≤ 1073741824
  pub bytes_capped : k.most_bytes ≤ 1073741824

-- the loan has that number
abbrev pub is_number : ℕ → Loan → Bool
is_number n l = n == l.number

-- a loan of that number is among the loans
abbrev pub is_out : List Loan → ℕ → Bool
is_out ls n = list_any (is_number n) ls

-- the first of the loans that has the number
abbrev pub the_loan : List Loan → ℕ → Loan
the_loan ls n = unwrap_or (find (is_number n) ls) no_loan

-- the mark is of a stroke of that loan
abbrev pub of_loan : ℕ → Mark → Bool
of_loan n m = n == m.loan

-- how many marks a loan has
abbrev pub marks_of : ℕ → List Mark → ℕ
marks_of n ms = count_by (of_loan n) ms

-- how many bytes the marks cover together
abbrev pub lengths : List Mark → ℕ
lengths ms = sum_by (λ (m : Mark). m.length) ms

-- a mark does not reach outside an area
abbrev pub lies_in : Area → Mark → Bool
lies_in a m = nat_le a.place m.place && nat_le (m.place + m.length) (a.place + a.length)

-- a mark covers some bytes, its loan is out, and it lies in that loan's piece
abbrev pub is_sound : List Loan → Mark → Bool
is_sound ls m = nat_le 1 m.length && (is_out ls m.loan && lies_in (the_loan ls m.loan).area m)

-- every mark is sound
abbrev pub all_sound : List Loan → List Mark → Bool
all_sound ls ms = list_all (is_sound ls) ms

-- each loan has as many marks as the job wrote down
abbrev pub all_counted : List Loan → List Mark → Bool
all_counted ls ms = list_all (λ (l : Loan). l.strokes == marks_of l.number ms) ls

-- the shelves are the job's: both counts and each loan's count of marks are those that the job knows, every mark is sound, and the
-- marks' lengths add up to the count of kept bytes. The kept values, the order of the marks and the capacities are not looked at
abbrev pub are_own : Book → Stock → Bool
are_own b k =
    (length k.marks == b.marks && length k.bytes == b.bytes)
    && (all_counted b.outs k.marks && (all_sound b.outs k.marks && lengths k.marks == length k.bytes))

-- where the shelves are known to be the job's, they are
abbrev pub OwnWhere : Bool → Book → Stock → Type 0
OwnWhere known b k = known ≡ true → are_own b k ≡ true
