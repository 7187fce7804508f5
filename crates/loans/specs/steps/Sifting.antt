-- Moving strokes down on the shelves, over the gaps that a loan leaves.
use Rattle.std.specs.Prelude.{◌≡◌, ℕ, ◌+◌, ◌<◌, ◌≤◌, true, false, List, length, take, get_or}
use Rattle.std.specs.List.{list_any}
use Rattle.shelf.specs.Runs.{slid_down}
use Rattle.loans.specs.declared.mark.Mark.{Mark}
use Rattle.loans.specs.declared.amount.Amount.{Amount}
use Rattle.loans.specs.Stocks.{Stock, of_loan, lengths}
use Rattle.loans.specs.steps.Taking.{no_mark}

-- the marks begin with so many that are not the loan's, and one of the loan is next, or none
pub record Leads (ms : List Mark) (n : ℕ) (run : Amount) : Type 0 where
  pub inside : run.marks ≤ length ms
  pub others : list_any (of_loan n) (take run.marks ms) ≡ false
  pub bytes : run.bytes ≡ lengths (take run.marks ms)
  pub next : run.marks < length ms → of_loan n (get_or ms run.marks no_mark) ≡ true

-- a run of strokes stands on the shelves behind so much, and where it goes is no further on
pub record CanSlide (k : Stock) (behind run stays : Amount) : Type 0 where
  pub marks : behind.marks + run.marks ≤ length k.marks
  pub bytes : behind.bytes + run.bytes ≤ length k.bytes
  pub marks_down : stays.marks ≤ behind.marks
  pub bytes_down : stays.bytes ≤ behind.bytes

-- the run stands behind what stays
abbrev pub stock_slid : Stock → Amount → Amount → Amount → Stock
stock_slid k behind run stays =
    record k { marks = slid_down behind.marks run.marks stays.marks k.marks; bytes = slid_down behind.bytes run.bytes stays.bytes k.bytes }
