use Rattle.std.proofs.Common.{vec_items, vec_len, vec_capacity, length}
use Rattle.loans.specs.Stocks.{stock_of}
use Rattle.loans.specs.Strokes.{state_of}
use Rattle.orders.specs.Lines.{lines_of, lines_left}
use Rattle.orders.proofs.Working.{Working}
use Rattle.orders.proofs.day.answer_all.Given as goal

abbrev pub invariant-loop-line : goal.invariant-loop-line
invariant-loop-line l =
    Working (lines_of l.orders) (length l.orders) (state_of l.initial.job l.initial.file (stock_of l.initial.shelves)) (state_of l.job l.file (stock_of l.shelves))
    (vec_items l.initial.printed) (vec_items l.printed) (lines_left l.line-iterator)
    (vec_len l.initial.printed) (vec_len l.printed) (vec_capacity l.initial.printed) (vec_capacity l.printed)
