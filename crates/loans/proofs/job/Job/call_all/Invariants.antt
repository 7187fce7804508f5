use Rattle.std.proofs.Common.{vec_items, vec_len, vec_capacity}
use Rattle.loans.specs.Stocks.{stock_of}
use Rattle.loans.specs.Strokes.{state_of}
use Rattle.loans.proofs.Calling.{Along}
use Rattle.loans.proofs.job.Job.call_all.Given as goal

abbrev pub invariant-loop-call : goal.invariant-loop-call
invariant-loop-call l =
    Along (state_of l.initial.self l.initial.file (stock_of l.initial.shelves)) (state_of l.self l.file (stock_of l.shelves)) l.calls l.call-index
    (vec_items l.initial.answers) (vec_items l.answers) (vec_len l.answers) (vec_capacity l.answers)
