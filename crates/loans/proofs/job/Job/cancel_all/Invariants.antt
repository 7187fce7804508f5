use Rattle.std.proofs.Common.{length}
use Rattle.loans.specs.Stocks.{stock_of}
use Rattle.loans.specs.Strokes.{state_of}
use Rattle.loans.proofs.Scrapped.{Cancelling}
use Rattle.loans.proofs.job.Job.cancel_all.Given as goal

abbrev pub invariant-loop-self : goal.invariant-loop-self
invariant-loop-self l = Cancelling (state_of l.initial.self l.initial.file (stock_of l.initial.shelves)) (state_of l.self l.file (stock_of l.shelves))

abbrev pub decreases-loop-self : goal.decreases-loop-self
decreases-loop-self l = length l.self.outs
