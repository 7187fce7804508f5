use Rattle.std.proofs.Common.{get_or, vec_items, vec_len, vec_capacity}
use Rattle.loans.specs.Stocks.{stock_of}
use Rattle.loans.specs.Strokes.{state_of}
use Rattle.loans.specs.Rules.{request_of}
use Rattle.loans.proofs.Calling.{called_answer, called_state, along_own, along_one}
use Rattle.loans.proofs.job.Job.call_all.Goals as goal

pub call-requires : goal.call-requires
call-requires c =
    along_own c.loop-call.invariant c.args.known c.requires.along

pub loop-call-preserved : goal.loop-call-preserved
loop-call-preserved c =
    along_one c.loop-call.invariant
    c.loop-call-test.true _ (state_of c.call.new.self c.call.new.file (stock_of c.call.new.shelves)) c.call.result
    (vec_items c.push_reserved.new.self) (vec_len c.push_reserved.new.self) (vec_capacity c.push_reserved.new.self)
    (called_answer (request_of (get_or c.args.calls.now c.loop-call.call-index _)) c.loop-call.self c.call.new.self c.loop-call.file c.call.new.file c.loop-call.shelves c.call.new.shelves c.call.result c.call.ensures.rule)
    (called_state (request_of (get_or c.args.calls.now c.loop-call.call-index _)) c.loop-call.self c.call.new.self c.loop-call.file c.call.new.file c.loop-call.shelves c.call.new.shelves c.call.result c.call.ensures.rule)
    c.push_reserved.ensures.items c.push_reserved.ensures.len c.push_reserved.ensures.capacity
