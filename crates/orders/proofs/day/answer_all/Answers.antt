use Rattle.std.proofs.Common.{◌+◌, ◌++◌, length, vec_len, ap, ◌∙◌, arith}
use Rattle.loans.specs.Stocks.{stock_of}
use Rattle.loans.specs.Strokes.{state_of}
use Rattle.orders.specs.Lines.{lines_left}
use Rattle.orders.specs.Replies.{reply_text}
use Rattle.orders.proofs.Working.{weights_more, few_digits, printed_little, working_first, working_more}
use Rattle.orders.proofs.day.answer_all.Goals as goal

pub loop-line-init : goal.loop-line-init
loop-line-init c =
    working_first c.args.orders.now (state_of c.args.job.now c.args.file.now (stock_of c.args.shelves.now)) _ _ _ _ c.requires.short (ap lines_left c.into_iter-line-iterator.ensures.into_iter_gives ∙ c.of-line-items.ensures)

pub print-requires : goal.print-requires
print-requires c =
    let few = few_digits c.loop-line.invariant.most c.requires.limit c.answer-answer.result c.answer-answer.ensures.limit in
    let little = printed_little c.in-Some.line.now _ _ c.answer-answer.result c.answer-answer.ensures.answered few in
    omega (arith, c.loop-line.invariant.room, c.loop-line.invariant.same, c.requires.room, little, ap (λ r. length (reply_text r)) c.from.ensures, weights_more c.in-Some.line.now c.in-Some.ensures.steps)

pub loop-line-preserved : goal.loop-line-preserved
loop-line-preserved c =
    let from = c.from.ensures in
    let few = few_digits c.loop-line.invariant.most c.requires.limit c.answer-answer.result c.answer-answer.ensures.limit in
    working_more _ _ _ _ _ _ _ _ c.in-Some.line.now _ _ _ _ _ _ _ _ c.answer-answer.result
    c.in-Some.ensures.steps c.loop-line.invariant c.answer-answer.ensures.answered few
    (c.print.ensures.items ∙ ap (λ r. c.loop-line.printed.items ++ reply_text r) from) (c.print.ensures.length ∙ ap (λ r. vec_len c.loop-line.printed + length (reply_text r)) from) c.print.ensures.capacity
    c.answer-answer.ensures.room
