use Rattle.std.proofs.Common.{◌++◌, length, map, rules, tests, arith, sym, ap, ◌∙◌}
use Rattle.std.proofs.lemmas.Iterator.Splits.{YieldsList-from_slice_split}
use Rattle.orders.specs.steps.Reading.{is_space}
use Rattle.orders.specs.Words.{now_of}
use Rattle.orders.proofs.Yielding.{drained, more_than, said_ok, said_err}
use Rattle.orders.proofs.order.words.Goals as goal

pub returns-in_err-ok : goal.returns-in_err-ok
returns-in_err-ok c =
    let none = sym c.ok.ensures.value ∙ c.in_err-ok.was in
    let more = said_err _ c.extend.result c.extend.ensures.one_more none in
    let full = said_err _ c.extend.result c.extend.ensures.full none in
    let xs = more.1 in
    let longer = more_than _ now_of xs more.2 more.3 _ _ _ more.4 more.5
    (YieldsList-from_slice_split _ is_space c.args.line.now c.split.ensures.rest c.split.ensures.done c.split.ensures.closure (λ x r q k. search (rules, tests))) in
    let six = ap length (sym (more.6 ∙ ap (λ ws. ws ++ xs) c.new-words.ensures)) ∙ full in
    rw c.from_residual.ensures (omega (arith, longer, six))

pub returns : goal.returns
returns c =
    let ran = c.extend.ensures.ran in
    let xs = ran.1 in
    let drains = said_ok _ _ c.extend.result _ ran.4 (sym c.ok.ensures.value ∙ c.in_ok-ok.was) in
    ap (map now_of) (ran.3 ∙ ap (λ ws. ws ++ xs) c.new-words.ensures)
    ∙ drained _ now_of xs _ _ _ ran.2 drains
    (YieldsList-from_slice_split _ is_space c.args.line.now c.split.ensures.rest c.split.ensures.done c.split.ensures.closure (λ x r q k. search (rules, tests)))
