use Rattle.std.proofs.Common.{sym, ◌∙◌, arith}
use Rattle.painters.specs.Tracing.{no_call, no_answer}
use Rattle.painters.proofs.Painters.{shorter, owed_last, owed_gone, owed_there}
use Rattle.painters.proofs.Journal.owed_from.Goals as goal

pub loop-position-init : goal.loop-position-init
loop-position-init c =
    owed_last c.args.self.now.calls.now c.args.self.now.answers.now c.args.loan c.args.from c.count-position.result
    (shorter c.args.self.now.calls.now c.args.self.now.answers.now c.count-position.result c.count-position.ensures)
    (omega (arith, c.count-position.ensures)) (omega (arith, c.count-position.ensures))

pub returns-in_err-owed : goal.returns-in_err-owed
returns-in_err-owed c =
    c.from_residual.ensures
    ∙ sym (owed_gone c.args.self.now.calls.now c.args.self.now.answers.now c.args.loan c.args.from c.loop-position.position c.loop-position.owed c.loop-position.invariant c.loop-position-test.true no_call no_answer (sym c.in_err-owed.was ∙ c.owed_before.ensures))

pub returns : goal.returns
returns c = sym (owed_there c.args.self.now.calls.now c.args.self.now.answers.now c.args.loan c.args.from c.loop-position.position c.loop-position.owed c.loop-position.invariant c.loop-position-test.false)
