use Rattle.std.proofs.Common.{arith}
use Rattle.loans.proofs.Leading.{passed_low, passed_more, leads_here, leads_all}
use Rattle.loans.proofs.sifting.before_first.Goals as goal

pub returns-then-mark-loan : goal.returns-then-mark-loan
returns-then-mark-loan c = leads_here c.loop-position.invariant c.loop-position-test.true c.if-mark-loan.true

pub overflow_add-bytes : goal.overflow_add-bytes
overflow_add-bytes c = omega (arith, passed_low (passed_more c.loop-position.invariant c.loop-position-test.true c.if-mark-loan.false), c.requires)

pub loop-position-preserved : goal.loop-position-preserved
loop-position-preserved c = passed_more c.loop-position.invariant c.loop-position-test.true c.if-mark-loan.false

pub returns : goal.returns
returns c = leads_all c.loop-position.invariant (omega (arith, c.loop-position-test.false, c.loop-position.auto.position-end))
