use Rattle.std.proofs.Common.{refl, arith}
use Rattle.loans.proofs.Tallying.{passed_none, passed_one, few_counted}
use Rattle.loans.proofs.testing.tally.Goals as goal

pub overflow_add-counts : goal.overflow_add-counts
overflow_add-counts c = omega (arith, few_counted c.loop-mark.invariant c.loop-mark-test.true refl c.requires.rising c.in_ok-position.ensures.1 c.requires.short)

pub loop-mark-init : goal.loop-mark-init
loop-mark-init c = passed_none _ refl refl

pub loop-mark-preserved : goal.loop-mark-preserved
loop-mark-preserved c =
    passed_one c.loop-mark.invariant c.loop-mark-test.true refl c.requires.rising c.in_ok-position.ensures.1 c.in_ok-position.ensures.0
    (omega (arith, c.in_ok-left.ensures)) c.in_ok-left.left (omega (arith, c.in_ok-left.ensures)) c.requires.few
