use Rattle.std.proofs.Common.{◌<◌, List, length, get_or, ap, arith}
use Rattle.loans.specs.declared.loan.Loan.{Loan}
use Rattle.loans.specs.Ledgers.{no_loan}
use Rattle.loans.proofs.Scrapped.{cancelled_one}
use Rattle.loans.proofs.job.Job.cancel_all.Goals as goal

pub loop-self-preserved : goal.loop-self-preserved
loop-self-preserved c =
    let some : 0 < length c.loop-self.self.outs = omega (arith, ap length c.outs.ensures.value, c.in-len1-up.len_at_least) in
    (cancelled_one _ c.loop-self.self c.outs.ensures.orderly c.loop-self.file c.loop-self.shelves c.loop-self.invariant some _
    (ap (λ (ls : List Loan). (get_or ls 0 no_loan).number) c.outs.ensures.value) c.cancel_on.new.self c.cancel_on.new.file c.cancel_on.new.shelves c.cancel_on.result c.cancel_on.ensures.rule).0

pub loop-self-smaller : goal.loop-self-smaller
loop-self-smaller c =
    let some : 0 < length c.loop-self.self.outs = omega (arith, ap length c.outs.ensures.value, c.in-len1-up.len_at_least) in
    (cancelled_one _ c.loop-self.self c.outs.ensures.orderly c.loop-self.file c.loop-self.shelves c.loop-self.invariant some _
    (ap (λ (ls : List Loan). (get_or ls 0 no_loan).number) c.outs.ensures.value) c.cancel_on.new.self c.cancel_on.new.file c.cancel_on.new.shelves c.cancel_on.result c.cancel_on.ensures.rule).1
