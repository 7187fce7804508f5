use Rattle.std.proofs.Common.{ℕ, eqb, ◌∙◌, rules, tests}
use Rattle.std.proofs.lemmas.Iterator.{YieldsList-from_slice, YieldsList-from_zip}
use Rattle.std.proofs.lemmas.Iterator.Search.{all_from_yields_List}
use Rattle.loans.specs.declared.loan.Loan.{Loan}
use Rattle.loans.proofs.Tallying.{agree_all}
use Rattle.loans.proofs.testing.counts_agree.Goals as goal

pub returns : goal.returns
returns c =
    all_from_yields_List (λ (p : Loan × ℕ). eqb p.0.strokes p.1) c.all.new.self _ _ c.all.ensures.ran
    (YieldsList-from_zip (YieldsList-from_slice c.args.loans.now cc) (YieldsList-from_slice c.args.counts.now cc)) (λ x b q k. search (rules, tests))
    ∙ agree_all c.args.loans.now c.args.counts.now c.requires
