use Rattle.std.proofs.Common.{eqb, rules, tests}
use Rattle.std.proofs.lemmas.Iterator.{YieldsList-from_slice}
use Rattle.std.proofs.lemmas.Iterator.Search.{position_from_yields_List}
use Rattle.loans.specs.declared.loan.Loan.{Loan}
use Rattle.loans.proofs.Slots.{found_at}
use Rattle.loans.proofs.searching.position_of.Goals as goal

pub returns : goal.returns
returns c =
    found_at c.args.loans.now c.args.number c.position.result
    (position_from_yields_List (λ (l : Loan). eqb l.number c.args.number) _ _ _ c.position.ensures.ran (YieldsList-from_slice c.args.loans.now cc) (λ x b q k. search (rules, tests)))
