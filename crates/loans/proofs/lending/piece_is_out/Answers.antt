use Rattle.std.proofs.Common.{rules, tests}
use Rattle.std.proofs.lemmas.Iterator.{YieldsList-from_slice}
use Rattle.std.proofs.lemmas.Iterator.Search.{any_from_yields_List}
use Rattle.loans.specs.declared.loan.Loan.{Loan}
use Rattle.loans.specs.Lending.{same_piece}
use Rattle.loans.proofs.lending.piece_is_out.Goals as goal

pub returns : goal.returns
returns c =
    any_from_yields_List (λ (l : Loan). same_piece l.piece c.args.piece) _ _ _ c.any.ensures.ran (YieldsList-from_slice c.args.loans.now cc) (λ x b q k. search (rules, tests))
