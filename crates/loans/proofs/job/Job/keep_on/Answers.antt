use Rattle.std.proofs.Common.{[], sym, subst}
use Rattle.loans.specs.Stocks.{stock_of}
use Rattle.loans.specs.steps.Finding.{Found}
use Rattle.loans.proofs.EndedBooks.{keep_carried}
use Rattle.loans.proofs.Handed.{kept_handed}
use Rattle.loans.proofs.job.Job.keep_on.Goals as goal

pub returns-clause-rule : goal.returns-clause-rule
returns-clause-rule c f =
    keep_carried (record {
      orderly = c.position_of.ensures.orderly;
      loan = subst (Found c.args.self.now.outs c.args.loan) c.in_ok-position.ensures.ok_part c.position_of.ensures.found;
      own_shelves = sym c.if-not-owns_or_knows.ensures;
      shelves = c.drop_loan.ensures;
      book = c.end_loan.ensures.book;
      answer = c.end_loan.ensures.left;
    }) f

pub returns-clause-handed : goal.returns-clause-handed
returns-clause-handed c =
    kept_handed c.args.self.now [] (stock_of c.args.shelves.now) c.args.loan c.end_loan.result _ c.position_of.ensures.orderly (returns-clause-rule c [])
