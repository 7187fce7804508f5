use Rattle.std.proofs.Common.{◌≡◌, ℕ, List, length, sym, ◌∙◌, subst, ap₂, subst₂}
use Rattle.std.proofs.lemmas.Bool.{eqb-true}
use Rattle.loans.specs.declared.mark.Mark.{Mark}
use Rattle.loans.specs.Stocks.{stock_of}
use Rattle.loans.specs.steps.Finding.{Found}
use Rattle.loans.specs.LoanEnds.{InFile, restored}
use Rattle.loans.proofs.Items.{same_items}
use Rattle.loans.proofs.Undone.{marks_in_file}
use Rattle.loans.proofs.EndedBooks.{cancel_carried}
use Rattle.loans.proofs.Handed.{cancelled_handed}
use Rattle.loans.proofs.job.Job.cancel_on.Goals as goal

pub restore-requires-clause-inside : goal.restore-requires-clause-inside
restore-requires-clause-inside c =
    let sized : length c.args.file.now ≡ c.args.self.now.layout.table.length = eqb-true _ _ (sym c.if-not-has_length.ensures) in
    subst₂ (λ (n : ℕ) (ms : List Mark). InFile n ms) (sym sized) (sym (c.elements.ensures.value ∙ same_items c.marks.ensures.value))
    (marks_in_file c.args.self.now c.position_of.ensures.orderly (stock_of c.args.shelves.now) (sym c.if-not-owns_or_knows.ensures))

pub returns-clause-rule : goal.returns-clause-rule
returns-clause-rule c =
    cancel_carried (record {
      orderly = c.position_of.ensures.orderly;
      loan = subst (Found c.args.self.now.outs c.args.loan) c.in_ok-position.ensures.ok_part c.position_of.ensures.found;
      own_shelves = sym c.if-not-owns_or_knows.ensures;
      shelves = c.drop_loan.ensures;
      book = c.end_loan.ensures.book;
      answer = c.end_loan.ensures.left;
    })
    (eqb-true _ _ (sym c.if-not-has_length.ensures))
    (c.restore.ensures
    ∙ ap₂ (λ (ms : List Mark) (ks : List ℕ). restored c.args.loan c.args.file.now ms ks) (c.elements.ensures.value ∙ same_items c.marks.ensures.value)
    (c.elements-2.ensures.value ∙ same_items c.bytes.ensures.value))

pub returns-clause-handed : goal.returns-clause-handed
returns-clause-handed c =
    cancelled_handed c.args.self.now c.args.file.now (stock_of c.args.shelves.now) c.args.loan c.end_loan.result _ c.position_of.ensures.orderly (returns-clause-rule c)
