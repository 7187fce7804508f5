use Rattle.std.proofs.Common.{◌≡◌, sym, ap, ◌∙◌}
use Rattle.std.proofs.lemmas.Bool.{cond-false}
use Rattle.loans.specs.declared.loan.Loan.{Loan}
use Rattle.loans.specs.Stocks.{the_loan}
use Rattle.loans.specs.Strokes.{painting_of, is_outside_row, stroke_place}
use Rattle.loans.proofs.Painted.{paint_at}
use Rattle.loans.proofs.job.Job.target_for.Goals as goal

pub returns : goal.returns
returns c =
    let p = painting_of c.args.painting in
    let is : c.loan_at-loan.result ≡ the_loan c.args.self.now.outs c.args.painting.loan =
    c.loan_at-loan.ensures.value ∙ sym c.in_ok-position.ensures.loan.found in
    paint_at _ p c.in_ok-position.position _ c.if-lack_space.ensures.fits c.in_ok-position.ensures.orderly
    (c.in_ok-position.ensures.next _
    ∙ cond-false _ _ _ (ap (λ (l : Loan). is_outside_row l.area p) (sym is) ∙ sym c.if-is_outside_row.ensures)
    ∙ cond-false _ _ _ (sym c.if-lack_space.ensures.value))
    c.in_ok-position.ensures.loan (ap (λ (l : Loan). stroke_place l.area p) is)
