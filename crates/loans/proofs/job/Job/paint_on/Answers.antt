use Rattle.std.proofs.Common.{ap}
use Rattle.loans.specs.declared.loan.Loan.{Loan}
use Rattle.loans.specs.Strokes.{painting_of}
use Rattle.loans.proofs.Painted.{paint_carried}
use Rattle.loans.proofs.job.Job.paint_on.Goals as goal

pub returns : goal.returns
returns c =
    paint_carried {p = painting_of c.args.painting} (record {
      tested = c.in_ok-target.ensures;
      shelved = c.shelve.ensures;
      laid = c.lay.ensures;
      strokes = ap (λ (l : Loan). l.strokes) c.loan_at-strokes.ensures.value;
      rising = c.count_strokes.ensures.rising;
      book = c.count_strokes.ensures.book;
    })
