use Rattle.std.proofs.Common.{ap}
use Rattle.loans.specs.declared.loan.Loan.{Loan}
use Rattle.loans.proofs.Undone.{undo_carried}
use Rattle.loans.proofs.job.Job.undo_on.Goals as goal

pub returns : goal.returns
returns c =
    undo_carried (record {
      tested = c.in_ok-last.ensures;
      file = c.take_back.ensures.file;
      shelves = c.take_back.ensures.shelves;
      before = ap (λ (l : Loan). l.strokes) c.loan_at-strokes.ensures.value;
      rising = c.count_strokes.ensures.rising;
      book = c.count_strokes.ensures.book;
    })
