use Rattle.std.proofs.Common.{List, Option, ◌∙◌, subst₂}
use Rattle.loans.specs.declared.mark.Mark.{Mark}
use Rattle.loans.specs.declared.newest.Newest.{Newest}
use Rattle.loans.specs.steps.Taking.{FoundNewest}
use Rattle.loans.proofs.Items.{same_items}
use Rattle.loans.proofs.Undone.{undo_at}
use Rattle.loans.proofs.job.Job.last_stroke.Goals as goal

pub returns : goal.returns
returns c =
    let found =
    subst₂ (λ (ms : List Mark) (r : Option Newest). FoundNewest ms c.args.loan r) (c.elements-marks.ensures.value ∙ same_items c.marks.ensures.value)
    c.in_ok-newest.ensures.ok_part c.newest_of.ensures in
    undo_at _ c.args.loan c.args.borrower c.in_ok-position.position
    c.in_ok-newest.newest.position c.in_ok-newest.newest.begin c.in_ok-position.ensures found
