use Rattle.std.proofs.Common.{Err, refl, subst}
use Rattle.std.proofs.lemmas.Result.{err_from_is_err_and}
use Rattle.dds.specs.declared.source.FormatSource.TheVariants.{HandedIn}
use Rattle.dds.specs.Readings.{Reading}
use Rattle.dds.specs.Layouts.{Opened}
use Rattle.loans.proofs.job.Job.open_with.Goals as goal

pub returns-in_err-layout-clause-opened : goal.returns-in_err-layout-clause-opened
returns-in_err-layout-clause-opened g c =
    let p = err_from_is_err_and c.from_residual.result c.from_residual.ensures.1 in
    rw (p.1, p.2) (
      subst (λ (x : Reading). Opened x HandedIn (g.F.Family.row_bytes c.args.family.now) (g.F.Family.rows c.args.family.now) (Err c.in_err-layout.field-0.0))
          c.of.ensures.read c.in_err-layout.ensures,
      refl,
    )
