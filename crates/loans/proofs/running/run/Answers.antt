use Rattle.std.proofs.Common.{map, Ok, Err, vec_items, vec_capacity, refl, subst, arith}
use Rattle.std.proofs.lemmas.List.{length-map}
use Rattle.std.proofs.lemmas.Result.{err_from_is_err_and}
use Rattle.dds.specs.declared.source.FormatSource.TheVariants.{HandedIn}
use Rattle.dds.specs.Readings.{Reading}
use Rattle.dds.specs.Layouts.{Opened}
use Rattle.loans.specs.Rules.{request_of}
use Rattle.loans.specs.Runs.{ordered}
use Rattle.loans.proofs.RunMade.{opened_along, run_made}
use Rattle.loans.proofs.running.run.Goals as goal

pub returns-in_err-layout : goal.returns-in_err-layout
returns-in_err-layout g c =
    let p = err_from_is_err_and c.from_residual.result c.from_residual.ensures.1 in
    rw (p.1, p.2) (
      subst (λ (x : Reading). Opened x HandedIn (g.F.Family.row_bytes c.args.family.now) (g.F.Family.rows c.args.family.now) (Err c.in_err-layout.field-0.0))
          c.of.ensures.read c.in_err-layout.ensures,
      (refl, refl, refl, refl),
    )

pub returns-then-capacity-len : goal.returns-then-capacity-len
returns-then-capacity-len g c = (
  (
    c.in_ok-layout.layout,
    subst (λ (x : Reading). Opened x HandedIn (g.F.Family.row_bytes c.args.family.now) (g.F.Family.rows c.args.family.now) (Ok c.in_ok-layout.layout))
        c.of.ensures.read c.in_ok-layout.ensures,
  ),
  omega (arith, length-map c.args.calls.now request_of),
  (refl, refl, refl, refl),
)

pub call_all-requires-clause-along : goal.call_all-requires-clause-along
call_all-requires-clause-along g c =
    let opened =
    subst (λ (x : Reading). Opened x HandedIn (g.F.Family.row_bytes c.args.family.now) (g.F.Family.rows c.args.family.now) (Ok c.in_ok-layout.layout))
    c.of.ensures.read c.in_ok-layout.ensures in
    opened_along (ordered c.args.file.now c.args.number (g.F.Family.row_bytes c.args.family.now) (g.F.Family.rows c.args.family.now)
    c.args.shelves.now (map request_of c.args.calls.now) (vec_items c.args.answers.now) (vec_capacity c.args.answers.now)) c.fresh-opened.result c.in_ok-layout.layout opened c.fresh-opened.ensures
    c.are_empty.result c.are_empty.ensures

pub returns : goal.returns
returns g c =
    let opened =
    subst (λ (x : Reading). Opened x HandedIn (g.F.Family.row_bytes c.args.family.now) (g.F.Family.rows c.args.family.now) (Ok c.in_ok-layout.layout))
    c.of.ensures.read c.in_ok-layout.ensures in
    run_made _ c.fresh-opened.result c.in_ok-layout.layout opened c.fresh-opened.ensures
    c.of-2.result c.of-2.ensures (omega (arith, length-map c.args.calls.now request_of, c.capacity.ensures, c.len.ensures)) _ _ _ refl c.call_all.ensures
