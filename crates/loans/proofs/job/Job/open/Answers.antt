use Rattle.std.proofs.Common.{Ok, sym, ap, ◌∙◌, subst}
use Rattle.dds.specs.Readings.{Reading, reading_of}
use Rattle.dds.specs.Layouts.{OpenedBy}
use Rattle.loans.specs.Books.{Book}
use Rattle.loans.proofs.Opened.{length_by_codes}
use Rattle.loans.proofs.job.Job.open.Goals as goal

pub returns-clause-length : goal.returns-clause-length
returns-clause-length g c =
    let names = g.T.CodeTable.name_at c.args.codes.now in
    let opened = subst (λ (x : Reading). OpenedBy x names (Ok c.in_ok-layout.layout)) c.of.ensures.read c.in_ok-layout.ensures in
    sym (ap (λ (b : Book). b.layout.table.length) c.fresh.ensures
    ∙ length_by_codes (reading_of c.args.file.now) names c.in_ok-layout.layout opened)
