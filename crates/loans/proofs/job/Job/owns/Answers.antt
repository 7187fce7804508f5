use Rattle.std.proofs.Common.{length, sym, ap, ◌∙◌, subst}
use Rattle.loans.specs.Ledgers.{NumbersRise}
use Rattle.loans.specs.Books.{Book}
use Rattle.loans.specs.Stocks.{stock_of}
use Rattle.loans.proofs.Items.{same_items}
use Rattle.loans.proofs.Owning.{owned}
use Rattle.loans.proofs.job.Job.owns.Goals as goal

pub tally-requires-clause-rising : goal.tally-requires-clause-rising
tally-requires-clause-rising c = subst NumbersRise (sym c.outs.ensures.value) c.outs.ensures.orderly.rising

pub returns-in-Some : goal.returns-in-Some
returns-in-Some c =
    owned c.args.self.now (stock_of c.args.shelves.now) c.outs.result.now c.outs-in-Some.result.now c.elements-marks.result.now
    c.count-covered.result c.in-Some.counts c.counts_agree.result c.outs.ensures.orderly.few c.outs.ensures.value c.outs-in-Some.ensures.value
    (c.elements-marks.ensures.value ∙ same_items c.marks.ensures.value)
    (c.count-covered.ensures.value ∙ ap length (same_items c.bytes.ensures.value))
    (c.if-marks-self.false ∙ ap (λ (b : Book). b.marks) c.self.view_is) (c.if-covered-self.false ∙ ap (λ (b : Book). b.bytes) c.self.view_is)
    c.in-Some.ensures c.counts_agree.ensures
