use Rattle.std.proofs.Common.{◌<◌, length, sym, ap, ◌∙◌, subst, arith}
use Rattle.loans.specs.Ledgers.{InOrder}
use Rattle.loans.specs.Books.{Book, book_in}
use Rattle.loans.specs.Stocks.{stock_of}
use Rattle.loans.specs.steps.Writing.{book_ended}
use Rattle.loans.proofs.Items.{same_items}
use Rattle.loans.proofs.Counting.{out_count}
use Rattle.loans.proofs.Ended.{counts_one, ended_in_order, ended_in}
use Rattle.loans.proofs.job.Job.end_loan.Goals as goal

pub end-requires-clause-out : goal.end-requires-clause-out
end-requires-clause-out c =
    omega (arith, c.requires, ap (λ (b : Book). length b.outs) c.self.view_is, out_count c.self.inside.ledger c.self.invariant.balanced)

pub invariant_of-self : goal.invariant_of-self
invariant_of-self c =
    let l = c.self.inside.ledger in
    let o = c.self.invariant in
    let out : c.args.position < l.out = omega (arith, c.requires, ap (λ (b : Book). length b.outs) c.self.view_is, out_count l o.balanced) in
    subst (InOrder _) (sym c.end.ensures) (ended_in_order l o.balanced c.args.position _ _ _ _ out (counts_one c.args.outcome) _ o)

pub returns-clause-book : goal.returns-clause-book
returns-clause-book c =
    let l = c.self.inside.ledger in
    let o = c.self.invariant in
    let out : c.args.position < l.out = omega (arith, c.requires, ap (λ (b : Book). length b.outs) c.self.view_is, out_count l o.balanced) in
    let marks = c.count-marks.ensures.value ∙ ap length (same_items c.marks.ensures.value) in
    let bytes = c.count-bytes.ensures.value ∙ ap length (same_items c.bytes.ensures.value) in
    ap (book_in c.self.inside.layout) c.end.ensures ∙ ended_in l o.balanced c.args.position c.args.outcome _ _ out c.self.inside.layout (stock_of c.args.shelves.now) marks bytes
    ∙ ap (λ (b : Book). book_ended b c.args.position c.args.outcome (stock_of c.args.shelves.now)) c.self.view_is
