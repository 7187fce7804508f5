use Rattle.std.proofs.Common.{◌<◌, length, ap, ◌∙◌, arith}
use Rattle.loans.specs.Books.{Book}
use Rattle.loans.specs.Stocks.{stock_of}
use Rattle.loans.specs.steps.Writing.{book_counted}
use Rattle.loans.proofs.Items.{same_items}
use Rattle.loans.proofs.Counting.{out_count}
use Rattle.loans.proofs.Recounting.{counted_in_order, counted_in}
use Rattle.loans.proofs.job.Job.count_strokes.Goals as goal

pub invariant_of-self : goal.invariant_of-self
invariant_of-self c =
    let l = c.self.inside.ledger in
    let o = c.self.invariant in
    let out : c.args.position < l.out = omega (arith, c.requires, ap (λ (b : Book). length b.outs) c.self.view_is, out_count l o.balanced) in
    counted_in_order l o.balanced c.args.position c.args.strokes _ _ out _ o

pub returns-clause-book : goal.returns-clause-book
returns-clause-book c =
    let l = c.self.inside.ledger in
    let o = c.self.invariant in
    let out : c.args.position < l.out = omega (arith, c.requires, ap (λ (b : Book). length b.outs) c.self.view_is, out_count l o.balanced) in
    let marks = c.count-ledger.ensures.value ∙ ap length (same_items c.marks.ensures.value) in
    let bytes = c.count-ledger-2.ensures.value ∙ ap length (same_items c.bytes.ensures.value) in
    counted_in l o.balanced c.args.position c.args.strokes _ _ out c.self.inside.layout (stock_of c.args.shelves.now) marks bytes
    ∙ ap (λ (b : Book). book_counted b c.args.position c.args.strokes (stock_of c.args.shelves.now)) c.self.view_is
