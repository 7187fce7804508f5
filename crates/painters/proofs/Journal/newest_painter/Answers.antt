use Rattle.std.proofs.Common.{subst, rules}
use Rattle.painters.specs.Tracing.{painter_at, IsNewest}
use Rattle.painters.proofs.Walks.{counted_rev, found_below}
use Rattle.painters.proofs.Journal.newest_painter.Goals as goal

pub returns : goal.returns
returns c =
    subst (λ n. IsNewest c.args.job.now.layout.table c.args.self.now.calls.now c.args.self.now.answers.now c.args.place n c.find_map.result) c.count.ensures
    (found_below c.rev.result _ c.count.result (λ k. painter_at c.args.job.now.layout.table c.args.self.now.calls.now c.args.self.now.answers.now k c.args.place)
    c.find_map.result (λ a r f' called. search rules) (λ k o h called. search rules) (counted_rev c.rev.result c.count.result c.rev.ensures.runs) c.find_map.ensures.runs)
