use Rattle.painters.proofs.Painters.{newest_traced}
use Rattle.painters.proofs.painter_of.Goals as goal

pub returns-clause-traced : goal.returns-clause-traced
returns-clause-traced c = newest_traced c.args.job.now.layout c.args.calls.now c.args.answers.now c.args.place c.newest_painter.result c.newest_painter.ensures
