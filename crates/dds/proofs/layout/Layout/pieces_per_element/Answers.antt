use Rattle.std.proofs.Common.{ap, ◌∙◌, List, length, sum_by, arith}
use Rattle.std.proofs.lemmas.List.{length-take}
use Rattle.dds.specs.declared.level.Level.{Level}
use Rattle.dds.proofs.Numbering.{count_sum}
use Rattle.dds.proofs.layout.Layout.pieces_per_element.Goals as goal

pub returns : goal.returns
returns c =
    let s = c.args.self.now in
    let long = ap length c.levels.ensures.levels ∙ length-take s.table.level_count s.table.levels in
    let count = c.levels.ensures.count in
    c.slices_of.ensures ∙ ap (λ (xs : List Level). sum_by (λ (l : Level). l.slices) xs) c.levels.ensures.levels
    ∙ count_sum s.table.levels s.table.level_count (omega arith)
