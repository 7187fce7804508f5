use Rattle.std.proofs.Common.{◌*◌, sym, ap, ◌∙◌, arith}
use Rattle.dds.specs.declared.layout.Layout.{Layout}
use Rattle.dds.specs.Sound.{plan_in}
use Rattle.dds.proofs.Numbering.{pieces_length, pieces_few}
use Rattle.dds.proofs.layout.Layout.piece_count.Goals as goal

pub overflow_mul-result : goal.overflow_mul-result
overflow_mul-result c =
    let few = pieces_few c.args.self.now in
    let m = ap (λ n. c.args.self.now.table.elements * n) c.pieces_per_element.ensures in
    let same = ap (λ (y : Layout). y.table.elements * c.pieces_per_element.result) c.self.view_is in
    omega arith

pub returns : goal.returns
returns c =
    ap (λ (y : Layout). y.table.elements * c.pieces_per_element.result) c.self.view_is
    ∙ ap (λ n. c.args.self.now.table.elements * n) c.pieces_per_element.ensures ∙ sym (pieces_length (plan_in c.args.self.now.table))
