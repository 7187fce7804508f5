use Rattle.std.proofs.Common.{map, arith}
use Rattle.std.proofs.lemmas.List.{length-map}
use Rattle.orders.specs.Words.{now_of}
use Rattle.orders.proofs.Fields.{no_paint}
use Rattle.orders.proofs.order.paint.Goals.{in_default-via-then-fields-lt5, in_default-via-else-fields-lt5+else-fields-lt6}
use Rattle.orders.proofs.order.paint.Goals as goal

pub returns-in_default : goal.returns-in_default
returns-in_default c =
    let n = length-map c.args.fields.now now_of in
    elim c.in_default.branch [
      | in_default-via-then-fields-lt5 w ↦ no_paint (map now_of c.args.fields.now) (λ e. grind (arith, n, e))
      | in_default-via-else-fields-lt5+else-fields-lt6 w ↦ no_paint (map now_of c.args.fields.now) (λ e. grind (arith, n, e))
    ]
