use Rattle.std.proofs.Common.{map, arith}
use Rattle.std.proofs.lemmas.List.{length-map}
use Rattle.orders.specs.Words.{now_of}
use Rattle.orders.proofs.Fields.{no_loan}
use Rattle.orders.proofs.order.loan.Goals.{in_default-via-then-fields-lt2, in_default-via-else-fields-lt2+else-fields-lt3+then-fields-lt4, in_default-via-else-fields-lt2+else-fields-lt3+else-fields-lt4+else-fields-lt5}
use Rattle.orders.proofs.order.loan.Goals as goal

pub returns-in_default : goal.returns-in_default
returns-in_default c =
    let n = length-map c.args.fields.now now_of in
    elim c.in_default.branch [
      | in_default-via-then-fields-lt2 w ↦ no_loan (map now_of c.args.fields.now) (λ e. grind (arith, n, e)) (λ e. grind (arith, n, e))
      | in_default-via-else-fields-lt2+else-fields-lt3+then-fields-lt4 w ↦ no_loan (map now_of c.args.fields.now) (λ e. grind (arith, n, e)) (λ e. grind (arith, n, e))
      | in_default-via-else-fields-lt2+else-fields-lt3+else-fields-lt4+else-fields-lt5 w ↦ no_loan (map now_of c.args.fields.now) (λ e. grind (arith, n, e)) (λ e. grind (arith, n, e))
    ]
