use Rattle.std.proofs.Common.{◌≡◌, ◌<◌, ◌≤◌, length, take, sym, ap, ◌∙◌, ⊎_elim, arith, rules}
use Rattle.std.proofs.lemmas.List.{take_all}
use Rattle.std.proofs.lemmas.Bool.{cases_lt}
use Rattle.dds.proofs.head.FileHead.of.Goals as goal

pub returns : goal.returns
returns c =
    let m = c.min.ensures in
    let front : take c.min.result c.args.file.now ≡ take 148 c.args.file.now =
    ⊎_elim
    (λ (short : length c.args.file.now < 148).
    take_all (c.min.result) c.args.file.now (omega arith) ∙ sym (take_all 148 c.args.file.now (omega arith)))
    (λ (long : 148 ≤ length c.args.file.now).
    let e : c.min.result ≡ 148 = omega arith in
    ap (λ n. take n c.args.file.now) e)
    (cases_lt (length c.args.file.now) 148) in
    search rules
