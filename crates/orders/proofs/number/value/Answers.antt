use Rattle.std.proofs.Common.{◌≡◌, true, sym, ap, ◌∙◌, rules, tests}
use Rattle.orders.specs.Words.{is_plain, value_at}
use Rattle.orders.proofs.Numbers.{AreDigits, digits_utf8, text_some, text_same, parsed}
use Rattle.orders.proofs.number.value.Goals as goal

pub returns-in_err-ok : goal.returns-in_err-ok
returns-in_err-ok c =
    let digits : AreDigits c.args.word.now = search (rules, tests) in
    absurd (text_some _ c.args.word.now c.from_utf8.result c.from_utf8.ensures.cases (digits_utf8 c.args.word.now digits) (sym c.ok.ensures.value ∙ c.in_err-ok.was))

pub returns : goal.returns
returns c =
    let word = c.in_ok-ok.field-0.now in
    let same = text_same _ c.args.word.now c.from_utf8.result c.in_ok-ok.field-0 c.from_utf8.ensures.cases (sym c.ok.ensures.value ∙ c.in_ok-ok.was) in
    let plain : is_plain c.args.word.now ≡ true = search (rules, tests) in
    let digits : AreDigits c.args.word.now = search (rules, tests) in
    c.ok-2.ensures.value
    ∙ parsed word c.parse.result (ap is_plain same ∙ plain) (rw same digits) c.parse.ensures.value.0
    ∙ ap value_at same
