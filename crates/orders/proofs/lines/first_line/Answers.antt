use Rattle.std.proofs.Common.{◌+◌, ◌-◌, length, take, drop, sym, ◌∙◌, subst, arith, rules, tests, length-drop}
use Rattle.std.proofs.lemmas.Iterator.Adapters.{position_from-zero}
use Rattle.std.proofs.lemmas.List.{take_all}
use Rattle.std.proofs.lemmas.Iterator.{YieldsList-from_slice}
use Rattle.std.proofs.lemmas.Iterator.Search.{position_from_yields_List}
use Rattle.orders.specs.Lines.{is_end, Begins}
use Rattle.orders.proofs.Cutting.{begins_none, begins_some}
use Rattle.orders.proofs.lines.first_line.Goals as goal

pub returns-in-Some : goal.returns-in-Some
returns-in-Some c =
    let at = position_from_yields_List is_end _ _ _ c.position.ensures.ran (YieldsList-from_slice c.args.text.now cc) (λ x b q k. search (rules, tests)) in
    let text = c.args.text.now in
    let found = begins_some text c.in-Some.end (sym (position_from-zero is_end text) ∙ sym at ∙ c.in-Some.is) in
    subst (Begins text (take c.in-Some.end text)) (sym (take_all (length text - (c.in-Some.end + 1)) (drop (c.in-Some.end + 1) text) (omega (arith, length-drop (c.in-Some.end + 1) text)))) found

pub returns-in-None : goal.returns-in-None
returns-in-None c =
    let at = position_from_yields_List is_end _ _ _ c.position.ensures.ran (YieldsList-from_slice c.args.text.now cc) (λ x b q k. search (rules, tests)) in
    let text = c.args.text.now in
    begins_none text (sym (position_from-zero is_end text) ∙ sym at ∙ c.in-None.is)
