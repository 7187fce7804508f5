use Rattle.std.proofs.Common.{◌≡◌, ◌-◌, ◌+◌, ℕ, not, refl, sym, subst, arith, rules, tests, Option, None, length, max}
use Rattle.std.proofs.lemmas.Iterator.{YieldsList-from_range}
use Rattle.std.proofs.lemmas.Iterator.Search.{find_from_yields_List}
use Rattle.trace.specs.declared.change.Change.{Change}
use Rattle.trace.specs.Changes.{is_changed, IsFirstRun}
use Rattle.trace.proofs.Runs.{Found, found, none_left, Run, run_found, first_run}
use Rattle.trace.proofs.changes.first_change.Goals as goal

pub returns-in_err-place : goal.returns-in_err-place
returns-in_err-place c =
    let p = is_changed c.args.before.now c.args.after.now in
    let n : ℕ = c.max-end.result - c.args.from in
    let ends : c.max-end.result ≡ max (length c.args.before.now) (length c.args.after.now) = cc in
    let first = find_from_yields_List p _ _ c.find.result c.find.ensures.ran (YieldsList-from_range c.args.from c.max-end.result n refl refl) (λ x b q k. search (rules, tests)) in
    let none : Found p c.args.from (c.args.from + n) None = subst (Found p c.args.from (c.args.from + n)) c.in_err-place.was (found p c.args.from n c.find.result first) in
    subst (λ (r : Option Change). IsFirstRun p c.args.from (max (length c.args.before.now) (length c.args.after.now)) r) (sym c.from_residual.ensures)
    (subst (λ e. IsFirstRun p c.args.from e None) ends (none_left p c.args.from n none))

-- what the two searches found
run : (c : goal.After-unwrap_or-behind) → Run (is_changed c.args.before.now c.args.after.now) c.args.from c.max-end.result c.in_ok-place.place c.unwrap_or-behind.result
run c =
    let p = is_changed c.args.before.now c.args.after.now in
    let n : ℕ = c.max-end.result - c.args.from in
    let m : ℕ = c.max-end.result - c.in_ok-place.place in
    let first = find_from_yields_List p _ _ c.find.result c.find.ensures.ran (YieldsList-from_range c.args.from c.max-end.result n refl refl) (λ x b q k. search (rules, tests)) in
    let second = find_from_yields_List (λ k. not (p k)) _ _ c.find-2.result c.find-2.ensures.ran (YieldsList-from_range c.in_ok-place.place c.max-end.result m refl refl) (λ x b q k. search (rules, tests)) in
    run_found p c.args.from c.max-end.result c.in_ok-place.place c.unwrap_or-behind.result c.find-2.result
    (subst (Found p c.args.from (c.args.from + n)) c.in_ok-place.was (found p c.args.from n c.find.result first))
    (found (λ k. not (p k)) c.in_ok-place.place m c.find-2.result second)
    c.unwrap_or-behind.ensures

pub overflow_sub-result : goal.overflow_sub-result
overflow_sub-result c = omega (arith, (run c).filled)

pub returns : goal.returns
returns c =
    let p = is_changed c.args.before.now c.args.after.now in
    let ends : c.max-end.result ≡ max (length c.args.before.now) (length c.args.after.now) = cc in
    let here : Run p c.args.from (max (length c.args.before.now) (length c.args.after.now)) c.in_ok-place.place c.unwrap_or-behind.result =
    subst (λ e. Run p c.args.from e c.in_ok-place.place c.unwrap_or-behind.result) ends (run c) in
    first_run p c.args.from (max (length c.args.before.now) (length c.args.after.now)) c.in_ok-place.place c.unwrap_or-behind.result here
