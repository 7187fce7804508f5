-- The runs of places at which two files differ.
use Rattle.std.proofs.Common.{◌≡◌, ◌≢◌, ℕ, zero, suc, ◌+◌, ◌<◌, ◌≤◌, max, true, false, not, List, [], ◌∷◌, length, Some, None, Option, sym, refl, ap, ◌∙◌, subst, ⊎_elim, arith}
use Rattle.std.specs.Prelude.{nat_eq, slice_get}
use Rattle.std.specs.Option.{option_eq}
use Rattle.std.proofs.lemmas.Bool.{true≢false, cases_lt, cases_Bool, eqb-true, eq-eqb, not-true}
use Rattle.trace.specs.declared.change.Change.{Change}
use Rattle.trace.specs.Changes.{is_changed, AreChanges, runs_of}
use Rattle.trace.proofs.Runs.{runs_are, runs_cover, runs_pass, runs_filled, runs_apart_all, runs_total}

bytes_same : (x y : Option ℕ) → option_eq nat_eq x y ≡ true → x ≡ y
bytes_same None None e = refl
bytes_same None (Some y) e = absurd (true≢false (sym e))
bytes_same (Some x) None e = absurd (true≢false (sym e))
bytes_same (Some x) (Some y) e = ap (λ (b : ℕ). Some b) (eqb-true x y e)

same_bytes : (x y : Option ℕ) → x ≡ y → option_eq nat_eq x y ≡ true
same_bytes x y e = subst (λ z. option_eq nat_eq x z ≡ true) e (itself x)
  where
    itself : (z : Option ℕ) → option_eq nat_eq z z ≡ true
    itself None = refl
    itself (Some b) = eq-eqb b b refl

changed_differ : (before after : List ℕ) (place : ℕ) → is_changed before after place ≡ true → slice_get before place ≢ slice_get after place
changed_differ before after place changed same =
    true≢false (sym (same_bytes (slice_get before place) (slice_get after place) same)
    ∙ not-true (option_eq nat_eq (slice_get before place) (slice_get after place)) changed)

differ_changed : (before after : List ℕ) (place : ℕ) → slice_get before place ≢ slice_get after place → is_changed before after place ≡ true
differ_changed before after place differ =
    ⊎_elim
    (λ (e : option_eq nat_eq (slice_get before place) (slice_get after place) ≡ true).
    absurd (differ (bytes_same (slice_get before place) (slice_get after place) e)))
    (λ (e : option_eq nat_eq (slice_get before place) (slice_get after place) ≡ false). ap not e)
    (cases_Bool (option_eq nat_eq (slice_get before place) (slice_get after place)))

get_past : (xs : List ℕ) (place : ℕ) → length xs ≤ place → slice_get xs place ≡ None
get_past [] place h = refl
get_past (x ∷ xs) zero h = absurd (omega arith)
get_past (x ∷ xs) (suc place) h = get_past xs place (omega arith)

-- a byte that differs stands before the longer file's end
changed_inside : (before after : List ℕ) (place : ℕ) → slice_get before place ≢ slice_get after place → place < max (length before) (length after)
changed_inside before after place differ =
    ⊎_elim (λ (inside : place < max (length before) (length after)). inside)
    (λ (past : max (length before) (length after) ≤ place).
    absurd (differ (get_past before place (omega arith) ∙ sym (get_past after place (omega arith)))))
    (cases_lt place (max (length before) (length after)))

pub changes_law : (before after : List ℕ) → AreChanges before after (runs_of (is_changed before after) 0 (max (length before) (length after)))
changes_law before after =
    let p = is_changed before after in
    let end : ℕ = max (length before) (length after) in
    let runs = runs_are p 0 end in
    let cs : List Change = runs_of p 0 end in
    record {
      differ = λ place. (
        λ here. changed_differ before after place (runs_pass p 0 (0 + end) cs runs place here),
        λ differ. runs_cover p 0 (0 + end) cs runs place (omega arith) (omega (arith, changed_inside before after place differ)) (differ_changed before after place differ),
      );
      filled = runs_filled p 0 (0 + end) cs runs;
      apart = runs_apart_all p 0 (0 + end) cs runs;
      total = runs_total p 0 end;
    }
