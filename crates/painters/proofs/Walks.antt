-- What `find_map` over numbers that count down has found: nothing at any of them, or its result at one and nothing at those above.
use Rattle.std.proofs.Common.{◌≡◌, ℕ, ◌+◌, ◌-◌, ◌<◌, ◌≤◌, Some, None, Option, sym, ◌∙◌, subst, arith}
use Rattle.std.specs.Bool.{IsTrue}
use Rattle.std.specs.Option.{option_map, MatchOption, IfSome, IsSomeAnd}
use Rattle.std.specs.Iterator.Runs.{Run, Trigger, SomeRun, ItemsCountDown, CallKeepsClosure, AllItemsGive, IsFirstToGive}
use Rattle.std.specs.Iterator.Adapters.{rev_steps, RevKeepsRuns}
use Rattle.std.specs.declared.ops.Range.{Range}
use Rattle.std.specs.declared.iter.Rev.{Rev}
use Rattle.std.proofs.iter.runs.Sources.{nat_range_steps_back, range_runs_back}
use denote.Param.Members.{Mut, Called}

at_item : (P : ℕ → Type 0) (o : Option ℕ) (m : ℕ) → option_map (λ y. y) o ≡ Some m → IfSome o P → P m
at_item P None m e h = absurd (cc)
at_item P (Some x) m e h = let same : x ≡ m = cc in subst P same h

at_first : (P : ℕ → Type 0) (o : Option ℕ) (m : ℕ) → option_map (λ y. y) o ≡ Some m → IsSomeAnd o P → P m
at_first P None m e h = absurd h
at_first P (Some x) m e h = let same : x ≡ m = cc in subst P same h

-- a run of a range that is read from its end
counted : (p : Run nat_range_steps_back) (n : ℕ) → p.from ≡ record { start = 0; end = n } → ItemsCountDown p 0 n
counted p n e = subst (λ (r : Range ℕ). ItemsCountDown p r.start r.end) e (range_runs_back p p.seen)

-- the same read by `rev`
pub counted_rev : (r : Rev (Range ℕ)) (n : ℕ) → RevKeepsRuns nat_range_steps_back (record { start = 0; end = n }) r
    → (p : Run (rev_steps nat_range_steps_back)) → Trigger p.len → p.from ≡ r → ItemsCountDown p 0 n
counted_rev r n keeps p t e =
    let q = keeps p t e in
    let down = counted q.0 n q.1 in (
      omega (arith, q.2, down.0),
      λ w. sym q.2.0.0 ∙ down.1 (q.2.1 ∙ w),
      λ k. subst (λ o. IfSome o (λ x. (x + k + 1 ≡ n) × (0 ≤ x))) (q.2.0.2 k) (down.2 k),
      λ k h. subst (λ o. option_map (λ y. y) o ≡ Some (n - 1 - k)) (q.2.0.2 k) (down.3 k (omega (arith, q.2.0.0))),
    )

module _ {S F B : Type 0} {steps : S → Option ℕ → S → Type 0} {g : Mut F (ℕ × Unit {0}) (Option B)} (s : S) (f : F) (n : ℕ) (at : ℕ → Option B) where
  pub found_below : (r : Option B) → CallKeepsClosure g f → ((k : ℕ) (o : Option B) → k < n → Called g f (k, tt) o f → at k ≡ o)
      → ((p : Run steps) → Trigger p.len → p.from ≡ s → ItemsCountDown p 0 n)
      → SomeRun steps s (λ p. MatchOption r (IsTrue p.whole × AllItemsGive p g f None) (λ y. (i : ℕ) × (i < p.len) × (p.len ≡ i + 1) × IsFirstToGive p g f (Some y) None i))
      → MatchOption r ((k : ℕ) → k < n → at k ≡ None) (λ y. (i : ℕ) × (i < n) × (at i ≡ Some y) × ((k : ℕ) → i < k → k < n → at k ≡ None))
  found_below None keeps gives counts (p, from, ends) =
      let down = counts p p.seen from in
      λ k h.
      let len : p.len ≡ n - 0 = down.1 ends.0 in
      let here : n - 1 - (n - 1 - k) ≡ k = omega arith in
      gives k None h
      (subst (λ x. Called g f (x, tt) None f) here (at_item (λ x. Called g f (x, tt) None f) (p.at (n - 1 - k)) (n - 1 - (n - 1 - k)) (down.3 (n - 1 - k) (omega arith)) (ends.1 keeps (n - 1 - k))))
  found_below (Some y) keeps gives counts (p, from, ends) =
      let down = counts p p.seen from in
      let most : p.len ≤ n - 0 = down.0 in
      let i = ends.0 in
      let last : i < n = omega (arith, ends.1, most) in
      let got = ends.3 keeps in (
        n - 1 - i,
        omega arith,
        gives (n - 1 - i) (Some y) (omega arith) (at_first (λ x. Called g f (x, tt) (Some y) f) (p.at i) (n - 1 - i) (down.3 i ends.1) got.0),
        λ k low high.
            let here : n - 1 - (n - 1 - k) ≡ k = omega arith in
            gives k None high
            (subst (λ x. Called g f (x, tt) None f) here (at_first (λ x. Called g f (x, tt) None f) (p.at (n - 1 - k)) (n - 1 - (n - 1 - k)) (down.3 (n - 1 - k) (omega (arith, ends.1))) (got.1 (n - 1 - k) (omega arith)))),
      )
