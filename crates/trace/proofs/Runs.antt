-- The runs of places that pass a test.
use Rattle.std.proofs.Common.{◌≡◌, ℕ, zero, suc, ◌+◌, ◌-◌, ◌<◌, ◌≤◌, Bool, true, false, cond, not, eqb, ◌⊎◌, List, [], ◌∷◌, length, Some, None, Option, sym, refl, ap, ◌∙◌, subst, inl, inr, ⊎_elim, arith, le_refl, zero-add}
use Rattle.std.specs.List.{Any, AllPairs, All, find, range_with_len, sum_by, count_by, slice_index_or}
use Rattle.std.specs.Option.{option_map, unwrap_or}
use Rattle.std.proofs.lemmas.Bool.{true≢false, cases_lt, cases_eq, eqb-true, eq-eqb, ne_eqb, cond-true, cond-false, eqb-false, not-true, not-false}
use Rattle.std.proofs.lemmas.List.Sums.{sum_by-cons}
use Rattle.trace.specs.declared.change.Change.{Change}
use Rattle.trace.specs.Changes.{Spans, led_by, runs_of, IsFirstRun}

abbrev pub run_at : ℕ → ℕ → Change
run_at place length = record { place = place; length = length }

-- runs between two places, each as long as it can be: what is passed before the first fails, what it spans passes, and behind it one place
-- fails, or the end comes
pub record First (p : ℕ → Bool) (a b : ℕ) (c : Change) : Type 0 where
  pub low : a ≤ c.place
  pub filled : 0 < c.length
  pub high : c.place + c.length ≤ b
  pub before : (k : ℕ) → a ≤ k → k < c.place → p k ≡ false
  pub spanned : (k : ℕ) → c.place ≤ k → k < c.place + c.length → p k ≡ true
  pub behind : c.place + c.length < b → p (c.place + c.length) ≡ false

abbrev pub Runs : (ℕ → Bool) → ℕ → ℕ → List Change → Type 0
Runs p a b [] = (k : ℕ) → a ≤ k → k < b → p k ≡ false
Runs p a b (c ∷ cs) = First p a b c × Runs p (c.place + c.length) b cs

here_or_later : (a k : ℕ) → a ≤ k → (a ≡ k) ⊎ (a + 1 ≤ k)
here_or_later a k h = ⊎_elim (λ (e : a ≡ k). inl e) (λ (ne : a ≡ k → ⊥). inr (omega arith)) (cases_eq a k)

-- a place that fails, before places that do
fails_past : (p : ℕ → Bool) (a b : ℕ) → p a ≡ false → ((k : ℕ) → a + 1 ≤ k → k < b → p k ≡ false) → (k : ℕ) → a ≤ k → k < b → p k ≡ false
fails_past p a b fails g k low high =
    ⊎_elim (λ (e : a ≡ k). subst (λ x. p x ≡ false) e fails) (λ (l : a + 1 ≤ k). g k l high) (here_or_later a k low)

first_past : (p : ℕ → Bool) (a b : ℕ) (c : Change) → p a ≡ false → First p (a + 1) b c → First p a b c
first_past p a b c fails f =
    record {
      low = omega (arith, f.low);
      filled = f.filled;
      high = f.high;
      before = fails_past p a c.place fails f.before;
      spanned = f.spanned;
      behind = f.behind;
    }

-- a place that fails before runs
runs_past : (p : ℕ → Bool) (a b : ℕ) (cs : List Change) → p a ≡ false → Runs p (a + 1) b cs → Runs p a b cs
runs_past p a b [] fails g = fails_past p a b fails g
runs_past p a b (c ∷ cs) fails g = (first_past p a b c fails g.0, g.1)

-- a place that passes, and runs that do not begin right behind it
runs_apart : (p : ℕ → Bool) (a b : ℕ) (cs : List Change) → p a ≡ true → a < b → (a + 1 < b → p (a + 1) ≡ false) → Runs p (a + 1) b cs → Runs p a b (run_at a 1 ∷ cs)
runs_apart p a b cs passes inside behind g = (
  record {
    low = le_refl a;
    filled = omega arith;
    high = omega arith;
    before = λ k low high. absurd (omega arith);
    spanned = λ k low high. let same : a ≡ k = omega arith in subst (λ x. p x ≡ true) same passes;
    behind = behind;
  },
  g,
)

-- a place that passes, and a run right behind it
runs_joined : (p : ℕ → Bool) (a b : ℕ) (c : Change) (cs : List Change) → p a ≡ true → c.place ≡ a + 1 → Runs p (a + 1) b (c ∷ cs) → Runs p a b (run_at a (c.length + 1) ∷ cs)
runs_joined p a b c cs passes next g =
    let f = g.0 in
    let end : c.place + c.length ≡ a + (c.length + 1) = omega arith in (
      record {
        low = le_refl a;
        filled = omega arith;
        high = omega (arith, f.high);
        before = λ k low high. absurd (omega arith);
        spanned = λ k low high.
            ⊎_elim (λ (e : a ≡ k). subst (λ x. p x ≡ true) e passes) (λ (l : a + 1 ≤ k). f.spanned k (omega arith) (omega arith)) (here_or_later a k low);
        behind = λ h. subst (λ x. p x ≡ false) end (f.behind (omega arith));
      },
      subst (λ x. Runs p x b cs) end g.1,
    )

runs_led : (p : ℕ → Bool) (a b : ℕ) (cs : List Change) → p a ≡ true → a < b → Runs p (a + 1) b cs → Runs p a b (led_by a cs)
runs_led p a b [] passes inside g = runs_apart p a b [] passes inside (λ h. g (a + 1) (le_refl (a + 1)) h) g
runs_led p a b (c ∷ cs) passes inside g = go (eqb c.place (a + 1)) refl
  where
    go : (t : Bool) → eqb c.place (a + 1) ≡ t → Runs p a b (cond t (run_at a (c.length + 1) ∷ cs) (run_at a 1 ∷ c ∷ cs))
    go true e = runs_joined p a b c cs passes (eqb-true c.place (a + 1) e) g
    go false e =
        let apart : c.place ≡ a + 1 → ⊥ = eqb-false c.place (a + 1) e in
        runs_apart p a b (c ∷ cs) passes inside (λ h. g.0.before (a + 1) (le_refl (a + 1)) (omega (arith, g.0.low))) g

-- one more place before runs
runs_more : (p : ℕ → Bool) (a n : ℕ) → Runs p (a + 1) (a + 1 + n) (runs_of p (a + 1) n) → Runs p a (a + suc n) (runs_of p a (suc n))
runs_more p a n g = go (p a) refl
  where
    rest : Runs p (a + 1) (a + suc n) (runs_of p (a + 1) n)
    rest = let end : a + 1 + n ≡ a + suc n = omega arith in subst (λ b. Runs p (a + 1) b (runs_of p (a + 1) n)) end g

    go : (t : Bool) → p a ≡ t → Runs p a (a + suc n) (cond t (led_by a (runs_of p (a + 1) n)) (runs_of p (a + 1) n))
    go true e = runs_led p a (a + suc n) (runs_of p (a + 1) n) e (omega arith) rest
    go false e = runs_past p a (a + suc n) (runs_of p (a + 1) n) e rest

pub runs_are : (p : ℕ → Bool) (a n : ℕ) → Runs p a (a + n) (runs_of p a n)
runs_are p a zero = λ k low high. absurd (omega arith)
runs_are p a (suc n) = runs_more p a n (runs_are p (a + 1) n)

-- runs behind places that fail
pub runs_skip : (p : ℕ → Bool) (a n q : ℕ) → a ≤ q → q ≤ a + n → ((k : ℕ) → a ≤ k → k < q → p k ≡ false)
    → runs_of p a n ≡ runs_of p q (a + n - q)
runs_skip p a zero q low high fails =
    let same : a ≡ q = omega arith in
    let none : 0 ≡ a + 0 - q = omega arith in
    ap (λ m. runs_of p a m) none ∙ ap (λ x. runs_of p x (a + 0 - q)) same
runs_skip p a (suc n) q low high fails =
    ⊎_elim
    (λ (same : a ≡ q).
    let left : suc n ≡ a + suc n - q = omega arith in
    ap (λ m. runs_of p a m) left ∙ ap (λ x. runs_of p x (a + suc n - q)) same)
    (λ (later : a + 1 ≤ q).
    let left : a + 1 + n - q ≡ a + suc n - q = omega arith in
    cond-false (p a) (led_by a (runs_of p (a + 1) n)) (runs_of p (a + 1) n) (fails a (le_refl a) (omega arith))
    ∙ runs_skip p (a + 1) n q later (omega arith) (λ k above below. fails k (omega arith) below)
    ∙ ap (λ m. runs_of p q m) left)
    (here_or_later a q low)

-- a run that begins further behind does not grow
led_apart : (a : ℕ) (cs : List Change) → ((k : ℕ) (d : Change) → k < length cs → a + 2 ≤ (slice_index_or cs k d).place) → led_by a cs ≡ run_at a 1 ∷ cs
led_apart a [] far = refl
led_apart a (c ∷ cs) far =
    let behind : a + 2 ≤ c.place = far 0 c (omega arith) in
    cond-false (eqb c.place (a + 1)) (run_at a (c.length + 1) ∷ cs) (run_at a 1 ∷ c ∷ cs) (ne_eqb c.place (a + 1) (λ e. absurd (omega arith)))

first_low : (p : ℕ → Bool) (a b : ℕ) (cs : List Change) → Runs p a b cs → (k : ℕ) (d : Change) → k < length cs → a ≤ (slice_index_or cs k d).place
first_low p a b [] g k d h = absurd (omega arith)
first_low p a b (c ∷ cs) g zero d h = g.0.low
first_low p a b (c ∷ cs) g (suc k) d h =
    let more : c.place + c.length ≤ (slice_index_or cs k d).place = first_low p (c.place + c.length) b cs g.1 k d (omega arith) in
    omega (arith, g.0.low)

-- a run of places that pass, as long as it can be
pub runs_run : (p : ℕ → Bool) (a n l : ℕ) → l < n → ((k : ℕ) → a ≤ k → k < a + l + 1 → p k ≡ true) → (l + 1 < n → p (a + l + 1) ≡ false)
    → runs_of p a n ≡ run_at a (l + 1) ∷ runs_of p (a + l + 1) (n - l - 1)
runs_run p a zero l h passes fails = absurd (omega arith)
runs_run p a (suc zero) l h passes fails =
    let none : l ≡ 0 = omega arith in
    cond-true (p a) (led_by a []) [] (passes a (le_refl a) (omega arith))
    ∙ ap (λ m. run_at a (m + 1) ∷ runs_of p (a + m + 1) (1 - m - 1)) (sym none)
runs_run p a (suc (suc n)) zero h passes fails =
    let next : a + 0 + 1 ≡ a + 1 = omega arith in
    let one : 1 ≡ 0 + 1 = omega arith in
    let left : suc n ≡ suc (suc n) - 0 - 1 = omega arith in
    let far : a + 1 + 1 ≡ a + 2 = omega arith in
    let stops : p (a + 1) ≡ false = subst (λ x. p x ≡ false) next (fails (omega arith)) in
    let after : runs_of p (a + 1) (suc n) ≡ runs_of p (a + 1 + 1) n =
    cond-false (p (a + 1)) (led_by (a + 1) (runs_of p (a + 1 + 1) n)) (runs_of p (a + 1 + 1) n) stops in
    let low = first_low p (a + 1 + 1) (a + 1 + 1 + n) (runs_of p (a + 1 + 1) n) (runs_are p (a + 1 + 1) n) in
    let alone : led_by a (runs_of p (a + 1 + 1) n) ≡ run_at a 1 ∷ runs_of p (a + 1 + 1) n =
    led_apart a (runs_of p (a + 1 + 1) n) (λ k d inside. let at : a + 1 + 1 ≤ (slice_index_or (runs_of p (a + 1 + 1) n) k d).place = low k d inside in omega arith) in
    cond-true (p a) (led_by a (runs_of p (a + 1) (suc n))) (runs_of p (a + 1) (suc n)) (passes a (le_refl a) (omega arith))
    ∙ ap (led_by a) after ∙ alone ∙ ap (λ cs. run_at a 1 ∷ cs) (sym after)
    ∙ ap (λ x. run_at a 1 ∷ runs_of p x (suc n)) (sym next)
    ∙ ap (λ m. run_at a 1 ∷ runs_of p (a + 0 + 1) m) left ∙ ap (λ m. run_at a m ∷ runs_of p (a + 0 + 1) (suc (suc n) - 0 - 1)) one
runs_run p a (suc (suc n)) (suc l) h passes fails =
    let next : a + 1 + l + 1 ≡ a + suc l + 1 = omega arith in
    let left : suc n - l - 1 ≡ suc (suc n) - suc l - 1 = omega arith in
    let longer : l + 1 + 1 ≡ suc l + 1 = omega arith in
    let rest : runs_of p (a + 1) (suc n) ≡ run_at (a + 1) (l + 1) ∷ runs_of p (a + 1 + l + 1) (suc n - l - 1) =
    runs_run p (a + 1) (suc n) l (omega arith) (λ k low high. passes k (omega arith) (omega arith))
    (λ more. subst (λ x. p x ≡ false) (sym next) (fails (omega arith))) in
    cond-true (p a) (led_by a (runs_of p (a + 1) (suc n))) (runs_of p (a + 1) (suc n)) (passes a (le_refl a) (omega arith))
    ∙ ap (led_by a) rest
    ∙ cond-true (eqb (a + 1) (a + 1)) (run_at a (l + 1 + 1) ∷ runs_of p (a + 1 + l + 1) (suc n - l - 1)) (run_at a 1 ∷ run_at (a + 1) (l + 1) ∷ runs_of p (a + 1 + l + 1) (suc n - l - 1)) (eq-eqb (a + 1) (a + 1) refl)
    ∙ ap (λ m. run_at a m ∷ runs_of p (a + 1 + l + 1) (suc n - l - 1)) longer
    ∙ ap (λ x. run_at a (suc l + 1) ∷ runs_of p x (suc n - l - 1)) next
    ∙ ap (λ m. run_at a (suc l + 1) ∷ runs_of p (a + suc l + 1) m) left

-- how many places runs span
abbrev pub spanned_count : List Change → ℕ
spanned_count cs = sum_by (λ (c : Change). c.length) cs

led_total : (a : ℕ) (cs : List Change) → spanned_count (led_by a cs) ≡ 1 + spanned_count cs
led_total a [] = refl
led_total a (c ∷ cs) = go (eqb c.place (a + 1))
  where
    go : (t : Bool) → spanned_count (cond t (run_at a (c.length + 1) ∷ cs) (run_at a 1 ∷ c ∷ cs)) ≡ 1 + spanned_count (c ∷ cs)
    go true =
        let l = sum_by-cons (λ (x : Change). x.length) (run_at a (c.length + 1)) cs in
        let r = sum_by-cons (λ (x : Change). x.length) c cs in
        omega arith
    go false = sum_by-cons (λ (x : Change). x.length) (run_at a 1) (c ∷ cs)

total_more : (p : ℕ → Bool) (a n : ℕ) → spanned_count (runs_of p (a + 1) n) ≡ count_by p (range_with_len (a + 1) n)
    → spanned_count (runs_of p a (suc n)) ≡ count_by p (range_with_len a (suc n))
total_more p a n same = go (p a) refl
  where
    counted : count_by p (range_with_len a (suc n)) ≡ cond (p a) 1 0 + count_by p (range_with_len (a + 1) n)
    counted = sum_by-cons (λ x. cond (p x) 1 0) a (range_with_len (a + 1) n)

    go : (t : Bool) → p a ≡ t → spanned_count (cond t (led_by a (runs_of p (a + 1) n)) (runs_of p (a + 1) n)) ≡ count_by p (range_with_len a (suc n))
    go true e = led_total a (runs_of p (a + 1) n) ∙ ap (λ m. 1 + m) same ∙ ap (λ t. cond t 1 0 + count_by p (range_with_len (a + 1) n)) (sym e) ∙ sym counted
    go false e = same ∙ sym (zero-add (count_by p (range_with_len (a + 1) n))) ∙ ap (λ t. cond t 1 0 + count_by p (range_with_len (a + 1) n)) (sym e) ∙ sym counted

-- their places pass
pub runs_total : (p : ℕ → Bool) (a n : ℕ) → spanned_count (runs_of p a n) ≡ count_by p (range_with_len a n)
runs_total p a zero = refl
runs_total p a (suc n) = total_more p a n (runs_total p (a + 1) n)

-- a place that passes lies in one of the runs
pub runs_cover : (p : ℕ → Bool) (a b : ℕ) (cs : List Change) → Runs p a b cs → (k : ℕ) → a ≤ k → k < b → p k ≡ true → Any (λ c. Spans c k) cs
runs_cover p a b [] g k low high passes = absurd (true≢false (sym passes ∙ g k low high))
runs_cover p a b (c ∷ cs) g k low high passes =
    ⊎_elim
    (λ (before : k < c.place). absurd (true≢false (sym passes ∙ g.0.before k low before)))
    (λ (from : c.place ≤ k).
    ⊎_elim
    (λ (in_it : k < c.place + c.length). (0, c, omega arith, refl, (from, in_it)))
    (λ (past : c.place + c.length ≤ k).
    let later = runs_cover p (c.place + c.length) b cs g.1 k past high passes in
    (suc later.0, later.1, omega (arith, later.2), later.3, later.4))
    (cases_lt k (c.place + c.length)))
    (cases_lt k c.place)

-- a place in one of the runs passes
pub runs_pass : (p : ℕ → Bool) (a b : ℕ) (cs : List Change) → Runs p a b cs → (k : ℕ) → Any (λ c. Spans c k) cs → p k ≡ true
runs_pass p a b [] g k (zero, c, h, e, s) = absurd (omega (arith, h))
runs_pass p a b [] g k (suc i, c, h, e, s) = absurd (omega (arith, h))
runs_pass p a b (d ∷ cs) g k (zero, c, h, e, s) =
    g.0.spanned k (subst (λ (x : Change). x.place ≤ k) (sym e) s.0) (subst (λ (x : Change). k < x.place + x.length) (sym e) s.1)
runs_pass p a b (d ∷ cs) g k (suc i, c, h, e, s) = runs_pass p (d.place + d.length) b cs g.1 k (i, c, omega (arith, h), e, s)

-- none is empty
pub runs_filled : (p : ℕ → Bool) (a b : ℕ) (cs : List Change) → Runs p a b cs → All (λ c. 0 < c.length) cs
runs_filled p a b [] g = λ k d h. absurd (omega arith)
runs_filled p a b (c ∷ cs) g = λ k. filled_at k (runs_filled p (c.place + c.length) b cs g.1)
  where
    filled_at : (k : ℕ) → All (λ (x : Change). 0 < x.length) cs → (d : Change) → k < length (c ∷ cs) → 0 < (slice_index_or (c ∷ cs) k d).length
    filled_at zero rest d h = g.0.filled
    filled_at (suc k) rest d h = rest k d (omega arith)

-- between two of them lies a place that is in none
pub runs_apart_all : (p : ℕ → Bool) (a b : ℕ) (cs : List Change) → Runs p a b cs → AllPairs (λ c d. c.place + c.length < d.place) cs
runs_apart_all p a b [] g = λ i j d h k. absurd (omega arith)
runs_apart_all p a b (c ∷ cs) g = λ i j. apart_at i j (runs_apart_all p (c.place + c.length) b cs g.1)
  where
    -- the first run behind the run c begins past its end
    later : (ds : List Change) → Runs p (c.place + c.length) b ds → (j : ℕ) (d : Change) → j < length ds → c.place + c.length < (slice_index_or ds j d).place
    later [] r j d h = absurd (omega arith)
    later (e ∷ ds) r zero d h =
        let low : c.place + c.length ≤ e.place = r.0.low in
        ⊎_elim (λ (same : c.place + c.length ≡ e.place). absurd (true≢false (sym (r.0.spanned e.place (le_refl e.place) (omega (arith, r.0.filled))) ∙ subst (λ x. p x ≡ false) same (g.0.behind (omega (arith, r.0.filled, r.0.high))))))
        (λ (past : c.place + c.length + 1 ≤ e.place). omega arith) (here_or_later (c.place + c.length) e.place low)
    later (e ∷ ds) r (suc j) d h =
        let far : e.place + e.length ≤ (slice_index_or ds j d).place = first_low p (e.place + e.length) b ds r.1 j d (omega arith) in
        omega (arith, r.0.low, r.0.filled)

    apart_at : (i j : ℕ) → AllPairs (λ (x y : Change). x.place + x.length < y.place) cs → (d : Change) → i < j → j < length (c ∷ cs)
        → (slice_index_or (c ∷ cs) i d).place + (slice_index_or (c ∷ cs) i d).length < (slice_index_or (c ∷ cs) j d).place
    apart_at i zero rest d h k = absurd (omega arith)
    apart_at zero (suc j) rest d h k = later cs g.1 j d (omega arith)
    apart_at (suc i) (suc j) rest d h k = rest i j d (omega arith) (omega arith)

-- what `find` gives over places that count up: the first that passes, or none does
abbrev pub Found : (ℕ → Bool) → ℕ → ℕ → Option ℕ → Type 0
Found p a b None = (k : ℕ) → a ≤ k → k < b → p k ≡ false
Found p a b (Some q) = (a ≤ q) × (q < b) × (p q ≡ true) × ((k : ℕ) → a ≤ k → k < q → p k ≡ false)

found_past : (p : ℕ → Bool) (a b : ℕ) (r : Option ℕ) → p a ≡ false → Found p (a + 1) b r → Found p a b r
found_past p a b None fails f = fails_past p a b fails f
found_past p a b (Some q) fails f = (omega (arith, f.0), f.1, f.2, fails_past p a q fails f.3)

found_more : (p : ℕ → Bool) (a n : ℕ) → Found p (a + 1) (a + 1 + n) (find p (range_with_len (a + 1) n)) → Found p a (a + suc n) (find p (range_with_len a (suc n)))
found_more p a n f = go (p a) refl
  where
    end : a + 1 + n ≡ a + suc n
    end = omega arith

    go : (t : Bool) → p a ≡ t → Found p a (a + suc n) (cond t (Some a) (find p (range_with_len (a + 1) n)))
    go true e = (le_refl a, omega arith, e, λ k low high. absurd (omega arith))
    go false e = found_past p a (a + suc n) (find p (range_with_len (a + 1) n)) e (subst (λ b. Found p (a + 1) b (find p (range_with_len (a + 1) n))) end f)

found_in : (p : ℕ → Bool) (a n : ℕ) → Found p a (a + n) (find p (range_with_len a n))
found_in p a zero = λ k low high. absurd (omega arith)
found_in p a (suc n) = found_more p a n (found_in p (a + 1) n)

option_same : (r : Option ℕ) → option_map (λ x. x) r ≡ r
option_same None = refl
option_same (Some x) = refl

pub found : (p : ℕ → Bool) (a n : ℕ) (r : Option ℕ) → option_map (λ x. x) r ≡ find p (range_with_len a n) → Found p a (a + n) r
found p a n r e = subst (Found p a (a + n)) (sym e ∙ option_same r) (found_in p a n)

-- no place passes, so no run is left
pub none_left : (p : ℕ → Bool) (a n : ℕ) → Found p a (a + n) None → runs_of p a n ≡ []
none_left p a n f = runs_skip p a n (a + n) (omega arith) (le_refl (a + n)) f ∙ (let none : a + n - (a + n) ≡ 0 = omega arith in ap (λ m. runs_of p (a + n) m) none)

-- a place that passes, and the first behind it that fails, or the end
pub record Run (p : ℕ → Bool) (a b q e : ℕ) : Type 0 where
  pub begin : a ≤ q
  pub filled : q < e
  pub end : e ≤ b
  pub before : (k : ℕ) → a ≤ k → k < q → p k ≡ false
  pub spanned : (k : ℕ) → q ≤ k → k < e → p k ≡ true
  pub behind : e < b → p e ≡ false

pub run_found : (p : ℕ → Bool) (a b q e : ℕ) (r : Option ℕ) → Found p a (a + (b - a)) (Some q)
    → Found (λ k. not (p k)) q (q + (b - q)) r → e ≡ unwrap_or r b → Run p a b q e
run_found p a b q e None f g same =
    record {
      begin = f.0;
      filled = omega (arith, f.1);
      end = omega arith;
      before = f.3;
      spanned = λ k low high. not-false (p k) (g k low (omega arith));
      behind = λ h. absurd (omega arith);
    }
run_found p a b q e (Some x) f g same =
    record {
      begin = f.0;
      filled =
          ⊎_elim (λ (at : q ≡ x). absurd (true≢false (sym f.2 ∙ ap p at ∙ not-true (p x) g.2))) (λ (past : q + 1 ≤ x). omega arith) (here_or_later q x g.0);
      end = omega (arith, g.1);
      before = f.3;
      spanned = λ k low high. not-false (p k) (g.3 k low (omega arith));
      behind = λ h. subst (λ y. p y ≡ false) (sym same) (not-true (p x) g.2);
    }

-- so the first run left is that one
run_first : (p : ℕ → Bool) (a b q e : ℕ) → Run p a b q e → runs_of p a (b - a) ≡ run_at q (e - q) ∷ runs_of p e (b - e)
run_first p a b q e r =
    let begin : a ≤ q = r.begin in
    let filled : q < e = r.filled in
    let inside : e ≤ b = r.end in
    let left : a + (b - a) - q ≡ b - q = omega arith in
    let length : e - q - 1 + 1 ≡ e - q = omega arith in
    let end : q + (e - q - 1) + 1 ≡ e = omega arith in
    let rest : b - q - (e - q - 1) - 1 ≡ b - e = omega arith in
    runs_skip p a (b - a) q begin (omega arith) r.before
    ∙ ap (λ m. runs_of p q m) left
    ∙ runs_run p q (b - q) (e - q - 1) (omega arith) (λ k low high. r.spanned k low (omega arith))
    (λ more. subst (λ x. p x ≡ false) (sym end) (r.behind (omega arith)))
    ∙ ap (λ l. run_at q l ∷ runs_of p (q + (e - q - 1) + 1) (b - q - (e - q - 1) - 1)) length
    ∙ ap (λ x. run_at q (e - q) ∷ runs_of p x (b - q - (e - q - 1) - 1)) end
    ∙ ap (λ m. run_at q (e - q) ∷ runs_of p e m) rest

pub first_run : (p : ℕ → Bool) (a b q e : ℕ) → Run p a b q e → IsFirstRun p a b (Some (run_at q (e - q)))
first_run p a b q e r =
    let filled : q < e = r.filled in
    let end : e ≡ q + (e - q) = omega arith in (
      omega (arith, r.end),
      run_first p a b q e r ∙ ap (λ x. run_at q (e - q) ∷ runs_of p x (b - x)) end,
    )
