-- A table that is written from its front.
use Rattle.std.proofs.Common.{◌≡◌, ℕ, ◌+◌, ◌-◌, ◌<◌, ◌≤◌, cond, ltb, List, ◌++◌, length, drop, replicate, get_or, set, sym, ap, ◌∙◌, ⊎_elim, arith, get_or-set_other, get_or-set_same}
use Rattle.std.proofs.lemmas.Bool.{cases_lt, lt-ltb, le-ltb, cond-true, cond-false}
use Rattle.std.proofs.lemmas.List.{get_or_append_left, get_or-append_right, get_or-drop, get_or-replicate}

-- where the first k entries are f's, so are the first k + 1 once f's next is written
pub one_more : {X : Type 0} (f : ℕ → X) (empty x : X) (t : List X) (k : ℕ) → k < length t → x ≡ f k
    → ((j : ℕ) → j < k → get_or t j empty ≡ f j)
    → (j : ℕ) → j < k + 1 → get_or (set t k x) j empty ≡ f j
one_more f empty x t k lt e inv j h =
    ⊎_elim
    (λ (s : j < k). get_or-set_other t k j x empty (omega arith) ∙ inv j s)
    (λ (s : k ≤ j).
    let same : j ≡ k = omega arith in
    ap (λ i. get_or (set t k x) i empty) same ∙ get_or-set_same t k x empty lt ∙ e ∙ ap f (sym same))
    (cases_lt j k)

-- a table of n entries whose first are f's, and whose rest is as it was at first
pub written : {X : Type 0} (f : ℕ → X) (empty d : X) (n count : ℕ) (t : List X) → d ≡ empty → length t ≡ count
    → ((j : ℕ) → j < count → get_or t j empty ≡ f j)
    → (k : ℕ) → k < n → get_or (t ++ drop count (replicate n d)) k empty ≡ cond (ltb k count) (f k) empty
written f empty d n count t e long inv k h =
    ⊎_elim
    (λ (s : k < count).
    get_or_append_left t (drop count (replicate n d)) empty k (omega arith) ∙ inv k s ∙ sym (cond-true (ltb k count) (f k) empty (lt-ltb k count s)))
    (λ (s : count ≤ k).
    let at : count + (k - count) ≡ k = omega arith in
    get_or-append_right t (drop count (replicate n d)) count k empty long s
    ∙ get_or-drop count (replicate n d) (k - count) empty
    ∙ ap (λ i. get_or (replicate n d) i empty) at
    ∙ get_or-replicate n k d empty h ∙ e
    ∙ sym (cond-false (ltb k count) (f k) empty (le-ltb k count s)))
    (cases_lt k count)
