-- The first of a list that passes a test, found place by place.
use Rattle.std.proofs.Common.{◌≡◌, ℕ, zero, suc, ◌<◌, Some, Bool, true, false, cond, not, List, [], ◌∷◌, ◌++◌, length, get_or, take, drop, refl, ap, arith, ◌||◌}
use Rattle.std.specs.List.{list_any, find}
use Rattle.std.specs.Option.{unwrap_or}
use Rattle.std.proofs.lemmas.List.Elements.{All-nil}
use Rattle.std.proofs.lemmas.Bool.{true≢false}
use Rattle.loans.specs.Lists.{less_all}
use Rattle.loans.proofs.Listed.{None, none_cons, less_all_none}

module _ {A : Type 0} (p : A → Bool) where
  pub some_append : (xs ys : List A) → list_any p (xs ++ ys) ≡ cond (list_any p xs) true (list_any p ys)
  some_append [] ys = refl
  some_append (x ∷ xs) ys =
      elim (p x) as (λ b. (b || list_any p (xs ++ ys)) ≡ cond (b || list_any p xs) true (list_any p ys)) [ true ↦ refl | false ↦ some_append xs ys ]

  -- what is found at a place, with none before it, is the first
  pub first_at : (d e : A) (xs : List A) (k : ℕ) → k < length xs → list_any p (take k xs) ≡ false → p (get_or xs k e) ≡ true
      → (unwrap_or (find p xs) d ≡ get_or xs k e) × (list_any p xs ≡ true)
  first_at d e [] k h n y = absurd (omega arith)
  first_at d e (x ∷ xs) zero h n y = rw y (refl, refl)
  first_at d e (x ∷ xs) (suc k) h n y = go (p x) n (first_at d e xs k (omega arith))
    where
      go : (b : Bool) → (b || list_any p (take k xs)) ≡ false
          → (list_any p (take k xs) ≡ false → p (get_or xs k e) ≡ true → (unwrap_or (find p xs) d ≡ get_or xs k e) × (list_any p xs ≡ true))
          → (unwrap_or (cond b (Some x) (find p xs)) d ≡ get_or xs k e) × ((b || list_any p xs) ≡ true)
      go true n' later = absurd (true≢false n')
      go false n' later = later n' y

  pub first_none : (d : A) (xs : List A) → list_any p xs ≡ false → unwrap_or (find p xs) d ≡ d
  first_none d [] n = refl
  first_none d (x ∷ xs) n = go (p x) n (first_none d xs)
    where
      go : (b : Bool) → (b || list_any p xs) ≡ false → (list_any p xs ≡ false → unwrap_or (find p xs) d ≡ d) → unwrap_or (cond b (Some x) (find p xs)) d ≡ d
      go true n' later = absurd (true≢false n')
      go false n' later = later n'

  pub none_all : (xs : List A) → list_any p xs ≡ false → None p xs
  none_all [] n = All-nil (λ x. p x ≡ false)
  none_all (x ∷ xs) n = go (p x) refl n (none_all xs)
    where
      go : (b : Bool) → p x ≡ b → (b || list_any p xs) ≡ false → (list_any p xs ≡ false → None p xs) → None p (x ∷ xs)
      go true e n' later = absurd (true≢false n')
      go false e n' later = none_cons p x xs e (later n')

  -- without the one at a place, where none before it and none behind it passes
  pub less_at : (e : A) (xs : List A) (k : ℕ) → k < length xs → list_any p (take k xs) ≡ false → p (get_or xs k e) ≡ true → list_any p (drop (suc k) xs) ≡ false
      → less_all p xs ≡ take k xs ++ drop (suc k) xs
  less_at e [] k h n y m = absurd (omega arith)
  less_at e (x ∷ xs) zero h n y m = rw y (less_all_none p xs (none_all xs m))
  less_at e (x ∷ xs) (suc k) h n y m = go (p x) n (less_at e xs k (omega arith))
    where
      go : (b : Bool) → (b || list_any p (take k xs)) ≡ false
          → (list_any p (take k xs) ≡ false → p (get_or xs k e) ≡ true → list_any p (drop (suc k) xs) ≡ false → less_all p xs ≡ take k xs ++ drop (suc k) xs)
          → cond (not b) (x ∷ less_all p xs) (less_all p xs) ≡ x ∷ take k xs ++ drop (suc k) xs
      go true n' later = absurd (true≢false n')
      go false n' later = ap (λ (v : List A). x ∷ v) (later n' y m)
