-- Lists, tests and members.
use Rattle.std.proofs.Common.{◌≡◌, ℕ, zero, suc, ◌<◌, Some, Bool, true, false, cond, not, ◌&&◌, ◌⊎◌, List, [], ◌∷◌, ◌++◌, map, reverse, length, get_or, filter, arith, sym, refl, ap, ◌∙◌, inl, inr, append-nil, ◌||◌}
use mathlib.Core.List.{reverse-cons}
use Rattle.std.specs.List.{list_any, All, Contains, find}
use Rattle.std.specs.Option.{unwrap_or}
use Rattle.std.proofs.lemmas.List.Elements.{All-nil, All-cons, All-head, All-tail, All-push, filter-append}
use Rattle.std.proofs.lemmas.Bool.{false≢true}
use Rattle.loans.specs.Lists.{less_first, less_all}

module _ {A : Type 0} where
  -- a is one of a list
  abbrev pub Among : List A → A → Type 0
  Among [] a = ⊥
  Among (x ∷ xs) a = (a ≡ x) ⊎ Among xs a

  pub among_from : (xs : List A) (a : A) → Contains xs a → Among xs a
  among_from xs a c = at xs c.0 c.1 c.2
    where
      at : (ys : List A) (k : ℕ) → k < length ys → get_or ys k a ≡ a → Among ys a
      at [] k h e = absurd (omega arith)
      at (y ∷ ys) zero h e = inl (sym e)
      at (y ∷ ys) (suc k) h e = inr (at ys k (omega arith) e)

  pub all_right : (P : A → Type 0) (xs ys : List A) → All P (xs ++ ys) → All P ys
  all_right P [] ys h = h
  all_right P (x ∷ xs) ys h = all_right P xs ys (All-tail P _ _ h)

  -- all but one in the middle
  pub all_without : (P : A → Type 0) (xs : List A) (k : A) (ys : List A) → All P (xs ++ k ∷ ys) → All P (xs ++ ys)
  all_without P [] k ys h = All-tail P _ _ h
  all_without P (x ∷ xs) k ys h = All-cons P _ _ (All-head P _ _ h) (all_without P xs k ys (All-tail P _ _ h))

  pub all_both : (P Q R : A → Type 0) → ((x : A) → P x → Q x → R x) → (xs : List A) → All P xs → All Q xs → All R xs
  all_both P Q R f xs h k = λ i d inside. f (get_or xs i d) (h i d inside) (k i d inside)

  pub all_of : (P : A → Type 0) → ((x : A) → P x) → (xs : List A) → All P xs
  all_of P f xs = λ i d inside. f (get_or xs i d)

  pub all_among : (P : A → Type 0) (xs : List A) (a : A) → All P xs → Among xs a → P a
  all_among P [] a h m = absurd m
  all_among P (x ∷ xs) a h (inl e) = rw e (All-head P _ _ h)
  all_among P (x ∷ xs) a h (inr m) = all_among P xs a (All-tail P _ _ h) m

  module _ (p : A → Bool) where
    abbrev pub None : List A → Type 0
    None xs = All (λ x. p x ≡ false) xs

    pub none_head : (x : A) (xs : List A) → None (x ∷ xs) → p x ≡ false
    none_head x xs h = h 0 x (omega arith)

    pub none_tail : (x : A) (xs : List A) → None (x ∷ xs) → None xs
    none_tail x xs h = All-tail (λ y. p y ≡ false) x xs h

    pub none_cons : (x : A) (xs : List A) → p x ≡ false → None xs → None (x ∷ xs)
    none_cons x xs e h = All-cons (λ y. p y ≡ false) x xs e h

    pub less_all_none : (xs : List A) → None xs → less_all p xs ≡ xs
    less_all_none [] h = refl
    less_all_none (x ∷ xs) h = rw (none_head x xs h) (ap (λ ys. x ∷ ys) (less_all_none xs (none_tail x xs h)))

    pub none_less_all : (xs : List A) → None (less_all p xs)
    none_less_all [] = All-nil (λ x. p x ≡ false)
    none_less_all (x ∷ xs) = go (p x) refl (none_less_all xs)
      where
        go : (b : Bool) → p x ≡ b → None (less_all p xs) → None (cond (not b) (x ∷ less_all p xs) (less_all p xs))
        go true e h = h
        go false e h = none_cons x (less_all p xs) e h

    pub some_of_none : (xs : List A) → None xs → list_any p xs ≡ false
    some_of_none [] h = refl
    some_of_none (x ∷ xs) h = rw (none_head x xs h) (some_of_none xs (none_tail x xs h))

    pub some_of_mid : (xs : List A) (k : A) (ys : List A) → p k ≡ true → list_any p (xs ++ k ∷ ys) ≡ true
    some_of_mid [] k ys e = rw e
    some_of_mid (x ∷ xs) k ys e = elim (p x) as (λ b. (b || list_any p (xs ++ k ∷ ys)) ≡ true) [ true ↦ refl | false ↦ some_of_mid xs k ys e ]

    pub first_among : (d : A) (xs : List A) → list_any p xs ≡ true → Among xs (unwrap_or (find p xs) d) × (p (unwrap_or (find p xs) d) ≡ true)
    first_among d [] h = absurd (false≢true h)
    first_among d (x ∷ xs) h = go (p x) refl h (first_among d xs)
      where
        Found : List A → A → Type 0
        Found ys y = Among ys y × (p y ≡ true)

        go : (b : Bool) → p x ≡ b → (b || list_any p xs) ≡ true → (list_any p xs ≡ true → Found xs (unwrap_or (find p xs) d)) → Found (x ∷ xs) (unwrap_or (cond b (Some x) (find p xs)) d)
        go true e h' later = (inl refl, e)
        go false e h' later = let r = later h' in (inr r.0, r.1)

    pub among_filter : (xs : List A) (a : A) → Among (filter p xs) a → Among xs a × (p a ≡ true)
    among_filter [] a m = absurd m
    among_filter (x ∷ xs) a m = go (p x) refl m (λ m'. let r = among_filter xs a m' in (inr r.0, r.1))
      where
        go : (b : Bool) → p x ≡ b → Among (cond b (x ∷ filter p xs) (filter p xs)) a → (Among (filter p xs) a → Among (x ∷ xs) a × (p a ≡ true)) → Among (x ∷ xs) a × (p a ≡ true)
        go true e (inl q) later = (inl q, rw q e)
        go true e (inr m') later = later m'
        go false e m' later = later m'

    pub filter_reverse : (xs : List A) → filter p (reverse xs) ≡ reverse (filter p xs)
    filter_reverse [] = refl
    filter_reverse (x ∷ xs) =
        rw (reverse-cons x xs, filter-append p (reverse xs) (x ∷ []), filter_reverse xs)
        (elim (p x) as (λ b. reverse (filter p xs) ++ cond b (x ∷ []) [] ≡ reverse (cond b (x ∷ filter p xs) (filter p xs))) [ true ↦ sym (reverse-cons x (filter p xs)) | false ↦ append-nil (reverse (filter p xs)) ])

    pub all_less_first : (P : A → Type 0) (xs : List A) → All P xs → All P (less_first p xs)
    all_less_first P [] h = All-nil P
    all_less_first P (x ∷ xs) h = elim (p x) as (λ b. All P (cond b xs (x ∷ less_first p xs))) [ true ↦ All-tail P x xs h | false ↦ All-cons P x (less_first p xs) (All-head P x xs h) (all_less_first P xs (All-tail P x xs h)) ]

    pub less_all_first : (xs : List A) → less_all p xs ≡ less_all p (less_first p xs)
    less_all_first [] = refl
    less_all_first (x ∷ xs) = go (p x) refl (less_all_first xs)
      where
        go : (b : Bool) → p x ≡ b → less_all p xs ≡ less_all p (less_first p xs) → cond (not b) (x ∷ less_all p xs) (less_all p xs) ≡ less_all p (cond b xs (x ∷ less_first p xs))
        go true e r = refl
        go false e r = rw e (ap (λ ys. x ∷ ys) r)

    less_first_mid : (xs : List A) (k : A) (ys : List A) → None xs → p k ≡ true → less_first p (xs ++ k ∷ ys) ≡ xs ++ ys
    less_first_mid [] k ys h e = rw e
    less_first_mid (x ∷ xs) k ys h e = rw (none_head x xs h) (ap (λ zs. x ∷ zs) (less_first_mid xs k ys (none_tail x xs h) e))

    -- a list that has one that passes, taken apart at the first
    pub record Split (xs : List A) : Type 0 where
      pub front : List A
      pub at : A
      pub back : List A
      pub is : xs ≡ front ++ at ∷ back
      pub passes : p at ≡ true
      pub none : None front

    pub split_less : (xs : List A) (s : Split xs) → less_first p xs ≡ s.front ++ s.back
    split_less xs s = ap (less_first p) s.is ∙ less_first_mid s.front s.at s.back s.none s.passes

    pub split : (xs : List A) → Split xs ⊎ None xs
    split [] = inr (All-nil (λ x. p x ≡ false))
    split (x ∷ xs) = go (p x) refl (split xs)
      where
        go : (b : Bool) → p x ≡ b → Split xs ⊎ None xs → Split (x ∷ xs) ⊎ None (x ∷ xs)
        go true e s = inl (record { front = []; at = x; back = xs; is = refl; passes = e; none = All-nil (λ y. p y ≡ false) })
        go false e (inl s) = inl (record { front = x ∷ s.front; at = s.at; back = s.back; is = ap (λ ys. x ∷ ys) s.is; passes = s.passes; none = none_cons x s.front e s.none })
        go false e (inr n) = inr (none_cons x xs e n)

  pub filter_same_on : (p q : A → Bool) (xs : List A) → All (λ x. p x ≡ q x) xs → filter p xs ≡ filter q xs
  filter_same_on p q [] h = refl
  filter_same_on p q (x ∷ xs) h =
      let first : p x ≡ q x = h 0 x (omega arith) in
      rw (first, filter_same_on p q xs (All-tail (λ y. p y ≡ q y) x xs h))

  pub filter_twice : (p q : A → Bool) (xs : List A) → filter p (filter q xs) ≡ filter (λ x. q x && p x) xs
  filter_twice p q [] = refl
  filter_twice p q (x ∷ xs) = elim (q x) as (λ b. filter p (cond b (x ∷ filter q xs) (filter q xs)) ≡ cond (b && p x) (x ∷ filter (λ y. q y && p y) xs) (filter (λ y. q y && p y) xs)) [ true ↦ rw (filter_twice p q xs) | false ↦ filter_twice p q xs ]

  pub filter_of_map : {B : Type 0} (f : A → B) (p : B → Bool) (xs : List A) → filter p (map f xs) ≡ map f (filter (λ x. p (f x)) xs)
  filter_of_map f p [] = refl
  filter_of_map f p (x ∷ xs) = elim (p (f x)) as (λ b. cond b (f x ∷ filter p (map f xs)) (filter p (map f xs)) ≡ map f (cond b (x ∷ filter (λ y. p (f y)) xs) (filter (λ y. p (f y)) xs))) [ true ↦ ap (λ ys. f x ∷ ys) (filter_of_map f p xs) | false ↦ filter_of_map f p xs ]

pub all_reverse : {A : Type 0} (P : A → Type 0) (xs : List A) → All P xs → All P (reverse xs)
all_reverse P [] h = All-nil P
all_reverse P (x ∷ xs) h =
    rw (reverse-cons x xs) (All-push P (reverse xs) x (all_reverse P xs (All-tail P x xs h)) (All-head P x xs h))

pub some_of_map : {A B : Type 0} (f : A → B) (p : B → Bool) (xs : List A) → list_any p (map f xs) ≡ list_any (λ x. p (f x)) xs
some_of_map f p [] = refl
some_of_map f p (x ∷ xs) = rw (some_of_map f p xs)

pub some_of_push : {A : Type 0} (p : A → Bool) (xs : List A) (y : A) → p y ≡ false → list_any p (xs ++ y ∷ []) ≡ list_any p xs
some_of_push p [] y e = rw e
some_of_push p (x ∷ xs) y e = rw (some_of_push p xs y e)
