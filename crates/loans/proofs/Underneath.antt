-- What bytes a paste leaves, and what strokes lay.
use Rattle.std.proofs.Common.{◌≡◌, ℕ, ◌+◌, ◌-◌, ◌<◌, ◌≤◌, true, false, cond, ◌⊎◌, List, [], ◌∷◌, ◌++◌, map, length, get_or, take, drop, sym, refl, ap, ◌∙◌, inl, inr, arith}
use lib.Seq.{paste}
use Rattle.std.specs.List.{between, range_with_len, All}
use Rattle.std.proofs.lemmas.List.Elements.{All-tail}
use Rattle.std.proofs.lemmas.List.{ext_get_or, length-append, get_or_append_left, get_or-append_right, get_or-take, get_or-drop, length-take-le}
use Rattle.std.proofs.lemmas.List.FromFn.{length-map-range_with_len, get_or-map-range_with_len}
use Rattle.std.proofs.lemmas.List.Edits.{length-paste, length-between, get_or-between}
use Rattle.std.proofs.lemmas.Bool.{and_parts, and_from, and_left, and_right, leb-true, ltb-true, le-leb, lt-ltb, lt-leb, le-ltb, cases_lt}
use Rattle.loans.specs.Journals.{Stroke, covers, byte_under}

-- a list of values changes as its values do
pub same_values : (f g : ℕ → ℕ) (a n : ℕ) → ((i : ℕ) → a ≤ i → i < a + n → f i ≡ g i) → map f (range_with_len a n) ≡ map g (range_with_len a n)
same_values f g a n h =
    ext_get_or 0 (map f (range_with_len a n)) (map g (range_with_len a n)) (length-map-range_with_len f a n ∙ sym (length-map-range_with_len g a n)) at_i
  where
    at_i : (i : ℕ) → i < length (map f (range_with_len a n)) → get_or (map f (range_with_len a n)) i 0 ≡ get_or (map g (range_with_len a n)) i 0
    at_i i k =
        let k' : i < n = rw length-map-range_with_len at k in
        get_or-map-range_with_len f a n i (a + i) 0 k' refl ∙ h (a + i) (omega arith) (omega arith) ∙ sym (get_or-map-range_with_len g a n i (a + i) 0 k' refl)

-- a part of the values from 0 on
pub between_values : (f : ℕ → ℕ) (n at m : ℕ) → at + m ≤ n → between at (at + m) (map f (range_with_len 0 n)) ≡ map f (range_with_len at m)
between_values f n at m fits = ext_get_or 0 (between at (at + m) vs) (map f (range_with_len at m)) (len ∙ sym (length-map-range_with_len f at m)) at_i
  where
    vs : List ℕ
    vs = map f (range_with_len 0 n)

    all : length vs ≡ n
    all = length-map-range_with_len f 0 n

    len : length (between at (at + m) vs) ≡ m
    len = length-between vs at (at + m) (omega (arith, all)) ∙ omega arith

    at_i : (i : ℕ) → i < length (between at (at + m) vs) → get_or (between at (at + m) vs) i 0 ≡ get_or (map f (range_with_len at m)) i 0
    at_i i k = get_or-between vs at (at + m) i 0 (omega (arith, len)) ∙ get_or-map-range_with_len f 0 n (at + i) (at + i) 0 (omega (arith, len)) (omega arith) ∙ sym (get_or-map-range_with_len f at m i (at + i) 0 (omega (arith, len)) refl)

get_or_paste_below : (d : List ℕ) (at : ℕ) (s : List ℕ) (m i : ℕ) → at ≤ length d → i < at → get_or (paste d at s m) i 0 ≡ get_or d i 0
get_or_paste_below d at s m i fits below =
    let n = length-take-le at d fits in
    let k : i < length (take at d ++ take m s) = simp length-append (omega arith) in
    get_or_append_left (take at d ++ take m s) (drop (at + m) d) 0 i k ∙ get_or_append_left (take at d) (take m s) 0 i (omega arith) ∙ get_or-take at d i 0 below

get_or_paste_in : (d : List ℕ) (at : ℕ) (s : List ℕ) (m i : ℕ) → at ≤ length d → m ≤ length s → i < m → get_or (paste d at s m) (at + i) 0 ≡ get_or s i 0
get_or_paste_in d at s m i fits long below =
    let n = length-take-le at d fits in
    let n' = length-take-le m s long in
    let k : at + i < length (take at d ++ take m s) = simp length-append (omega arith) in
    let j : at + i - at ≡ i = omega arith in
    get_or_append_left (take at d ++ take m s) (drop (at + m) d) 0 (at + i) k
    ∙ (get_or-append_right (take at d) (take m s) at (at + i) 0 n (omega arith)
    ∙ (ap (λ x. get_or (take m s) x 0) j ∙ get_or-take m s i 0 below))

get_or_paste_above : (d : List ℕ) (at : ℕ) (s : List ℕ) (m i : ℕ) → at ≤ length d → m ≤ length s → at + m ≤ i → get_or (paste d at s m) i 0 ≡ get_or d i 0
get_or_paste_above d at s m i fits long above =
    let n = length-take-le at d fits in
    let n' = length-take-le m s long in
    let k : length (take at d ++ take m s) ≡ at + m = simp length-append (omega arith) in
    let j : at + m + (i - (at + m)) ≡ i = omega arith in
    get_or-append_right (take at d ++ take m s) (drop (at + m) d) (at + m) i 0 k above ∙ (get_or-drop (at + m) d (i - (at + m)) 0 ∙ ap (λ x. get_or d x 0) j)

-- values with a part written over
pub pasted : (f g : ℕ → ℕ) (n at : ℕ) (s : List ℕ) (m : ℕ) → length s ≡ m → at + m ≤ n
    → ((i : ℕ) → i < m → get_or s i 0 ≡ g (at + i)) → ((i : ℕ) → (i < at) ⊎ (at + m ≤ i) → f i ≡ g i)
    → paste (map f (range_with_len 0 n)) at s m ≡ map g (range_with_len 0 n)
pasted f g n at s m long fits in_part outside =
    ext_get_or 0 (paste vs at s m) (map g (range_with_len 0 n)) (len ∙ sym (length-map-range_with_len g 0 n)) (λ i k. at_i i (omega (arith, len)) (cases_lt i at) (cases_lt i (at + m)) ∙ sym (get_or-map-range_with_len g 0 n i i 0 (omega (arith, len)) (omega arith)))
  where
    vs : List ℕ
    vs = map f (range_with_len 0 n)

    all : length vs ≡ n
    all = length-map-range_with_len f 0 n

    len : length (paste vs at s m) ≡ n
    len = length-paste vs at s m (omega (arith, all)) (omega arith) ∙ all

    at_i : (i : ℕ) → i < n → (i < at) ⊎ (at ≤ i) → (i < at + m) ⊎ (at + m ≤ i) → get_or (paste vs at s m) i 0 ≡ g i
    at_i i k (inl b) c = get_or_paste_below vs at s m i (omega (arith, all)) b ∙ (get_or-map-range_with_len f 0 n i i 0 k (omega arith) ∙ outside i (inl b))
    at_i i k (inr b) (inr c) = get_or_paste_above vs at s m i (omega (arith, all)) (omega arith) c ∙ (get_or-map-range_with_len f 0 n i i 0 k (omega arith) ∙ outside i (inr c))
    at_i i k (inr b) (inl c) =
        let j : at + (i - at) ≡ i = omega arith in
        let w = get_or_paste_in vs at s m (i - at) (omega (arith, all)) (omega arith) (omega arith) ∙ in_part (i - at) (omega arith) in
        rw j at w

-- which bytes a stroke covers
pub covers_from : (s : Stroke) (i : ℕ) → s.place ≤ i → i < s.place + length s.painting.laid → covers s i ≡ true
covers_from s i a b = and_from _ _ (le-leb _ _ a) (lt-ltb _ _ b)

pub covers_not : (s : Stroke) (i : ℕ) → (i < s.place) ⊎ (s.place + length s.painting.laid ≤ i) → covers s i ≡ false
covers_not s i (inl a) = and_left _ _ (lt-leb _ _ a)
covers_not s i (inr b) = and_right _ _ (le-ltb _ _ b)

pub covers_parts : (s : Stroke) (i : ℕ) → covers s i ≡ true → (s.place ≤ i) × (i < s.place + length s.painting.laid)
covers_parts s i e = let t = and_parts _ _ e in (leb-true _ _ t.0, ltb-true _ _ t.1)

module _ (opening : List ℕ) where
  -- a stroke that does not cover a byte says nothing of it
  pub byte_without : (ss : List Stroke) (k : Stroke) (rest : List Stroke) (i : ℕ) → covers k i ≡ false → byte_under opening (ss ++ k ∷ rest) i ≡ byte_under opening (ss ++ rest) i
  byte_without [] k rest i e = rw e
  byte_without (s ∷ ss) k rest i e = ap (λ x. cond (covers s i) (get_or s.painting.laid (i - s.place) 0) x) (byte_without ss k rest i e)

  pub byte_past : (ss rest : List Stroke) (i : ℕ) → All (λ s. covers s i ≡ false) ss → byte_under opening (ss ++ rest) i ≡ byte_under opening rest i
  byte_past [] rest i h = refl
  byte_past (s ∷ ss) rest i h =
      let clear : covers s i ≡ false = h 0 s (omega arith) in
      rw clear (byte_past ss rest i (All-tail (λ a. covers a i ≡ false) s ss h))
