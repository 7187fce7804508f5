-- From a byte's offset in its element to its level, slice and offset there, by the numbers of a sound table.
use Rattle.std.proofs.Common.{◌≡◌, ℕ, zero, suc, ◌+◌, ◌-◌, ◌*◌, ◌/◌, ◌%◌, ◌<◌, ◌≤◌, ◌⊎◌, Bool, true, false, cond, List, [], ◌∷◌, filter, length, take, nat_le, get_or, sym, refl, ap, ◌∙◌, subst, ⊎_elim, le_refl, suc-add, div-add-mod', zero-add, add-one, arith}
use Rattle.std.proofs.lemmas.Nat.{div_below, mod_below, mul-le}
use Rattle.std.proofs.lemmas.Bool.{cases_lt, cases_order}
use Rattle.std.proofs.lemmas.Bool.Decides.{nat_tests}
use Rattle.std.proofs.lemmas.List.{get_or-take, get_or_default, length-take}
use Rattle.std.specs.List.{AllWithin}
use Rattle.std.specs.List.Sorted.{IsPartitionedBy, IsPartitionPoint}
use Rattle.dds.specs.declared.level.Level.{Level}
use Rattle.dds.specs.declared.piece.Piece.{Piece}
use Rattle.dds.specs.declared.spot.Spot.{Spot}
use Rattle.dds.specs.declared.table.Table.{Table}
use Rattle.dds.specs.Plans.{begin_at, stride_of}
use Rattle.dds.specs.Sound.{slices_in, size_in, plan_in, Sound}
use Rattle.dds.specs.Tables.{blank}
use Rattle.dds.specs.Pieces.{Placed, pieces_of}
use Rattle.dds.specs.Places.{Stands, Holds}
use Rattle.dds.specs.steps.Spots.{SpotOf}
use Rattle.dds.proofs.Placing.{entry_in, entry_stands}
use Rattle.dds.proofs.Tiles.{pieces_between}

-- the byte at a place is that of a piece, at an offset in it
abbrev pub Owned : Table → ℕ → Piece → ℕ → Type 0
Owned t place p offset =
    (x : Placed) × (Stands (pieces_of (plan_in t)) x × (x.piece ≡ p) × (x.place + offset ≡ place) × (offset < x.length))

begin_grows : (s z : ℕ → ℕ) (m n : ℕ) → begin_at s z m ≤ begin_at s z (n + m)
begin_grows s z m zero = subst (λ k. begin_at s z m ≤ begin_at s z k) (sym (zero-add m)) (le_refl (begin_at s z m))
begin_grows s z m (suc n) =
    let r = begin_grows s z m n in
    subst (λ k. begin_at s z m ≤ begin_at s z k) (sym (suc-add n m)) (omega arith)

-- the bytes of a level lie in its element
pub begin_within : (s z : ℕ → ℕ) (k n : ℕ) → k < n → begin_at s z (suc k) ≤ begin_at s z n
begin_within s z k n h =
    let e : n - suc k + suc k ≡ n = omega arith in
    subst (λ m. begin_at s z (suc k) ≤ begin_at s z m) e (begin_grows s z (suc k) (n - suc k))

-- nothing passes where each element fails
none_pass : {X : Type 0} (p : X → Bool) (xs : List X) → AllWithin (λ y. p y ≡ false) xs 0 (length xs) → length (filter p xs) ≡ 0
none_pass p [] h = refl
none_pass p (x ∷ xs) h =
    let e = h 0 x (omega arith) (omega arith) in
    rw e (none_pass p xs (λ k d low high. h (suc k) d (omega arith) (omega arith)))

within_front : {X : Type 0} (P : X → Type 0) (x : X) (xs : List X) (n : ℕ) → P x → AllWithin P xs 0 n → AllWithin P (x ∷ xs) 0 (suc n)
within_front P x xs n a h zero d low high = a
within_front P x xs n a h (suc k) d low high = h k d (omega arith) (omega arith)

within_behind : {X : Type 0} (P : X → Type 0) (x : X) (xs : List X) (m n : ℕ) → AllWithin P xs m n → AllWithin P (x ∷ xs) (suc m) (suc n)
within_behind P x xs m n h zero d low high = absurd (omega arith)
within_behind P x xs m n h (suc k) d low high = h k d (omega arith) (omega arith)

fails_too : (a b : Bool) → (b ≡ true → a ≡ true) → a ≡ false → b ≡ false
fails_too a true h e = sym (h refl) ∙ e
fails_too a false h e = refl

-- where those that pass come first, they end where their count says
pub passing_first : {X : Type 0} (p : X → Bool) (xs : List X) → IsPartitionedBy p xs
    → IsPartitionPoint (λ y. p y ≡ true) (λ y. p y ≡ false) xs (length (filter p xs))
passing_first p [] parts = ((λ k d low high. absurd (omega arith)), (λ k d low high. absurd (omega arith)))
passing_first {X} p (x ∷ xs) parts =
    go (p x) refl (passing_first p xs (λ i j d h few below. parts (suc i) (suc j) d (omega arith) (omega arith) below))
  where
    go : (b : Bool) → p x ≡ b → IsPartitionPoint (λ y. p y ≡ true) (λ y. p y ≡ false) xs (length (filter p xs))
        → IsPartitionPoint (λ y. p y ≡ true) (λ y. p y ≡ false) (x ∷ xs) (length (cond b (x ∷ filter p xs) (filter p xs)))
    go true e r = (
      within_front (λ y. p y ≡ true) x xs (length (filter p xs)) e r.0,
      within_behind (λ y. p y ≡ false) x xs (length (filter p xs)) (length xs) r.1,
    )
    go false e r =
        let fails : AllWithin (λ y. p y ≡ false) (x ∷ xs) 0 (suc (length xs))
        = λ k d low high. fails_too (p x) (p (get_or (x ∷ xs) k d)) (λ passes. parts 0 k d (omega arith) high passes) e in
        let none = none_pass p xs (λ k d low high. fails (suc k) d (omega arith) (omega arith)) in
        subst (λ n. IsPartitionPoint (λ y. p y ≡ true) (λ y. p y ≡ false) (x ∷ xs) n) (sym none)
        ((λ k d low high. absurd (omega arith)), fails)

module _ (t : Table) (sound : Sound t) where
  -- the first level begins with the element
  pub first_begin : (get_or t.levels 0 blank).begin ≡ 0
  first_begin = sound.begins 0 sound.some_levels

  -- an element has some bytes
  pub stride_some : 1 ≤ t.stride
  stride_some =
      let m = mul-le 1 1 (slices_in t 0) (size_in t 0) (sound.slices 0 sound.some_levels) (sound.sizes 0 sound.some_levels) in
      let w = begin_within (slices_in t) (size_in t) 0 t.level_count sound.some_levels in
      let e = sound.stride in
      omega arith

  -- a level begins where the rules say, also in the front of the table
  begin_in : (k : ℕ) (d : Level) → t.level_count ≤ length t.levels → k < t.level_count → (get_or (take t.level_count t.levels) k d).begin ≡ begin_at (slices_in t) (size_in t) k
  begin_in k d room h =
      ap (λ (l : Level). l.begin) (get_or-take t.level_count t.levels k d h ∙ get_or_default t.levels k d blank (omega arith)) ∙ sound.begins k h

  as_long : (xs : List Level) → xs ≡ take t.level_count t.levels → length xs ≡ t.level_count → t.level_count ≤ length t.levels
  as_long xs is long = let m = ap length is ∙ length-take t.level_count t.levels in omega arith

  -- those levels come first that do not begin behind an offset
  pub begins_split : (offset : ℕ) (xs : List Level) → xs ≡ take t.level_count t.levels → length xs ≡ t.level_count
      → IsPartitionedBy (λ (l : Level). nat_le l.begin offset) xs
  begins_split offset xs is long i j d h few below =
      let s = slices_in t in
      let z = size_in t in
      let room = as_long xs is long in
      let here = ap (λ (ys : List Level). (get_or ys i d).begin) is ∙ begin_in i d room (omega arith) in
      let there = ap (λ (ys : List Level). (get_or ys j d).begin) is ∙ begin_in j d room (omega arith) in
      let e : j - i + i ≡ j = omega arith in
      let grows = subst (λ n. begin_at s z i ≤ begin_at s z n) e (begin_grows s z i (j - i)) in
      grind (arith, nat_tests)

  -- the last of them is the level that holds the offset
  pub holding : (offset i : ℕ) (xs : List Level) → xs ≡ take t.level_count t.levels → length xs ≡ t.level_count → i ≤ length xs
      → IsPartitionPoint (λ (l : Level). nat_le l.begin offset ≡ true) (λ (l : Level). nat_le l.begin offset ≡ false) xs i
      → (1 ≤ i) × ((get_or t.levels (i - 1) blank).begin ≤ offset)
      × (i - 1 + 1 < t.level_count → offset < (get_or t.levels (i - 1 + 1) blank).begin)
  holding offset i xs is long few point =
      let room = as_long xs is long in
      let some : 1 ≤ i
      = ⊎_elim
      (λ (none : i < 1).
      let first = begin_in 0 blank room sound.some_levels in
      let same = ap (λ (ys : List Level). (get_or ys 0 blank).begin) is in
      let past = point.1 0 blank (omega arith) (omega arith) in
      absurd (grind (arith, nat_tests)))
      (λ (h : 1 ≤ i). h)
      (cases_lt i 1) in (
        some,
        (let a = point.0 (i - 1) blank (omega arith) (omega arith) in
            let b = ap (λ (ys : List Level). (get_or ys (i - 1) blank).begin) is ∙ begin_in (i - 1) blank room (omega arith) in
            let c = sound.begins (i - 1) (omega arith) in
            grind (arith, nat_tests)),
        (λ more.
            let a = point.1 (i - 1 + 1) blank (omega arith) (omega arith) in
            let b = ap (λ (ys : List Level). (get_or ys (i - 1 + 1) blank).begin) is ∙ begin_in (i - 1 + 1) blank room more in
            let c = sound.begins (i - 1 + 1) more in
            grind (arith, nat_tests)),
      )

  -- an offset in the level that was found lies before the level's end
  pub before_end : (k offset : ℕ) → k < t.level_count → offset < t.stride
      → (k + 1 < t.level_count → offset < (get_or t.levels (k + 1) blank).begin)
      → offset < (get_or t.levels k blank).begin + slices_in t k * size_in t k
  before_end k offset h o last =
      let b = sound.begins k h in
      ⊎_elim
      (λ (end : k + 1 ≡ t.level_count).
      let e = sound.stride in
      let f : begin_at (slices_in t) (size_in t) t.level_count ≡ begin_at (slices_in t) (size_in t) k + slices_in t k * size_in t k
      = ap (λ n. begin_at (slices_in t) (size_in t) n) (sym end ∙ add-one k) in
      omega arith)
      (⊎_elim
      (λ (more : k + 1 < t.level_count).
      let l = last more in
      let c = sound.begins (k + 1) more in
      let f : begin_at (slices_in t) (size_in t) (k + 1) ≡ begin_at (slices_in t) (size_in t) k + slices_in t k * size_in t k
      = ap (λ n. begin_at (slices_in t) (size_in t) n) (add-one k) in
      omega arith)
      (λ (less : t.level_count < k + 1). absurd (omega arith)))
      (cases_order (k + 1) t.level_count)

  -- the level's bytes are few enough for 32 bits
  pub level_few : 1 ≤ t.elements → (k : ℕ) → k < t.level_count → (get_or t.levels k blank).begin + slices_in t k * size_in t k ≤ 1073741824
  level_few c k h =
      let b = sound.begins k h in
      let w = begin_within (slices_in t) (size_in t) k t.level_count h in
      let e = sound.stride in
      let m = mul-le 1 (stride_of (plan_in t)) t.elements (stride_of (plan_in t)) c (le_refl (stride_of (plan_in t))) in
      let x = sound.ends in
      let y = sound.inside in
      let z = sound.few_bytes in
      omega arith

  -- the spot that the level, a quotient and a remainder make
  pub spotted : (k offset len : ℕ) → k < t.level_count → offset < t.stride → (get_or t.levels k blank).begin ≤ offset
      → (k + 1 < t.level_count → offset < (get_or t.levels (k + 1) blank).begin) → len ≡ size_in t k
      → SpotOf t offset (record { level = k; slice = (offset - (get_or t.levels k blank).begin) / len; offset = (offset - (get_or t.levels k blank).begin) % len })
  spotted k offset len h o b last e =
      let rest = offset - (get_or t.levels k blank).begin in
      let end = before_end k offset h o last in
      let some : 0 < size_in t k = sound.sizes k h in
      let few : rest < slices_in t k * size_in t k = omega arith in
      subst (λ n. SpotOf t offset (record { level = k; slice = rest / n; offset = rest % n })) (sym e)
      (record {
        level = h;
        slice = div_below rest (size_in t k) (slices_in t k) some few;
        inside = mod_below rest (size_in t k) some;
        back = (let d = div-add-mod' rest (size_in t k) in omega arith);
      })

  -- its numbers have 32 bits
  pub spot_few : 1 ≤ t.elements → (offset : ℕ) (s : Spot) → SpotOf t offset s → (s.slice < 4294967296) × (s.offset < 4294967296)
  spot_few e offset s p =
      let k = s.level in
      let few = level_few e k p.level in
      let a = mul-le (slices_in t k) 1 (slices_in t k) (size_in t k) (le_refl (slices_in t k)) (sound.sizes k p.level) in
      let b = mul-le 1 (size_in t k) (slices_in t k) (size_in t k) (sound.slices k p.level) (le_refl (size_in t k)) in
      let c = p.slice in
      let d = p.inside in
      (omega arith, omega arith)

  -- the piece of a pixel byte: its element by a division, and its spot in the element
  pub owner_at : (place : ℕ) (s : Spot) → t.pixel_begin ≤ place → place < t.pixel_end
      → SpotOf t ((place - t.pixel_begin) % t.stride) s
      → Owned t place (record { element = (place - t.pixel_begin) / t.stride; level = s.level; slice = s.slice }) s.offset
  owner_at place s low high p =
      let inner = place - t.pixel_begin in
      let d = div-add-mod' inner t.stride in
      let stride = sound.stride in
      let end : t.pixel_end ≡ t.pixel_begin + t.elements * t.stride = sound.ends ∙ ap (λ n. t.pixel_begin + t.elements * n) (sym stride) in
      let few : inner / t.stride < t.elements = div_below inner t.stride t.elements stride_some (omega arith) in
      let back = p.back in
      let piece : Piece = record { element = inner / t.stride; level = s.level; slice = s.slice } in
      (entry_in t piece, (entry_stands t sound piece (few, p.level, p.slice), refl, omega arith, p.inside))

  -- a byte outside the pixel data is of no piece
  pub nobody_at : (place : ℕ) → (place < t.pixel_begin) ⊎ (t.pixel_end ≤ place) → (x : Placed) → Stands (pieces_of (plan_in t)) x → Holds x place → ⊥
  nobody_at place out x st h =
      let b = pieces_between (plan_in t) x st in
      let low = b.0 in
      let high = b.1 in
      let e = sound.ends in
      let f = h.0 in
      let g = h.1 in
      ⊎_elim (λ (o : place < t.pixel_begin). omega arith) (λ (o : t.pixel_end ≤ place). omega arith) out
