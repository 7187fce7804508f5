-- Reading hex digits is taking the digits back to their bytes.
use Rattle.std.proofs.Common.{◌≡◌, ℕ, zero, suc, ◌-◌, ◌+◌, ◌*◌, ◌/◌, ◌%◌, ◌<◌, ◌≤◌, true, false, not, ◌&&◌, eqb, leb, List, [], ◌∷◌, ◌++◌, length, Some, refl, sym, ap, ap₂, ◌∙◌, subst, arith, inl, inr, append_assoc, length-append}
use Rattle.std.proofs.lemmas.List.{append-nil}
use Rattle.std.proofs.lemmas.List.Elements.{All-nil, All-cons, All-head, All-tail}
use Rattle.std.proofs.lemmas.Bool.{cases_lt, lt-ltb, le-ltb, and_parts, eqb-true, eq-eqb, ne_eqb, leb-true, le-leb, lt-leb, or_cases}
use Rattle.std.proofs.lemmas.Option.{cond_some}
use Rattle.std.specs.Fmt.{digit_glyph}
use Rattle.std.specs.List.{list_all, flat_map, All}
use Rattle.orders.specs.Spelling.{hex_pair}
use Rattle.orders.specs.Words.{is_hex, are_pairs, nibble, hex_bytes, hex_bytes_at}

-- a byte has eight bits
abbrev IsByte : ℕ → Type 0
IsByte b = b < 256

-- what a hex digit counts has that digit
nibble_takes : (d : ℕ) → is_hex d ≡ true → (digit_glyph false (nibble d) ≡ d) × (nibble d < 16)
nibble_takes d h = elim (or_cases (leb 48 d && leb d 57) (leb 97 d && leb d 102) h) [
  | inl e ↦
      let b = and_parts (leb 48 d) (leb d 57) e in
      let low = leb-true 48 d b.0 in
      let high = leb-true d 57 b.1 in
      rw (lt-ltb d 97 (omega arith), lt-ltb (d - 48) 10 (omega arith)) (omega arith, omega arith)
  | inr e ↦
      let b = and_parts (leb 97 d) (leb d 102) e in
      let low = leb-true 97 d b.0 in
      let high = leb-true d 102 b.1 in
      rw (le-ltb d 97 (omega arith), le-ltb (d - 97 + 10) 10 (omega arith)) (omega arith, omega arith)
]

-- the digit of a number below 16 is one, and counts it
glyph_again : (n : ℕ) → n < 16 → (is_hex (digit_glyph false n) ≡ true) × (nibble (digit_glyph false n) ≡ n)
glyph_again n small = elim (cases_lt n 10) [
  | inl lt ↦ rw (lt-ltb n 10 lt, le-leb 48 (48 + n) (omega arith), le-leb (48 + n) 57 (omega arith), lt-ltb (48 + n) 97 (omega arith)) (refl, omega arith)
  | inr le ↦ rw (le-ltb n 10 le, le-leb 48 (87 + n) (omega arith), lt-leb (87 + n) 57 (omega arith), le-leb 97 (87 + n) (omega arith), le-leb (87 + n) 102 (omega arith), le-ltb (87 + n) 97 (omega arith)) (refl, omega arith)
]

spelled : (bs : List ℕ) → All IsByte bs
    → (list_all is_hex (flat_map hex_pair bs) ≡ true) × (length (flat_map hex_pair bs) ≡ 2 * length bs) × (hex_bytes (flat_map hex_pair bs) ≡ bs)
spelled [] h = (refl, refl, refl)
spelled (b ∷ bs) h =
    let rest = spelled bs (All-tail IsByte b bs h) in
    let high = glyph_again (b / 16) (omega (arith, All-head IsByte b bs h)) in
    let low = glyph_again (b % 16) (omega arith) in (
      rw (high.0, low.0) rest.0,
      omega (arith, rest.1),
      ap₂ (λ (x : ℕ) (xs : List ℕ). x ∷ xs) (rw (high.1, low.1) (omega arith)) rest.2,
    )

-- bytes are read from their digits
pub bytes_again : (bs : List ℕ) → 0 < length bs → All IsByte bs → hex_bytes_at (flat_map hex_pair bs) ≡ Some bs
bytes_again bs some small =
    let w = spelled bs small in
    let two : length (flat_map hex_pair bs) ≡ 2 * length bs = w.1 in
    rw (ne_eqb (length (flat_map hex_pair bs)) 0 (λ e. omega arith), eq-eqb (length (flat_map hex_pair bs) % 2) 0 (omega arith), w.0, w.2) refl

taken : (ds : List ℕ) → length ds % 2 ≡ 0 → list_all is_hex ds ≡ true
    → (flat_map hex_pair (hex_bytes ds) ≡ ds) × (2 * length (hex_bytes ds) ≡ length ds) × All IsByte (hex_bytes ds)
taken [] even h = (refl, refl, All-nil IsByte)
taken (d ∷ []) even h = absurd (omega arith)
taken (d ∷ e ∷ ds) even h =
    let a = and_parts (is_hex d) (is_hex e && list_all is_hex ds) h in
    let b = and_parts (is_hex e) (list_all is_hex ds) a.1 in
    let rest = taken ds (omega arith) b.1 in
    let x = nibble_takes d a.0 in
    let y = nibble_takes e b.0 in
    let high : (nibble d * 16 + nibble e) / 16 ≡ nibble d = omega (arith, x.1, y.1) in
    let low : (nibble d * 16 + nibble e) % 16 ≡ nibble e = omega (arith, x.1, y.1) in (
      rw (high, low, x.0, y.0) (ap (λ (xs : List ℕ). d ∷ e ∷ xs) rest.0),
      omega (arith, rest.1),
      All-cons IsByte _ _ (omega (arith, x.1, y.1)) rest.2,
    )

-- and from nothing else
pub bytes_takes : (ds bs : List ℕ) → hex_bytes_at ds ≡ Some bs → (ds ≡ flat_map hex_pair bs) × (0 < length bs) × All IsByte bs
bytes_takes ds bs e =
    let c = cond_some (are_pairs ds) (hex_bytes ds) bs e in
    let a = and_parts (not (eqb (length ds) 0)) (eqb (length ds % 2) 0 && list_all is_hex ds) c.0 in
    let b = and_parts (eqb (length ds % 2) 0) (list_all is_hex ds) a.1 in
    let t = taken ds (eqb-true _ _ b.0) b.1 in
    let some : 0 < length ds = not_none (length ds) a.0 in
    subst (λ (xs : List ℕ). (ds ≡ flat_map hex_pair xs) × (0 < length xs) × All IsByte xs) c.1 (sym t.0, omega (arith, t.1), t.2)
  where
    not_none : (n : ℕ) → not (eqb n 0) ≡ true → 0 < n
    not_none zero h = absurd cc
    not_none (suc n) h = omega arith

pub all_hex : (bs : List ℕ) → All IsByte bs → list_all is_hex (flat_map hex_pair bs) ≡ true
all_hex bs small = (spelled bs small).0

-- while bytes are read from digits: those that were read, and the digits that are left
pub record Left (text digits read : List ℕ) : Type 0 where
  pub all : read ++ hex_bytes digits ≡ hex_bytes text
  pub hex : list_all is_hex digits ≡ true
  pub room : 2 * length read + length digits ≤ 16384

pub left_first : (text : List ℕ) → are_pairs text ≡ true → length text ≤ 16384 → Left text text []
left_first text pairs room =
    record {
      all = refl;
      hex = (and_parts _ _ (and_parts (not (eqb (length text) 0)) (eqb (length text % 2) 0 && list_all is_hex text) pairs).1).1;
      room = omega arith;
    }

pub left_more : (text digits read : List ℕ) (h l : ℕ) (ds : List ℕ) → digits ≡ h ∷ l ∷ ds → Left text digits read → Left text ds (read ++ (nibble h * 16 + nibble l) ∷ [])
left_more text digits read h l ds e w =
    let here = subst (λ (xs : List ℕ). Left text xs read) e w in
    record {
      all = append_assoc read ((nibble h * 16 + nibble l) ∷ []) (hex_bytes ds) ∙ here.all;
      hex = (and_parts (is_hex l) (list_all is_hex ds) (and_parts (is_hex h) (is_hex l && list_all is_hex ds) here.hex).1).1;
      room = omega (arith, here.room, length-append read ((nibble h * 16 + nibble l) ∷ []));
    }

pub left_none : (text digits read : List ℕ) → length digits < 2 → Left text digits read → read ≡ hex_bytes text
left_none text [] read few w = sym (append-nil read) ∙ w.all
left_none text (d ∷ []) read few w = sym (append-nil read) ∙ w.all
left_none text (d ∷ e ∷ ds) read few w = absurd (omega arith)

-- pairs of digits are spelled by their bytes
pub pairs_again : (ds : List ℕ) → are_pairs ds ≡ true → flat_map hex_pair (hex_bytes ds) ≡ ds
pairs_again ds h =
    let a = and_parts (not (eqb (length ds) 0)) (eqb (length ds % 2) 0 && list_all is_hex ds) h in
    let b = and_parts (eqb (length ds % 2) 0) (list_all is_hex ds) a.1 in
    (taken ds (eqb-true _ _ b.0) b.1).0
