-- Reading a number is taking the digits back to it.
use Rattle.std.proofs.Common.{◌≡◌, ℕ, ◌<◌, ◌^◌, Bool, true, false, cond, not, ltb, eqb, List, [], ◌∷◌, length, get_or, Some, None, Option, Ok, Err, Result, refl, sym, ap, ◌∙◌, subst, arith, rules, inl, inr, ◌≢◌}
use Rattle.std.proofs.lemmas.Bool.{cases_lt, lt-ltb, le-ltb, ltb-true, and_parts, ne_eqb, true≢false}
use Rattle.std.proofs.lemmas.Option.{cond_some}
use Rattle.std.proofs.lemmas.Fmt.{IsAscii-from_digits, decimal-digits_value, decimal_nonempty, digits_decimal, digits_value-decimal, first_decimal, decimal_digit}
use Rattle.std.proofs.lemmas.Str.{IsUtf8-from_ascii}
use Rattle.std.proofs.lemmas.Str.Parse.{IsNumeralModel, numerals_by_value, parse_digits}
use Rattle.std.specs.Prelude.{decimal, IsUtf8, MatchResult}
use Rattle.std.specs.Borrow.{Bor}
use Rattle.std.specs.Char.{is_ascii_digit}
use Rattle.std.specs.List.{list_all}
use Rattle.std.specs.Result.{OkIff, result_ok}
use Rattle.std.specs.Str.Parse.{digits_value, ParsesUnsigned}
use Rattle.orders.specs.Words.{is_plain, value_at}

abbrev pub AreDigits : List ℕ → Type 0
AreDigits ds = list_all is_ascii_digit ds ≡ true

pub own : IsNumeralModel AreDigits (digits_value 10)
own = numerals_by_value _ (search rules)

pub digits_utf8 : (ds : List ℕ) → AreDigits ds → IsUtf8 ds
digits_utf8 ds h = IsUtf8-from_ascii ds (IsAscii-from_digits ds (own.to ds h))

-- bytes that are UTF-8 are taken as text
pub text_some : {E : Type 0} (Q : E → Type 0) (bs : List ℕ) (r : Result (Bor (List ℕ)) E) → MatchResult r (λ s. (s.now ≡ bs) × IsUtf8 bs) (λ e. (IsUtf8 bs → ⊥) × Q e)
    → IsUtf8 bs → result_ok r ≢ None
text_some Q bs (Ok s) m u e = absurd cc
text_some Q bs (Err x) m u e = m.0 u

pub text_same : {E : Type 0} (Q : E → Type 0) (bs : List ℕ) (r : Result (Bor (List ℕ)) E) (s : Bor (List ℕ)) → MatchResult r (λ s. (s.now ≡ bs) × IsUtf8 bs) (λ e. (IsUtf8 bs → ⊥) × Q e)
    → result_ok r ≡ Some s → s.now ≡ bs
text_same Q bs (Ok t) s m e = ap (λ (x : Bor (List ℕ)). x.now) (let same : s ≡ t = cc in same) ∙ m.0
text_same Q bs (Err x) s m e = absurd cc

plain_some : (ds : List ℕ) → is_plain ds ≡ true → 0 < length ds
plain_some [] h = absurd cc
plain_some (d ∷ ds) h = omega arith

-- what parsing a word of digits gives
pub parsed : {E : Type 0} (word : List ℕ) (r : Result ℕ E) → is_plain word ≡ true → AreDigits word → ParsesUnsigned 32 10 word r → result_ok r ≡ value_at word
parsed {E} word r plain ds h = rw (plain, ds) (go r (parse_digits own 32 word r h ds))
  where
    go : (r : Result ℕ E) → OkIff r ((0 < length word) × (digits_value 10 word < 2 ^ 32)) (digits_value 10 word)
        → result_ok r ≡ cond (ltb (digits_value 10 word) (2 ^ 32)) (Some (digits_value 10 word)) None
    go (Ok x) k = rw (lt-ltb _ _ k.0.1) (ap (λ (n : ℕ). Some n) k.1)
    go (Err e) k = elim (cases_lt (digits_value 10 word) (2 ^ 32)) [
      | inl lt ↦ absurd (k (plain_some word plain, lt))
      | inr le ↦ rw (le-ltb _ _ le) refl
    ]

plain_from : (ds : List ℕ) → 0 < length ds → (get_or ds 0 0 ≡ 48 → length ds ≡ 1) → is_plain ds ≡ true
plain_from [] some one = absurd (omega arith)
plain_from (d ∷ []) some one = refl
plain_from (d ∷ e ∷ ds) some one = ap not (ne_eqb d 48 (λ h. omega (arith, one h)))

plain_leads : (ds : List ℕ) → is_plain ds ≡ true → get_or ds 0 0 ≡ 48 → length ds ≡ 1
plain_leads [] plain zero = absurd cc
plain_leads (d ∷ []) plain zero = refl
plain_leads (d ∷ e ∷ ds) plain zero = absurd (true≢false (sym plain ∙ ap (λ (n : ℕ). not (eqb n 48)) zero))

decimal_leads : (n : ℕ) → n < 2 ^ 32 → get_or (decimal n) 0 0 ≡ 48 → length (decimal n) ≡ 1
decimal_leads n small zero = elim (cases_lt 0 n) [
  | inl lt ↦ absurd (omega (arith, zero, first_decimal n lt (omega arith)))
  | inr le ↦ ap length (decimal_digit n (omega arith))
]

pub decimal_digits : (n : ℕ) → n < 2 ^ 32 → AreDigits (decimal n)
decimal_digits n small = digits_decimal own n (omega arith)

-- a number is read from its digits
pub value_again : (n : ℕ) → n < 2 ^ 32 → value_at (decimal n) ≡ Some n
value_again n small =
    let plain = plain_from (decimal n) (decimal_nonempty n (omega arith)) (decimal_leads n small) in
    rw (plain, decimal_digits n small, digits_value-decimal own n (omega arith), lt-ltb n (2 ^ 32) small) refl

-- and from nothing else
pub value_takes : (word : List ℕ) (n : ℕ) → value_at word ≡ Some n → (word ≡ decimal n) × (n < 2 ^ 32)
value_takes word n e =
    let tested = guard _ _ _ e in
    let small = cond_some _ _ _ tested.1 in
    let both = and_parts (is_plain word) (list_all is_ascii_digit word) tested.0 in
    let lt = ltb-true _ _ small.0 in
    (sym (ap decimal (sym small.1) ∙ decimal-digits_value own word both.1 (plain_some word both.0) (plain_leads word both.0) (omega arith)), subst (λ (k : ℕ). k < 2 ^ 32) small.1 lt)
  where
    guard : (b : Bool) (o : Option ℕ) (n : ℕ) → cond b o None ≡ Some n → (b ≡ true) × (o ≡ Some n)
    guard true o n e = (refl, e)
    guard false o n e = absurd cc
