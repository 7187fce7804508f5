-- DXGI codes have a name exactly where they have a format, and no two share one: by tests that are computed over the whole table.
use Rattle.std.proofs.Common.{◌≡◌, ℕ, zero, suc, ◌+◌, ◌*◌, ◌<◌, ◌≤◌, Bool, true, false, cond, ◌&&◌, List, [], ◌∷◌, find, Some, None, Option, refl, ap, sym, ◌∙◌, nat_lt, ◌==◌, is_some, not, arith, map, subst, ⊎_elim, Bor}
use Rattle.std.specs.Option.{option_map, IsSome}
use Rattle.std.specs.List.{list_all}
use Rattle.std.proofs.lemmas.Bool.{and_parts, cases_Bool, eqb-true, cond-true, cond-false}
use Rattle.std.proofs.lemmas.Bool.Decides.{nat_tests}
use Rattle.formats.specs.Codes.{name_in, name_for, ranges, dxgi_rows}
use Rattle.formats.specs.DxgiNames.{dxgi_names, named_in, dxgi_name_of, NamesWhatHasAFormat, NamesOneCode}
use Rattle.formats.specs.declared.tables.CodeRange.{CodeRange}

-- a test holds of every number below a bound
abbrev all_below : (ℕ → Bool) → ℕ → Bool
all_below p zero = true
all_below p (suc n) = p n && all_below p n

below : (p : ℕ → Bool) (n k : ℕ) → all_below p n ≡ true → k < n → p k ≡ true
below p zero k e less = absurd (omega arith)
below p (suc n) k e less =
    let parts = and_parts (p n) (all_below p n) e in
    ⊎_elim (λ (t : (k == n) ≡ true). subst (λ m. p m ≡ true) (sym (eqb-true k n t)) parts.0)
    (λ (f : (k == n) ≡ false). below p n k parts.1 (grind (arith, nat_tests)))
    (cases_Bool (k == n))

-- no code past a bound has a name
find_past : (xs : List (ℕ × List ℕ)) (top code : ℕ) → list_all (λ x. nat_lt x.0 top) xs ≡ true → top ≤ code
    → find (λ x. x.0 == code) xs ≡ None
find_past [] top code e past = refl
find_past (x ∷ xs) top code e past = grind (arith, nat_tests, find_past xs top code)

-- nor a format
name_past : (rs : List CodeRange) (top code : ℕ) → list_all (λ r. nat_lt r.last top) rs ≡ true → top ≤ code → name_in rs code ≡ None
unfolding name_in
name_past [] top code e past = refl
name_past (r ∷ rs) top code e past = grind (arith, nat_tests, name_past rs top code)

-- a row's name is the same where the names are lent
pub found : (rows : List (ℕ × Bor (List ℕ))) (code : ℕ)
    → named_in (map (λ (row : ℕ × Bor (List ℕ)). (row.0, row.1.now)) rows) code
    ≡ option_map (λ (row : ℕ × Bor (List ℕ)). row.1.now) (find (λ (row : ℕ × Bor (List ℕ)). row.0 == code) rows)
found [] code = refl
found (row ∷ rows) code = grind (arith, nat_tests, found rows code)

-- a code has a name and a format, or neither
abbrev both_or_neither : ℕ → Bool
both_or_neither code = cond (is_some (dxgi_name_of code)) (is_some (name_for dxgi_rows code)) (not (is_some (name_for dxgi_rows code)))

both_ways : {X Y : Type 0} (a : Option X) (b : Option Y) → cond (is_some a) (is_some b) (not (is_some b)) ≡ true
    → (IsSome a → IsSome b) × (IsSome b → IsSome a)
both_ways None None e = grind arith
both_ways None (Some y) e = grind arith
both_ways (Some x) None e = grind arith
both_ways (Some x) (Some y) e = grind arith

pub named_where_laid_out : NamesWhatHasAFormat
unfolding dxgi_names dxgi_rows name_in
named_where_laid_out code =
    ⊎_elim (λ (low : (nat_lt code 116) ≡ true). both_ways (dxgi_name_of code) (name_for dxgi_rows code) (below both_or_neither 116 code refl (grind (arith, nat_tests))))
    (λ (high : (nat_lt code 116) ≡ false).
    let past : 116 ≤ code = grind (arith, nat_tests) in
    let no_name : dxgi_name_of code ≡ None = ap (λ f. option_map (λ (row : ℕ × List ℕ). row.1) f) (find_past dxgi_names 116 code refl past) in
    let no_format : name_for dxgi_rows code ≡ None = name_past (ranges dxgi_rows) 116 code refl past in
    both_ways (dxgi_name_of code) (name_for dxgi_rows code) (cc))
    (cases_Bool (nat_lt code 116))

-- a name as one number
abbrev key_of : List ℕ → ℕ
key_of [] = 0
key_of (byte ∷ rest) = byte + 256 * key_of rest

-- the code of the first row with that key
abbrev code_with : List (ℕ × ℕ) → ℕ → Option ℕ
code_with rows key = option_map (λ row. row.0) (find (λ row. row.1 == key) rows)

abbrev is_code : ℕ → Option ℕ → Bool
is_code code None = false
is_code code (Some found) = found == code

is_code_lem : (code : ℕ) (o : Option ℕ) → is_code code o ≡ true → o ≡ Some code
is_code_lem code None e = grind arith
is_code_lem code (Some found) e = ap Some (eqb-true found code e)

abbrev keyed : List (ℕ × List ℕ) → List (ℕ × ℕ)
keyed rows = map (λ row. (row.0, key_of row.1)) rows

-- the key of the name that stands beside a code leads back to the code
leads_back : (rows : List (ℕ × List ℕ)) (codes : List (ℕ × ℕ)) (code : ℕ) (name : List ℕ)
    → list_all (λ row. is_code row.0 (code_with codes (key_of row.1))) rows ≡ true → named_in rows code ≡ Some name
    → code_with codes (key_of name) ≡ Some code
leads_back [] codes code name e found = grind arith
leads_back (row ∷ rows) codes code name e found =
    let parts = and_parts (is_code row.0 (code_with codes (key_of row.1))) (list_all (λ row. is_code row.0 (code_with codes (key_of row.1))) rows) e in
    ⊎_elim (λ (t : (row.0 == code) ≡ true).
    let here : Some row.1 ≡ Some name = ap (λ f. option_map (λ (row : ℕ × List ℕ). row.1) f) (sym (cond-true (row.0 == code) (Some row) (find (λ row. row.0 == code) rows) t)) ∙ found in
    let named : row.1 ≡ name = cc in
    let coded : row.0 ≡ code = eqb-true row.0 code t in
    let back = is_code_lem row.0 (code_with codes (key_of row.1)) parts.0 in
    subst (λ n. code_with codes (key_of n) ≡ Some code) named (back ∙ ap Some coded))
    (λ (f : (row.0 == code) ≡ false).
    leads_back rows codes code name parts.1
    (ap (λ f. option_map (λ (row : ℕ × List ℕ). row.1) f) (sym (cond-false (row.0 == code) (Some row) (find (λ row. row.0 == code) rows) f)) ∙ found))
    (cases_Bool (row.0 == code))

pub one_code : NamesOneCode
unfolding dxgi_names
one_code a b name first second =
    let from_a = leads_back dxgi_names (keyed dxgi_names) a name refl first in
    let from_b = leads_back dxgi_names (keyed dxgi_names) b name refl second in
    cc
