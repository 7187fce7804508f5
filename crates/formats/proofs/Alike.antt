-- Two tables give every code the same name, by a test that is computed over both: each range of one stands in the other,
-- and no two ranges of a table meet.
use Rattle.std.proofs.Common.{◌≡◌, ℕ, ◌≤◌, Bool, true, false, not, ◌&&◌, ◌||◌, eqb, leb, List, [], ◌∷◌, Some, None, Option, sym, refl, ap, ◌∙◌, subst, inl, inr, ⊎_elim, arith}
use Rattle.std.proofs.lemmas.Bool.{and_parts, or_cases, eqb-true, leb-true, cases_Bool, cond-true, cond-false, both_ways, le-leb, and_from}
use Rattle.std.proofs.lemmas.Bool.Decides.{nat_tests}
use Rattle.formats.specs.Codes.{name_in, Names, Row, ranges, name_for, Unambiguous}
use Rattle.formats.specs.Names.{admitted, admitted_of}
use Rattle.formats.specs.Sizes.{is_pixel_size, is_block_size}
use Rattle.formats.specs.declared.format_name.FormatName.{FormatName}
use Rattle.formats.specs.declared.format_name.FormatName.TheVariants.{Linear, Paired, Block}
use Rattle.formats.specs.declared.tables.CodeRange.{CodeRange}

abbrev same_name : FormatName → FormatName → Bool
same_name (Linear a) (Linear b) = eqb a b
same_name (Linear a) Paired = false
same_name (Linear a) (Block b) = false
same_name Paired (Linear b) = false
same_name Paired Paired = true
same_name Paired (Block b) = false
same_name (Block a) (Linear b) = false
same_name (Block a) Paired = false
same_name (Block a) (Block b) = eqb a b

same_name_lem : (m n : FormatName) → same_name m n ≡ true → m ≡ n
same_name_lem (Linear a) (Linear b) e = ap Linear (eqb-true a b e)
same_name_lem (Linear a) Paired e = absurd (both_ways false refl e)
same_name_lem (Linear a) (Block b) e = absurd (both_ways false refl e)
same_name_lem Paired (Linear b) e = absurd (both_ways false refl e)
same_name_lem Paired Paired e = refl
same_name_lem Paired (Block b) e = absurd (both_ways false refl e)
same_name_lem (Block a) (Linear b) e = absurd (both_ways false refl e)
same_name_lem (Block a) Paired e = absurd (both_ways false refl e)
same_name_lem (Block a) (Block b) e = ap Block (eqb-true a b e)

abbrev same : CodeRange → CodeRange → Bool
same a b = eqb a.first b.first && (eqb a.last b.last && same_name a.name b.name)

abbrev stands : CodeRange → List CodeRange → Bool
stands a [] = false
stands a (b ∷ ys) = same a b || stands a ys

abbrev all_stand : List CodeRange → List CodeRange → Bool
all_stand [] ys = true
all_stand (a ∷ xs) ys = stands a ys && all_stand xs ys

abbrev meets : CodeRange → CodeRange → Bool
meets a b = leb a.first b.last && leb b.first a.last

abbrev clear_of : CodeRange → List CodeRange → Bool
clear_of a [] = true
clear_of a (b ∷ ys) = not (meets a b) && clear_of a ys

abbrev pub apart : List CodeRange → Bool
apart [] = true
apart (a ∷ xs) = clear_of a xs && apart xs

abbrev pub alike : List CodeRange → List CodeRange → Bool
alike xs ys = (apart xs && apart ys) && (all_stand xs ys && all_stand ys xs)

not_clear : (a : CodeRange) (ys : List CodeRange) (code : ℕ) (n : FormatName) → clear_of a ys ≡ true
    → a.first ≤ code → code ≤ a.last → Names ys code n → ⊥
not_clear a [] code n e low high h = elim h [ ]
not_clear a (y ∷ ys) code n e low high (inl h) = grind (arith, nat_tests)
not_clear a (y ∷ ys) code n e low high (inr h) = not_clear a ys code n (and_parts _ _ e).1 low high h

-- where no two ranges meet, the first with the code is the only one
named : (xs : List CodeRange) (code : ℕ) (n : FormatName) → apart xs ≡ true → Names xs code n → name_in xs code ≡ Some n
unfolding name_in
named [] code n e h = elim h [ ]
named (a ∷ xs) code n e (inl h) =
    cond-true (leb a.first code && leb code a.last) _ _ (and_from _ _ (le-leb _ _ h.0) (le-leb _ _ h.1)) ∙ ap Some h.2
named (a ∷ xs) code n e (inr h) =
    let p = and_parts (clear_of a xs) (apart xs) e in
    ⊎_elim
    (λ (t : (leb a.first code && leb code a.last) ≡ true).
    let q = and_parts _ _ t in
    absurd (not_clear a xs code n p.0 (leb-true _ _ q.0) (leb-true _ _ q.1) h))
    (λ (f : (leb a.first code && leb code a.last) ≡ false).
    cond-false _ _ _ f ∙ named xs code n p.1 h)
    (cases_Bool (leb a.first code && leb code a.last))

names_of : (xs : List CodeRange) (code : ℕ) (n : FormatName) → name_in xs code ≡ Some n → Names xs code n
unfolding name_in
names_of [] code n e = let z : ◌≡◌ {A = ℕ} 0 1 = cc in omega arith
names_of (x ∷ xs) code n e =
    ⊎_elim
    (λ (t : (leb x.first code && leb code x.last) ≡ true).
    let q = and_parts _ _ t in
    let s : Some x.name ≡ Some n = sym (cond-true _ _ _ t) ∙ e in
    inl (leb-true _ _ q.0, leb-true _ _ q.1, (cc)))
    (λ (f : (leb x.first code && leb code x.last) ≡ false).
    inr (names_of xs code n (sym (cond-false _ _ _ f) ∙ e)))
    (cases_Bool (leb x.first code && leb code x.last))

names_where : (x : CodeRange) (ys : List CodeRange) (code : ℕ) → stands x ys ≡ true → x.first ≤ code → code ≤ x.last
    → Names ys code x.name
names_where x [] code e low high = absurd (both_ways false refl e)
names_where x (y ∷ ys) code e low high =
    ⊎_elim
    (λ (t : same x y ≡ true).
    let p = and_parts (eqb x.first y.first) (eqb x.last y.last && same_name x.name y.name) t in
    let q = and_parts (eqb x.last y.last) (same_name x.name y.name) p.1 in
    let first : x.first ≡ y.first = eqb-true x.first y.first p.0 in
    let last : x.last ≡ y.last = eqb-true x.last y.last q.0 in
    inl (omega arith, omega arith, sym (same_name_lem x.name y.name q.1)))
    (λ (t : stands x ys ≡ true). inr (names_where x ys code t low high))
    (or_cases (same x y) (stands x ys) e)

names_there : (xs ys : List CodeRange) (code : ℕ) (n : FormatName) → all_stand xs ys ≡ true → Names xs code n → Names ys code n
names_there [] ys code n e h = elim h [ ]
names_there (x ∷ xs) ys code n e (inl h) =
    let p = and_parts (stands x ys) (all_stand xs ys) e in
    subst (λ (m : FormatName). Names ys code m) h.2 (names_where x ys code p.0 h.0 h.1)
names_there (x ∷ xs) ys code n e (inr h) = names_there xs ys code n (and_parts (stands x ys) (all_stand xs ys) e).1 h

-- from one table to the other
moves : (xs ys : List CodeRange) (code : ℕ) (n : FormatName) → apart ys ≡ true → all_stand xs ys ≡ true
    → name_in xs code ≡ Some n → name_in ys code ≡ Some n
moves xs ys code n d e h = named ys code n d (names_there xs ys code n e (names_of xs code n h))

either : (a b : Option FormatName) → ((n : FormatName) → a ≡ Some n → b ≡ Some n) → ((n : FormatName) → b ≡ Some n → a ≡ Some n) → a ≡ b
either None None f g = refl
either None (Some n) f g = g n refl
either (Some n) b f g = sym (f n refl)

same_names : (xs ys : List CodeRange) → alike xs ys ≡ true → (code : ℕ) → name_in xs code ≡ name_in ys code
same_names xs ys e code =
    let p = and_parts (apart xs && apart ys) (all_stand xs ys && all_stand ys xs) e in
    let d = and_parts (apart xs) (apart ys) p.0 in
    let s = and_parts (all_stand xs ys) (all_stand ys xs) p.1 in
    either (name_in xs code) (name_in ys code) (λ n h. moves xs ys code n d.1 s.0 h) (λ n h. moves ys xs code n d.0 s.1 h)

pub unambiguous : (rows : List Row) → apart (ranges rows) ≡ true → Unambiguous rows
unambiguous rows e code m n hm hn =
    let a = named (ranges rows) code m e hm in
    let b = named (ranges rows) code n e hn in
    cc

abbrev is_admitted : FormatName → Bool
is_admitted (Linear bits) = is_pixel_size bits
is_admitted Paired = true
is_admitted (Block bytes) = is_block_size bytes

-- each name of a table says a size that its family has
abbrev pub all_admitted : List CodeRange → Bool
all_admitted [] = true
all_admitted (x ∷ xs) = is_admitted x.name && all_admitted xs

admits : (n : FormatName) → is_admitted n ≡ true → admitted n ≡ Some n
admits (Linear bits) e = cond-true (is_pixel_size bits) _ _ e
admits Paired e = refl
admits (Block bytes) e = cond-true (is_block_size bytes) _ _ e

admits_named : (xs : List CodeRange) (code : ℕ) (n : FormatName) → all_admitted xs ≡ true → Names xs code n → admitted n ≡ Some n
admits_named [] code n e h = elim h [ ]
admits_named (x ∷ xs) code n e (inl h) =
    subst (λ (m : FormatName). admitted m ≡ Some m) h.2 (admits x.name (and_parts (is_admitted x.name) (all_admitted xs) e).0)
admits_named (x ∷ xs) code n e (inr h) = admits_named xs code n (and_parts (is_admitted x.name) (all_admitted xs) e).1 h

admitted_in : (xs : List CodeRange) (code : ℕ) (o : Option FormatName) → all_admitted xs ≡ true → name_in xs code ≡ o → admitted_of o ≡ o
admitted_in xs code None e h = refl
admitted_in xs code (Some n) e h = admits_named xs code n e (names_of xs code n h)

-- a table in the code gives each code the format that the table of the rules gives it
pub follows_rule : (xs : List CodeRange) (rows : List Row) → alike xs (ranges rows) ≡ true → all_admitted xs ≡ true
    → (code : ℕ) → admitted_of (name_in xs code) ≡ name_for rows code
follows_rule xs rows a e code = admitted_in xs code (name_in xs code) e refl ∙ same_names xs (ranges rows) a code
