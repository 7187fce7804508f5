-- Counting the marks of all loans in one pass.
use Rattle.std.proofs.Common.{◌≡◌, ℕ, zero, suc, ◌+◌, ◌<◌, ◌≤◌, Bool, true, false, cond, ◌&&◌, eqb, ◌≢◌, List, [], ◌∷◌, length, get_or, drop, set, sym, refl, ap, ◌∙◌, subst, ⊎_elim, arith, length-set, get_or-set_other, get_or-set_same}
use Rattle.std.specs.List.{list_all, zip}
use Rattle.std.proofs.lemmas.List.{at_drop_more, at_drop_all}
use Rattle.std.proofs.lemmas.List.Sums.{count_by-le-length}
use Rattle.std.proofs.lemmas.Bool.{eqb-true, and_parts, cases_order, cond-true, cond-false, eq-eqb, ne_eqb, and_left, and_right}
use Rattle.loans.specs.declared.loan.Loan.{Loan}
use Rattle.loans.specs.declared.mark.Mark.{Mark}
use Rattle.loans.specs.Ledgers.{NumbersRise, no_loan}
use Rattle.loans.specs.Stocks.{marks_of, lengths, is_sound, all_sound, of_loan, all_counted}
use Rattle.loans.specs.steps.Finding.{IsAt}
use Rattle.loans.specs.steps.Tallies.{Tally, agree}
use Rattle.loans.specs.steps.Taking.{no_mark}
use Rattle.loans.proofs.Marks.{marks_from, lengths_from}

pub marks_few : (n : ℕ) (ms : List Mark) → marks_of n ms ≤ length ms
marks_few n ms = count_by-le-length (of_loan n) ms

-- counts that begin at zero
abbrev are_zero : List ℕ → Bool
are_zero [] = true
are_zero (c ∷ cs) = eqb c 0 && are_zero cs

at_zero : (cs : List ℕ) → are_zero cs ≡ true → (k : ℕ) → get_or cs k 0 ≡ 0
at_zero [] h k = refl
at_zero (c ∷ cs) h zero = eqb-true c 0 (and_parts _ _ h).0
at_zero (c ∷ cs) h (suc k) = at_zero cs (and_parts _ _ h).1 k

-- after the first i marks: what is left of the covered bytes, and the counts
pub record Passed (ls : List Loan) (ms : List Mark) (n i left : ℕ) (counts : List ℕ) : Type 0 where
  pub sound : all_sound ls (drop i ms) ≡ all_sound ls ms
  pub covered : lengths ms + left ≡ n + lengths (drop i ms)
  pub size : length counts ≡ 32
  pub counted : (k : ℕ) → k < length ls → get_or counts k 0 + marks_of (get_or ls k no_loan).number (drop i ms) ≡ marks_of (get_or ls k no_loan).number ms

module _ {ls : List Loan} {ms : List Mark} {n : ℕ} where
  pub passed_none : (counts : List ℕ) → length counts ≡ 32 → are_zero counts ≡ true → Passed ls ms n 0 n counts
  passed_none counts size zeros = record {
    sound = refl;
    covered = omega arith;
    size = size;
    counted = λ k h. omega (arith, at_zero counts zeros k);
  }

  module _ {i left : ℕ} {counts : List ℕ} (p : Passed ls ms n i left counts) where
    -- where all marks were passed and no byte is left
    pub passed_all : length ms ≤ i → left ≡ 0 → Tally ls ms n counts
    passed_all h z = record {
      sound = sym p.sound ∙ at_drop_all (all_sound ls) ms i h;
      covered = omega (arith, p.covered, at_drop_all lengths ms i h);
      size = p.size;
      counted = λ k f. omega (arith, p.counted k f, at_drop_all (marks_of (get_or ls k no_loan).number) ms i h);
    }

    pub passed_more : length ms ≤ i → 0 < left → (all_sound ls ms && eqb (lengths ms) n) ≡ false
    passed_more h z = and_right (all_sound ls ms) _ (ne_eqb (lengths ms) n (λ e. omega (arith, p.covered, at_drop_all lengths ms i h)))

    module _ {m : Mark} (inside : i < length ms) (here : get_or ms i no_mark ≡ m) where
      sound_step : all_sound ls (drop i ms) ≡ (is_sound ls m && all_sound ls (drop (i + 1) ms))
      sound_step = at_drop_more (all_sound ls) ms i no_mark inside ∙ ap (λ x. is_sound ls x && all_sound ls (drop (i + 1) ms)) here

      length_step : lengths (drop i ms) ≡ m.length + lengths (drop (i + 1) ms)
      length_step = lengths_from ms i no_mark inside ∙ ap (λ (x : Mark). x.length + lengths (drop (i + 1) ms)) here

      marks_step : (x : ℕ) → marks_of x (drop i ms) ≡ cond (of_loan x m) (suc (marks_of x (drop (i + 1) ms))) (marks_of x (drop (i + 1) ms))
      marks_step x =
          marks_from x ms i no_mark inside
          ∙ ap (λ y. cond (of_loan x y) (suc (marks_of x (drop (i + 1) ms))) (marks_of x (drop (i + 1) ms))) here

      pub unsound : is_sound ls m ≡ false → (all_sound ls ms && eqb (lengths ms) n) ≡ false
      unsound e = and_left _ _ (sym p.sound ∙ sound_step ∙ and_left _ _ e)

      pub too_long : (m.length ≤ left → ⊥) → (all_sound ls ms && eqb (lengths ms) n) ≡ false
      too_long h = and_right (all_sound ls ms) _ (ne_eqb (lengths ms) n (λ e. h (omega (arith, p.covered, length_step))))

      module _ {k : ℕ} (rising : NumbersRise ls) (at : IsAt ls m.loan k) where
        -- the count at a position after one mark of the loan at k
        other : (j : ℕ) → j < length ls → j ≢ k → (get_or ls j no_loan).number ≢ m.loan
        other j h ne e =
            ⊎_elim (λ (same : j ≡ k). ne same)
            (⊎_elim (λ (less : j < k). omega (arith, rising j k less at.inside, at.number))
            (λ (more : k < j). omega (arith, rising k j more h, at.number)))
            (cases_order j k)

        count_here : get_or counts k 0 + 1 + marks_of (get_or ls k no_loan).number (drop (i + 1) ms) ≡ marks_of (get_or ls k no_loan).number ms
        count_here =
            let x : ℕ = (get_or ls k no_loan).number in
            let s = marks_step x ∙ cond-true (of_loan x m) _ _ (eq-eqb x m.loan at.number) in
            omega (arith, s, p.counted k at.inside)

        count_other : (j : ℕ) → j < length ls → j ≢ k → get_or counts j 0 + marks_of (get_or ls j no_loan).number (drop (i + 1) ms) ≡ marks_of (get_or ls j no_loan).number ms
        count_other j h ne =
            let x : ℕ = (get_or ls j no_loan).number in
            let s = marks_step x ∙ cond-false (of_loan x m) _ _ (ne_eqb x m.loan (other j h ne)) in
            omega (arith, s, p.counted j h)

        pub few_counted : length ms ≤ 1073741824 → get_or counts k 0 < 1073741824
        few_counted h = omega (arith, count_here, marks_few (get_or ls k no_loan).number ms)

        pub passed_one : is_sound ls m ≡ true → m.length ≤ left → (left' : ℕ) → left' + m.length ≡ left → length ls ≤ 32
            → Passed ls ms n (i + 1) left' (set counts k (get_or counts k 0 + 1))
        passed_one e h left' lessens few = record {
          sound = sym (sound_step ∙ ap (λ b. b && all_sound ls (drop (i + 1) ms)) e) ∙ p.sound;
          covered = omega (arith, p.covered, length_step);
          size = length-set _ _ _ ∙ p.size;
          counted = λ j f.
              ⊎_elim
              (λ (same : j ≡ k).
              subst (λ y. get_or (set counts k (get_or counts k 0 + 1)) y 0 + marks_of (get_or ls y no_loan).number (drop (i + 1) ms) ≡ marks_of (get_or ls y no_loan).number ms) (sym same)
              (omega (arith, count_here, get_or-set_same counts k (get_or counts k 0 + 1) 0 (omega (arith, p.size, at.inside)))))
              (⊎_elim
              (λ (less : j < k). let ne : j ≢ k = omega arith in omega (arith, count_other j f ne, get_or-set_other counts k j (get_or counts k 0 + 1) 0 ne))
              (λ (more : k < j). let ne : j ≢ k = omega arith in omega (arith, count_other j f ne, get_or-set_other counts k j (get_or counts k 0 + 1) 0 ne)))
              (cases_order j k);
        }

-- each loan agrees with its count
pub agree_all : (ls : List Loan) (cs : List ℕ) → length ls ≤ length cs → list_all (λ (p : Loan × ℕ). eqb p.0.strokes p.1) (zip ls cs) ≡ agree ls cs
agree_all [] cs few = refl
agree_all (l ∷ ls) [] few = absurd (omega arith)
agree_all (l ∷ ls) (c ∷ cs) few = ap (λ b. eqb l.strokes c && b) (agree_all ls cs (omega arith))

-- counts that are a tally agree with the loans where each loan's strokes are its marks
pub agree_counted : (ls : List Loan) (cs : List ℕ) (ms : List Mark) → length ls ≤ length cs
    → ((k : ℕ) → k < length ls → get_or cs k 0 ≡ marks_of (get_or ls k no_loan).number ms) → agree ls cs ≡ all_counted ls ms
agree_counted [] cs ms few h = refl
agree_counted (l ∷ ls) [] ms few h = absurd (omega arith)
agree_counted (l ∷ ls) (c ∷ cs) ms few h =
    let here : c ≡ marks_of l.number ms = h 0 (omega arith) in
    let rest = agree_counted ls cs ms (omega arith) (λ k f. h (suc k) (omega arith)) in
    ap (λ x. eqb l.strokes x && agree ls cs) here ∙ ap (λ b. eqb l.strokes (marks_of l.number ms) && b) rest
