-- How the marks of all loans are counted in one pass over the marks.
use Rattle.std.specs.Prelude.{◌≡◌, ℕ, ◌<◌, Bool, true, false, ◌&&◌, List, [], ◌∷◌, length, Some, None, Option, ◌==◌, slice_index, slice_index_or}
use Rattle.loans.specs.declared.loan.Loan.{Loan}
use Rattle.loans.specs.declared.mark.Mark.{Mark}
use Rattle.loans.specs.Ledgers.{no_loan}
use Rattle.loans.specs.Stocks.{marks_of, lengths, is_sound, all_sound}
use Rattle.loans.specs.steps.Finding.{IsAt}

-- the position of a sound mark's loan
abbrev pub SoundAt : List Loan → Mark → Option ℕ → Type 0
SoundAt ls m (Some k) = (is_sound ls m ≡ true) × IsAt ls m.loan k
SoundAt ls m None = is_sound ls m ≡ false

-- how many marks the loan at each position has, where all marks are sound and together cover so many bytes
pub record Tally (ls : List Loan) (ms : List Mark) (n : ℕ) (counts : List ℕ) : Type 0 where
  pub sound : all_sound ls ms ≡ true
  pub covered : lengths ms ≡ n
  pub size : length counts ≡ 32
  pub counted : (k : ℕ) → k < length ls → slice_index counts k ≡ marks_of (slice_index_or ls k no_loan).number ms

-- the counts of the marks; none where a mark is not sound or they do not cover so many bytes together
abbrev pub Tallied : List Loan → List Mark → ℕ → Option (List ℕ) → Type 0
Tallied ls ms n (Some counts) = Tally ls ms n counts
Tallied ls ms n None = (all_sound ls ms && lengths ms == n) ≡ false

-- each loan has as many strokes as were counted at its position
abbrev pub agree : List Loan → List ℕ → Bool
agree [] cs = true
agree (l ∷ ls) [] = false
agree (l ∷ ls) (c ∷ cs) = l.strokes == c && agree ls cs
