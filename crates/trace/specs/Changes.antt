-- The runs of bytes in which two files differ.
use Rattle.std.specs.Prelude.{◌≡◌, ◌≢◌, ◌↔◌, ℕ, zero, suc, ◌+◌, ◌-◌, ◌<◌, ◌≤◌, max, Bool, not, cond, List, [], ◌∷◌, length, nat_eq, ◌==◌, slice_get, Some, None, Option}
use Rattle.std.specs.List.{All, Any, AllPairs, sum_by, count_by, range_with_len}
use Rattle.std.specs.Option.{option_eq}
use Rattle.trace.specs.declared.change.Change.{Change}
use Rattle.trace.specs.declared.changes.Changes.{Changes}

-- whether the byte at a place differs, or only one file has one
abbrev pub is_changed : List ℕ → List ℕ → ℕ → Bool
is_changed before after place = not (option_eq nat_eq (slice_get before place) (slice_get after place))

-- the byte at a place is one of the run's
abbrev pub Spans : Change → ℕ → Type 0
Spans c place = (c.place ≤ place) × (place < c.place + c.length)

-- how many bytes differ, or are only in one file
abbrev pub changed_count : List ℕ → List ℕ → ℕ
changed_count before after =
    count_by (is_changed before after) (range_with_len 0 (max (length before) (length after)))

-- what the runs of changed bytes are
pub record AreChanges (before after : List ℕ) (cs : List Change) : Type 0 where
  -- a place lies in one exactly where the two files' bytes differ, or only one file has a byte
  pub differ : (place : ℕ)
      → Any (λ c. Spans c place) cs ↔ (slice_get before place ≢ slice_get after place)
  -- none is empty
  pub filled : All (λ c. 0 < c.length) cs
  -- they come in rising order and do not touch: a place between two lies in none
  pub apart : AllPairs (λ c d. c.place + c.length < d.place) cs
  -- together they have as many bytes as changed
  pub total : sum_by (λ (c : Change). c.length) cs ≡ changed_count before after

-- a changed place before runs: the first of them grows by it where it begins right behind it
abbrev pub led_by : ℕ → List Change → List Change
led_by place [] = record { place = place; length = 1 } ∷ []
led_by place (c ∷ cs) =
    cond (c.place == place + 1)
    (record { place = place; length = c.length + 1 } ∷ cs)
    (record { place = place; length = 1 } ∷ c ∷ cs)

-- the runs of places that pass a test, of so many places from one on
abbrev pub runs_of : (ℕ → Bool) → ℕ → ℕ → List Change
runs_of p place zero = []
runs_of p place (suc n) =
    cond (p place) (led_by place (runs_of p (place + 1) n)) (runs_of p (place + 1) n)

-- of the runs from one place up to another, the first, behind which the others are left; or there are none
abbrev pub IsFirstRun : (ℕ → Bool) → ℕ → ℕ → Option Change → Type 0
IsFirstRun p a b None = runs_of p a (b - a) ≡ []
IsFirstRun p a b (Some c) =
    (c.place + c.length ≤ b)
    × (runs_of p a (b - a) ≡ c ∷ runs_of p (c.place + c.length) (b - (c.place + c.length)))

-- what is left of changes that are read one after the other
abbrev pub changes_left : Changes → List Change
changes_left cs =
    runs_of (is_changed cs.before.now cs.after.now) cs.next
    (max (length cs.before.now) (length cs.after.now) - cs.next)
