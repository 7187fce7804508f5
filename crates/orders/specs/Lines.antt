-- The lines of a text.
use Rattle.std.specs.Prelude.{◌≡◌, ℕ, ◌<◌, Bool, cond, List, [], ◌∷◌, length, ◌==◌}
use Rattle.std.specs.List.{slice_split}
use Rattle.orders.specs.declared.lines.Lines.{Lines}

-- the byte ends a line
abbrev pub is_end : ℕ → Bool
is_end b = b == 10

-- behind the last end of a line there is no further line
abbrev pub less_empty_end : List (List ℕ) → List (List ℕ)
less_empty_end [] = []
less_empty_end (l ∷ []) = cond (length l == 0) [] (l ∷ [])
less_empty_end (l ∷ m ∷ ls) = l ∷ less_empty_end (m ∷ ls)

-- the lines of a text: byte 0A ends a line, and the last may do without it
abbrev pub lines_of : List ℕ → List (List ℕ)
lines_of text = less_empty_end (slice_split is_end text)

-- what is left of lines that are read one after the other
abbrev pub lines_left : Lines → List (List ℕ)
lines_left ls = lines_of ls.rest.now

-- a text that is not empty begins with a line, and what follows the line is shorter
abbrev pub Begins : List ℕ → List ℕ → List ℕ → Type 0
Begins text line after = 0 < length text → (lines_of text ≡ line ∷ lines_of after) × (length after < length text)
