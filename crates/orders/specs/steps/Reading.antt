-- How a line is read, word by word: what the private functions of reading do. No public contract cites this.
use Rattle.std.specs.Prelude.{ℕ, Bool, cond, List, [], ◌∷◌, Some, None, Option, ◌==◌}
use Rattle.std.specs.List.{slice_split}
use Rattle.std.specs.Option.{option_map, option_and_then}
use Rattle.dds.specs.Pieces.{piece_of}
use Rattle.loans.specs.Strokes.{painting_on}
use Rattle.orders.specs.Spelling.{Instruction}
use Rattle.orders.specs.Spelling.Instruction.{lend, lend_element, paint, undo, keep, cancel}
use Rattle.orders.specs.Words.{value_at, hex_bytes_at}

-- the byte is a space
abbrev pub is_space : ℕ → Bool
is_space b = b == 32

-- goes on with the number that a word spells, if it spells one
abbrev pub with_number : {A : Type 0} → List ℕ → (ℕ → Option A) → Option A
with_number word rest = option_and_then rest (value_at word)

-- the order of an L line, by its words behind the letter
abbrev pub loan_at : List (List ℕ) → Option Instruction
loan_at (e ∷ l ∷ s ∷ who ∷ []) =
    with_number e (λ e. with_number l (λ l. with_number s (λ s. with_number who (λ who. Some (lend (piece_of e l s) who)))))
loan_at (e ∷ who ∷ []) = with_number e (λ e. with_number who (λ who. Some (lend_element e who)))
loan_at ws = None

-- of a P line
abbrev pub paint_at : List (List ℕ) → Option Instruction
paint_at (n ∷ who ∷ r ∷ f ∷ ds ∷ []) =
    with_number n (λ n. with_number who (λ who. with_number r (λ r. with_number f (λ f.
    option_and_then (λ bytes. Some (paint (painting_on n who r f bytes))) (hex_bytes_at ds)))))
paint_at ws = None

-- of a U line
abbrev pub undo_at : List (List ℕ) → Option Instruction
undo_at (n ∷ who ∷ []) = with_number n (λ n. with_number who (λ who. Some (undo n who)))
undo_at ws = None

-- the number of a line that has only one, as K and C lines have
abbrev pub only_at : List (List ℕ) → Option ℕ
only_at (n ∷ []) = value_at n
only_at ws = None

-- the order of a line, by its letter (L, P, U, K, C) and the words behind it
abbrev pub order_of : ℕ → List (List ℕ) → Option Instruction
order_of c ws =
    cond (c == 76) (loan_at ws)
    (cond (c == 80) (paint_at ws)
    (cond (c == 85) (undo_at ws)
    (cond (c == 75) (option_map keep (only_at ws))
    (cond (c == 67) (option_map cancel (only_at ws)) None))))

-- by its first word, which is one letter, and the words behind it
abbrev pub by_letter : List ℕ → List (List ℕ) → Option Instruction
by_letter (c ∷ []) ws = order_of c ws
by_letter w ws = None

-- by its words
abbrev pub by_words : List (List ℕ) → Option Instruction
by_words [] = None
by_words (w ∷ ws) = by_letter w ws

-- the order that a line tells
abbrev pub order_at : List ℕ → Option Instruction
order_at line = by_words (slice_split is_space line)
