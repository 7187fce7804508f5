-- How an order is spelled: by one line, and no other.
use Rattle.std.specs.Prelude.{ℕ, ◌<◌, ◌^◌, ◌/◌, ◌%◌, false, List, [], ◌∷◌, ◌++◌, map, length, decimal}
use Rattle.std.specs.Fmt.{digit_glyph}
use Rattle.std.specs.List.{All, flat_map, join_with_byte}
use Rattle.dds.specs.declared.piece.Piece.{Piece}
use Rattle.loans.specs.Strokes.{Painting}

-- an order as its line tells it, a paint with the bytes that it lays
pub data Instruction : Type 0 where
  lend : Piece → ℕ → Instruction
  lend_element : ℕ → ℕ → Instruction
  paint : Painting → Instruction
  undo : ℕ → ℕ → Instruction
  keep : ℕ → Instruction
  cancel : ℕ → Instruction

-- the letter of a line, by its code: 76 is L, 80 is P, 85 is U, 75 is K, 67 is C
abbrev pub letter : Instruction → ℕ
letter (lend p who) = 76
letter (lend_element e who) = 76
letter (paint p) = 80
letter (undo n who) = 85
letter (keep n) = 75
letter (cancel n) = 67

-- the numbers of a line, in their order
abbrev pub numbers : Instruction → List ℕ
numbers (lend p who) = p.element ∷ p.level ∷ p.slice ∷ who ∷ []
numbers (lend_element e who) = e ∷ who ∷ []
numbers (paint p) = p.loan ∷ p.borrower ∷ p.row ∷ p.first ∷ []
numbers (undo n who) = n ∷ who ∷ []
numbers (keep n) = n ∷ []
numbers (cancel n) = n ∷ []

-- the two hex digits of a byte, in small letters
abbrev pub hex_pair : ℕ → List ℕ
hex_pair b = digit_glyph false (b / 16) ∷ digit_glyph false (b % 16) ∷ []

-- a paint has one word more: the digits of its bytes
abbrev pub digits : Instruction → List (List ℕ)
digits (lend p who) = []
digits (lend_element e who) = []
digits (paint p) = flat_map hex_pair p.laid ∷ []
digits (undo n who) = []
digits (keep n) = []
digits (cancel n) = []

-- the words of a line: the letter, each number in base ten without leading zeros, the digits
abbrev pub words : Instruction → List (List ℕ)
words o = (letter o ∷ []) ∷ map decimal (numbers o) ++ digits o

-- the line: its words, with one space, which is 32, between two
abbrev pub spelling : Instruction → List ℕ
spelling o = join_with_byte 32 (words o)

-- a paint lays at least one byte, each of eight bits
abbrev pub LaysBytes : Instruction → Type 0
LaysBytes (lend p who) = Unit {0}
LaysBytes (lend_element e who) = Unit {0}
LaysBytes (paint p) = (0 < length p.laid) × All (λ b. b < 256) p.laid
LaysBytes (undo n who) = Unit {0}
LaysBytes (keep n) = Unit {0}
LaysBytes (cancel n) = Unit {0}

-- an order that a line can tell: its numbers have 32 bits, and a paint lays bytes
pub record IsOrder (o : Instruction) : Type 0 where
  pub numbers : All (λ n. n < 2 ^ 32) (numbers o)
  pub bytes : LaysBytes o
