-- What the words of a line spell: decimal numbers and hex digits.
use Rattle.std.specs.Prelude.{ℕ, ◌+◌, ◌-◌, ◌*◌, ◌%◌, ◌^◌, Bool, true, false, ◌&&◌, ◌||◌, not, cond, List, [], ◌∷◌, length, Some, None, Option, nat_le, nat_lt, ◌==◌}
use Rattle.std.specs.Borrow.{Bor}
use Rattle.std.specs.List.{list_all}
use Rattle.std.specs.Char.{is_ascii_digit}
use Rattle.std.specs.Str.Parse.{digits_value}

-- some digits, and no zero in front of another
abbrev pub is_plain : List ℕ → Bool
is_plain [] = false
is_plain (d ∷ []) = true
is_plain (d ∷ e ∷ ds) = not (d == 48)

-- the number that a word spells in base ten; none where it has another character than digits, where a zero leads, or from 2^32 on
abbrev pub value_at : List ℕ → Option ℕ
value_at word =
    cond (is_plain word && list_all is_ascii_digit word)
    (cond (nat_lt (digits_value 10 word) (2 ^ 32)) (Some (digits_value 10 word)) None) None

-- one of the characters 0-9 and a-f
abbrev pub is_hex : ℕ → Bool
is_hex d = (nat_le 48 d && nat_le d 57) || (nat_le 97 d && nat_le d 102)

-- pairs of hex digits, at least one
abbrev pub are_pairs : List ℕ → Bool
are_pairs ds = not (length ds == 0) && (length ds % 2 == 0 && list_all is_hex ds)

-- what a hex digit counts
abbrev pub nibble : ℕ → ℕ
nibble d = cond (nat_lt d 97) (d - 48) (d - 97 + 10)

-- the bytes that pairs of digits spell
abbrev pub hex_bytes : List ℕ → List ℕ
hex_bytes [] = []
hex_bytes (h ∷ []) = []
hex_bytes (h ∷ l ∷ ds) = (nibble h * 16 + nibble l) ∷ hex_bytes ds

-- the bytes that a word spells; none where it is not pairs of digits
abbrev pub hex_bytes_at : List ℕ → Option (List ℕ)
hex_bytes_at ds = cond (are_pairs ds) (Some (hex_bytes ds)) None

-- the bytes of a part of a text, which stay in the text
abbrev pub now_of : Bor (List ℕ) → List ℕ
now_of part = part.now
