-- Letters and digits are text.
use Rattle.std.proofs.Common.{◌≡◌, ℕ, zero, suc, List, [], ◌∷◌, true, arith}
use Rattle.std.specs.Char.{is_ascii_alphanumeric}
use Rattle.std.specs.List.{list_all}
use Rattle.std.specs.Str.{IsAscii, IsUtf8}
use Rattle.std.proofs.lemmas.Str.{IsUtf8-from_ascii}
use Rattle.std.proofs.lemmas.Bool.{and_parts}
use Rattle.std.proofs.lemmas.Bool.Decides.{nat_tests}

ascii : (bytes : List ℕ) → list_all is_ascii_alphanumeric bytes ≡ true → IsAscii bytes
ascii [] e i = grind arith
ascii (b ∷ bytes) e zero = grind (arith, nat_tests)
ascii (b ∷ bytes) e (suc i) = ascii bytes (and_parts (is_ascii_alphanumeric b) (list_all is_ascii_alphanumeric bytes) e).1 i

pub letters_are_text : (bytes : List ℕ) → list_all is_ascii_alphanumeric bytes ≡ true → IsUtf8 bytes
letters_are_text bytes e = IsUtf8-from_ascii bytes (ascii bytes e)
