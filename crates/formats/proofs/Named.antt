-- The name that a table gives a code is that of the first range which has it.
use Rattle.std.proofs.Common.{◌≡◌, ℕ, List, [], ◌∷◌, find, refl, arith}
use Rattle.std.proofs.lemmas.Bool.Decides.{nat_tests}
use Rattle.std.specs.Option.{option_map}
use Rattle.formats.specs.Codes.{name_in, has_code}
use Rattle.formats.specs.declared.tables.CodeRange.{CodeRange}

pub name_found : (xs : List CodeRange) (code : ℕ) → name_in xs code ≡ option_map (λ (r : CodeRange). r.name) (find (has_code code) xs)
unfolding name_in
name_found [] code = refl
name_found (x ∷ xs) code = grind (arith, nat_tests, name_found xs code)
