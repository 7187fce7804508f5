-- Lists and tests of their elements.
use Rattle.std.specs.Prelude.{Bool, cond, not, List, [], ◌∷◌, filter}

module _ {A : Type 0} where
  -- a list without the first element that passes a test
  abbrev pub less_first : (A → Bool) → List A → List A
  less_first p [] = []
  less_first p (x ∷ xs) = cond (p x) xs (x ∷ less_first p xs)

  -- a list without the elements that pass a test
  abbrev pub less_all : (A → Bool) → List A → List A
  less_all p xs = filter (λ x. not (p x)) xs
