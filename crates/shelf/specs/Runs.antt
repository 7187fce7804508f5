-- Lists with a run of their elements taken off or moved.
use Rattle.std.specs.Prelude.{ℕ, ◌+◌, List, ◌++◌, take, drop}

module _ {X : Type 0} where
  -- a list without the run of so many elements at a position
  abbrev pub without_run : ℕ → ℕ → List X → List X
  without_run position count xs = take position xs ++ drop (position + count) xs

  -- a list whose run of so many elements at one position was copied over those at another
  abbrev pub slid_down : ℕ → ℕ → ℕ → List X → List X
  slid_down from count to xs = take to xs ++ take count (drop from xs) ++ drop (to + count) xs
