-- What a shelf holds and how much it can hold, and what else stands in the memory lent to it.
use Rattle.std.specs.Prelude.{◌≡◌, ℕ, ◌+◌, ◌≤◌, min, List, length}

-- its elements, in order; how many it can hold; and what stands past them in the memory, which is no element
pub record Held (X : Type 0) : Type 0 where
  pub items : List X
  pub most : ℕ
  pub spare : List X

-- how many elements its memory has
abbrev pub memory_of : {X : Type 0} → Held X → ℕ
memory_of s = length s.items + length s.spare

-- it holds no more than it can: as much as its memory, and at most 1,073,741,824
pub record IsBounded {X : Type 0} (s : Held X) : Type 0 where
  pub count : length s.items ≤ s.most
  pub most : s.most ≡ min (memory_of s) 1073741824
