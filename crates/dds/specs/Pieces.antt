-- Which pieces a file has, in which order, where they stand and how long they are.
use Rattle.std.specs.Prelude.{◌≡◌, ℕ, zero, suc, ◌+◌, ◌*◌, ◌<◌, ◌⊎◌, List, [], ◌∷◌, ◌++◌}
use Rattle.dds.specs.declared.piece.Piece.{Piece}
use Rattle.dds.specs.Plans.{Plan, stride_of}

-- a piece, the place of its first byte in the file, and its length
pub record Placed : Type 0 where
  pub piece : Piece
  pub place : ℕ
  pub length : ℕ

-- a piece exists where element, level and slice are in range
abbrev pub Exists : Plan → Piece → Type 0
Exists plan p = (p.element < plan.elements) × (p.level < plan.levels) × (p.slice < plan.slices p.level)

-- by element, then by level, then by slice
abbrev pub Before : Piece → Piece → Type 0
Before p q =
    (p.element < q.element) ⊎ ((p.element ≡ q.element) × ((p.level < q.level) ⊎ ((p.level ≡ q.level) × (p.slice < q.slice))))

-- the piece stands in the list
abbrev pub Lists : List Placed → Piece → Type 0
Lists [] p = ⊥
Lists (x ∷ xs) p = (x.piece ≡ p) ⊎ Lists xs p

-- each piece comes before all that follow it
abbrev pub Rising : List Placed → Type 0
Rising [] = Unit {0}
Rising (x ∷ xs) = ((p : Piece) → Lists xs p → Before x.piece p) × Rising xs

-- each piece has the length of its level's images
abbrev pub Sized : (ℕ → ℕ) → List Placed → Type 0
Sized size [] = Unit {0}
Sized size (x ∷ xs) = (x.length ≡ size x.piece.level) × Sized size xs

-- the first begins here, each next where the one before it ends, and the last ends there
abbrev pub Touching : ℕ → List Placed → ℕ → Type 0
Touching here [] there = here ≡ there
Touching here (x ∷ xs) there = (x.place ≡ here) × Touching (here + x.length) xs there

-- the list has exactly the pieces of the plan, rising, each of its length, touching, from where pixel data begin to n
pub record FitsPlan (plan : Plan) (n : ℕ) (ps : List Placed) : Type 0 where
  pub every : (p : Piece) → Exists plan p → Lists ps p
  pub only : (p : Piece) → Lists ps p → Exists plan p
  pub rising : Rising ps
  pub sized : Sized plan.size ps
  pub touching : Touching plan.begin ps n

-- a piece, by its three numbers
abbrev pub piece_of : ℕ → ℕ → ℕ → Piece
piece_of e l s = record { element = e; level = l; slice = s }

-- so many slices of a level, from one on
abbrev pub slices_from : ℕ → ℕ → ℕ → ℕ → ℕ → ℕ → List Placed
slices_from size element level slice zero here = []
slices_from size element level slice (suc k) here =
    record { piece = piece_of element level slice; place = here; length = size } ∷ slices_from size element level (suc slice) k (here + size)

-- so many levels of an element, from one on
abbrev pub levels_from : Plan → ℕ → ℕ → ℕ → ℕ → List Placed
levels_from plan element level zero here = []
levels_from plan element level (suc k) here =
    slices_from (plan.size level) element level 0 (plan.slices level) here
    ++ levels_from plan element (suc level) k (here + plan.slices level * plan.size level)

-- so many elements, from one on
abbrev pub elements_from : Plan → ℕ → ℕ → ℕ → List Placed
elements_from plan element zero here = []
elements_from plan element (suc k) here =
    levels_from plan element 0 plan.levels here ++ elements_from plan (suc element) k (here + stride_of plan)

-- the pieces of a plan, slice after slice, level after level, element after element
unfoldable pub pieces_of : Plan → List Placed
pieces_of plan = elements_from plan 0 plan.elements plan.begin
