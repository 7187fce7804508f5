-- The pieces of a file by number, in the order of the file.
use Rattle.std.specs.Prelude.{◌≡◌, ℕ, zero, suc, ◌+◌, ◌<◌, ◌≤◌, List, Some, None, Option, map, drop, slice_index_or}
use Rattle.std.specs.List.{slice_get}
use Rattle.std.specs.Option.{option_map}
use Rattle.dds.specs.declared.layout.Layout.{Layout}
use Rattle.dds.specs.declared.level.Level.{Level}
use Rattle.dds.specs.declared.piece.Piece.{Piece}
use Rattle.dds.specs.declared.pieces.Pieces.{Pieces}
use Rattle.dds.specs.Pieces.{Placed}
use Rattle.dds.specs.Layouts.{pieces_in}
use Rattle.dds.specs.Tables.{blank}

-- the pieces of the first levels of an element
abbrev pub count_at : (ℕ → ℕ) → ℕ → ℕ
count_at slices zero = 0
count_at slices (suc level) = count_at slices level + slices level

-- a level, and a slice of it
abbrev pub SliceOf : List Level → ℕ → ℕ → Option (ℕ × ℕ) → Type 0
SliceOf levels count n (Some ls) =
    (ls.0 < count) × (ls.1 < (slice_index_or levels ls.0 blank).slices) × (n ≡ count_at (λ k. (slice_index_or levels k blank).slices) ls.0 + ls.1)
SliceOf levels count n None = count_at (λ k. (slice_index_or levels k blank).slices) count ≤ n

-- the pieces of a layout by their numbers, in the order of the file
abbrev pub names_in : Layout → List Piece
names_in layout = map (λ (x : Placed). x.piece) (pieces_in layout)

-- those that an iterator has still to come to
abbrev pub pieces_left : Pieces → List Piece
pieces_left pieces = drop pieces.next (names_in pieces.layout.now)

-- the piece with that number in the layout's list
abbrev pub piece_numbered : Layout → ℕ → Option Piece
piece_numbered layout n = option_map (λ (x : Placed). x.piece) (slice_get (pieces_in layout) n)
