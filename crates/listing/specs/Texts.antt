-- The lines that tell of a file and its pieces, as text.
use Rattle.std.specs.Prelude.{ℕ, ◌-◌, ◌^◌, false, List, [], ◌∷◌, ◌++◌, map, zip, Some, None, codes, decimal}
use Rattle.std.specs.Fmt.{padded_integral, format_spec}
use Rattle.std.specs.List.{join_with_byte}
use Rattle.formats.specs.Texts.{name_text}
use Rattle.dds.specs.Texts.{source_text, shape_text, piece_text}
use Rattle.listing.specs.declared.facts.Facts.{Facts}
use Rattle.listing.specs.declared.owner.Owner.{Owner}
use Rattle.listing.specs.declared.row.Row.{Row}

-- source and format, shape, sides of the first level, levels
abbrev pub facts_text : Facts → List ℕ
facts_text facts =
    source_text facts.source ++ (codes ", " ++ (name_text facts.format ++ (codes ", " ++ (shape_text facts.shape ++ (codes ", "
    ++ (decimal facts.width ++ (codes " x " ++ (decimal facts.height ++ (codes ", levels " ++ decimal facts.levels)))))))))

-- a text at the right end of a column so wide, with blanks before it
abbrev pub at_right : ℕ → List ℕ → List ℕ
at_right width = padded_integral (format_spec 32 3 0 width (2 ^ 64 - 1)) false []

-- texts below their headings, between blanks
abbrev pub in_columns : List (List ℕ) → List ℕ
in_columns texts = join_with_byte 32 (map (λ cell. at_right cell.0 cell.1) (zip (7 ∷ 5 ∷ 5 ∷ 5 ∷ 6 ∷ 10 ∷ 10 ∷ 9 ∷ 5 ∷ []) texts))

-- what stands in each column
abbrev pub heading_text : List ℕ
heading_text =
    in_columns (map codes ("element" ∷ "level" ∷ "slice" ∷ "width" ∷ "height" ∷ "place" ∷ "length" ∷ "row-bytes" ∷ "rows" ∷ []))

-- nine numbers in their columns
abbrev pub row_text : Row → List ℕ
row_text row =
    in_columns (map decimal (row.piece.element ∷ row.piece.level ∷ row.piece.slice ∷ row.width ∷ row.height
    ∷ row.area.place ∷ row.area.length ∷ row.area.row_bytes ∷ row.area.rows ∷ []))

-- a piece and the offset in it
abbrev pub owner_text : Owner → List ℕ
owner_text owner = elim owner.0 [
  | None ↦ codes "header"
  | Some byte ↦ piece_text byte.0 ++ (codes " " ++ decimal byte.1)
]
