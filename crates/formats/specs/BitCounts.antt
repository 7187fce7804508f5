-- Which format pixel flags and a bit count mean, where no code decides.
use Rattle.std.specs.Prelude.{ℕ, Bool, cond, not, ◌&&◌, [], ◌∷◌, Some, None, Option, ◌==◌, bit_and}
use Rattle.std.specs.List.{list_any}
use Rattle.formats.specs.declared.format_name.FormatName.{FormatName}
use Rattle.formats.specs.declared.format_name.FormatName.TheVariants.{Linear}

-- some bit of the mask is set
abbrev pub is_set : ℕ → ℕ → Bool
is_set field mask = not (bit_and field mask == 0)

-- pixels are plain where a flag says alpha only, colour, luma and chroma, or luminance
abbrev pub are_plain : ℕ → Bool
are_plain flags = list_any (is_set flags) (0x2 ∷ 0x40 ∷ 0x200 ∷ 0x20000 ∷ [])

-- plain pixels of 8, 16, 24 or 32 bits are linear; nothing else is named so
abbrev pub name_by_bit_count : ℕ → ℕ → Option FormatName
name_by_bit_count flags bits = cond (are_plain flags && list_any (◌==◌ bits) (8 ∷ 16 ∷ 24 ∷ 32 ∷ [])) (Some (Linear bits)) None
