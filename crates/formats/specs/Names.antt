-- What a format is called, and which names stand for a format.
use Rattle.std.specs.Prelude.{◌≡◌, cond, Some, None, Option, Result, MatchResult}
use Rattle.formats.specs.declared.format.Format.{Format}
use Rattle.formats.specs.declared.format.Format.TheVariants as format
use Rattle.formats.specs.declared.format_name.FormatName.{FormatName}
use Rattle.formats.specs.declared.format_name.FormatName.TheVariants.{Linear, Paired, Block}
use Rattle.formats.specs.declared.names.NoSuchSize.{NoSuchSize}
use Rattle.formats.specs.Kinds.{bits_of, bytes_of}
use Rattle.formats.specs.Sizes.{is_pixel_size, is_block_size}

-- a format is wholly known by its name
abbrev pub name_of : Format → FormatName
name_of (format.Linear f) = Linear (bits_of f)
name_of format.Paired = Paired
name_of (format.Block f) = Block (bytes_of f)

-- the name itself, or none where it says a size that no format has
abbrev pub admitted : FormatName → Option FormatName
admitted (Linear bits) = cond (is_pixel_size bits) (Some (Linear bits)) None
admitted Paired = Some Paired
admitted (Block bytes) = cond (is_block_size bytes) (Some (Block bytes)) None

-- the same of a name that may be missing
abbrev pub admitted_of : Option FormatName → Option FormatName
admitted_of None = None
admitted_of (Some name) = admitted name

-- a name read as a format: that format's name is the one that was read; or an error that has it, where it is not admitted
abbrev pub Reads : FormatName → Result Format NoSuchSize → Type 0
Reads name r = MatchResult r (λ f. Some (name_of f) ≡ admitted name) (λ e. (None ≡ admitted name) × (e.0 ≡ name))
