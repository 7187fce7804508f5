-- A format's name as text.
use Rattle.std.specs.Prelude.{ℕ, List, ◌++◌, codes, decimal, if◌then◌else◌, ◌==◌}
use Rattle.formats.specs.declared.format_name.FormatName.{FormatName}
use Rattle.formats.specs.declared.format_name.FormatName.TheVariants.{Linear, Paired, Block}

-- the arrangement, then the bits of a pixel or the bytes of a block
abbrev pub name_text : FormatName → List ℕ
name_text (Linear bits) = if bits == 1 then codes "linear of 1 bit" else codes "linear of " ++ (decimal bits ++ codes " bits")
name_text Paired = codes "paired"
name_text (Block bytes) = codes "block of " ++ (decimal bytes ++ codes " bytes")
