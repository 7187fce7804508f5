-- What a header says of its file, for people.
use Rattle.std.specs.Prelude.{Some, None, Ok, Err, Option, Result}
use Rattle.refusal.specs.declared.Refusal.{Refusal}
use Rattle.refusal.specs.declared.Refusal.TheVariants.{UnknownFormat}
use Rattle.formats.specs.declared.format_name.FormatName.{FormatName}
use Rattle.formats.specs.Codes.{name_for, plain_rows}
use Rattle.listing.specs.declared.facts.Facts.{Facts}
use Rattle.dds.specs.declared.header.Header.{Header}
use Rattle.dds.specs.declared.shape.Shape.{Shape}
use Rattle.dds.specs.Readings.{Reading}
use Rattle.dds.specs.Sources.{source_of}
use Rattle.dds.specs.Headers.{header_read, header_name}
use Rattle.dds.specs.Levels.{levels_of}
use Rattle.dds.specs.Shapes.{shape_read}

-- where the format is known and the shape was read so
abbrev facts_shaped : Header → FormatName → Result Shape Refusal → Result Facts Refusal
facts_shaped h name (Err e) = Err e
facts_shaped h name (Ok s) =
    Ok (record { source = source_of h; format = name; shape = s; width = h.width; height = h.height; levels = levels_of h })

-- where the header names that format, or none that is known
abbrev facts_named : Header → Option FormatName → Result Facts Refusal
facts_named h None = Err UnknownFormat
facts_named h (Some name) = facts_shaped h name (shape_read h)

-- where the header was read so
abbrev facts_in : Result Header Refusal → Result Facts Refusal
facts_in (Err e) = Err e
facts_in (Ok h) = facts_named h (header_name (name_for plain_rows) h)

-- the facts in what is read of a file, up to the first refusal that applies
abbrev pub facts_read : Reading → Result Facts Refusal
facts_read x = facts_in (header_read x)
