-- What stands in a DDS header, when a header is refused, and which format it names.
use Rattle.std.specs.Prelude.{ℕ, ◌+◌, ◌*◌, Bool, cond, not, ◌&&◌, ◌||◌, List, length, Ok, Err, Option, Result, ◌==◌, nat_le, nat_lt, slice_index}
use Rattle.refusal.specs.declared.Refusal.{Refusal}
use Rattle.refusal.specs.declared.Refusal.TheVariants.{WrongLength, WrongMagic, WrongHeaderSize, ShortExtendedHeader}
use Rattle.formats.specs.declared.format_name.FormatName.{FormatName}
use Rattle.formats.specs.Codes.{name_for, dxgi_rows}
use Rattle.formats.specs.BitCounts.{is_set, name_by_bit_count}
use Rattle.dds.specs.declared.header.Header.{Header}
use Rattle.dds.specs.Readings.{Reading}

-- the number whose lowest byte stands at a place; a byte that is not there counts as 0
abbrev pub number_at : List ℕ → ℕ → ℕ
number_at bytes place =
    slice_index bytes place + slice_index bytes (place + 1) * 256 + slice_index bytes (place + 2) * 65536 + slice_index bytes (place + 3) * 16777216

-- the fields, by their places in the file
unfoldable pub header_of : List ℕ → Header
header_of head =
    record {
      header_size = number_at head 4;
      flags = number_at head 8;
      height = number_at head 12;
      width = number_at head 16;
      depth = number_at head 24;
      level_count = number_at head 28;
      pixel_format_size = number_at head 76;
      pixel_flags = number_at head 80;
      code = number_at head 84;
      bit_count = number_at head 88;
      caps2 = number_at head 112;
      dxgi_code = number_at head 128;
      dimension = number_at head 132;
      misc = number_at head 136;
      array_size = number_at head 140;
    }

-- the file begins with the bytes 44 44 53 20
abbrev pub has_magic : List ℕ → Bool
has_magic head = nat_le 4 (length head) && (slice_index head 0 == 0x44 && (slice_index head 1 == 0x44 && (slice_index head 2 == 0x53 && slice_index head 3 == 0x20)))

-- the code decides the format, whatever other pixel flags are set
abbrev pub code_decides : Header → Bool
code_decides h = is_set h.pixel_flags 0x4

-- the code is the letters DX10, and it counts
abbrev pub is_extended : Header → Bool
is_extended h = code_decides h && h.code == 0x30315844

-- what is read of a file says this, up to the first refusal that applies
abbrev pub header_read : Reading → Result Header Refusal
header_read x =
    cond (nat_lt x.length 128 || nat_lt 1073741824 x.length) (Err WrongLength)
    (cond (not (has_magic x.head)) (Err WrongMagic)
    (cond (not ((header_of x.head).header_size == 124 && (header_of x.head).pixel_format_size == 32)) (Err WrongHeaderSize)
    (cond (is_extended (header_of x.head) && nat_lt x.length 148) (Err ShortExtendedHeader)
    (Ok (header_of x.head)))))

-- the name of a header's format, with a table for the codes other than DX10
abbrev pub header_name : (ℕ → Option FormatName) → Header → Option FormatName
header_name names h =
    cond (is_extended h) (name_for dxgi_rows h.dxgi_code)
    (cond (code_decides h) (names h.code)
    (name_by_bit_count h.pixel_flags h.bit_count))
