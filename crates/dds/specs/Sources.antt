-- Where a header says its format.
use Rattle.std.specs.Prelude.{ℕ, if◌then◌else◌}
use Rattle.formats.specs.BitCounts.{is_set}
use Rattle.dds.specs.declared.header.Header.{Header}
use Rattle.dds.specs.Headers.{code_decides, is_extended}
use Rattle.dds.specs.declared.pixel_kind.PixelKind.{PixelKind}
use Rattle.dds.specs.declared.pixel_kind.PixelKind.TheVariants.{Rgba, Rgb, LuminanceWithAlpha, Luminance, Yuv, Alpha}
use Rattle.dds.specs.declared.source.FormatSource.{FormatSource}
use Rattle.dds.specs.declared.source.FormatSource.TheVariants.{Code, Dxgi, BitCount}

-- what plain pixels hold, by the pixel flags: 0x40 is colour, 0x20000 luminance, 0x200 luma and chroma, 0x1 alpha besides; alpha only
-- is left
abbrev pub kind_of : ℕ → PixelKind
kind_of flags =
    if is_set flags 0x40 then (if is_set flags 0x1 then Rgba else Rgb)
    else (if is_set flags 0x20000 then (if is_set flags 0x1 then LuminanceWithAlpha else Luminance)
    else (if is_set flags 0x200 then Yuv else Alpha))

-- the DXGI code of an extended header, else the code where it decides, else the bit count
abbrev pub source_of : Header → FormatSource
source_of h =
    if is_extended h then Dxgi h.dxgi_code
    else (if code_decides h then Code h.code else BitCount (kind_of h.pixel_flags) h.bit_count)
