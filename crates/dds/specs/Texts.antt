-- Where formats come from, shapes, pieces and areas as text.
use Rattle.std.specs.Prelude.{ℕ, List, ◌++◌, Some, None, codes, decimal, if◌then◌else◌}
use Rattle.std.specs.Char.{is_ascii_alphanumeric}
use Rattle.std.specs.Int.{w32, to_le_bytes}
use Rattle.std.specs.List.{list_all}
use Rattle.formats.specs.DxgiNames.{dxgi_name_of}
use Rattle.dds.specs.declared.area.Area.{Area}
use Rattle.dds.specs.declared.piece.Piece.{Piece}
use Rattle.dds.specs.declared.shape.Shape.{Shape}
use Rattle.dds.specs.declared.shape.Shape.TheVariants.{Line, Flat, Cube, Volume}
use Rattle.dds.specs.declared.pixel_kind.PixelKind.{PixelKind}
use Rattle.dds.specs.declared.pixel_kind.PixelKind.TheVariants.{Rgba, Rgb, LuminanceWithAlpha, Luminance, Yuv, Alpha}
use Rattle.dds.specs.declared.source.FormatSource.{FormatSource}
use Rattle.dds.specs.declared.source.FormatSource.TheVariants.{Code, Dxgi, BitCount, HandedIn}

-- what plain pixels hold
abbrev pub kind_text : PixelKind → List ℕ
kind_text Rgba = codes "RGBA"
kind_text Rgb = codes "RGB"
kind_text LuminanceWithAlpha = codes "luminance with alpha"
kind_text Luminance = codes "luminance"
kind_text Yuv = codes "YUV"
kind_text Alpha = codes "alpha"

-- a code by its four bytes in the file, where each is a letter or a digit, else by its number
abbrev pub code_text : ℕ → List ℕ
code_text code =
    let bytes = to_le_bytes w32 code in
    if list_all is_ascii_alphanumeric bytes then bytes else codes "code " ++ decimal code

-- a DXGI code by its name and its number, or the number alone
abbrev pub dxgi_text : ℕ → List ℕ
dxgi_text code = elim (dxgi_name_of code) [
  | None ↦ codes "DXGI code " ++ decimal code
  | Some name ↦ name ++ (codes " (" ++ (decimal code ++ codes ")"))
]

-- where a format comes from
abbrev pub source_text : FormatSource → List ℕ
source_text (Code code) = code_text code
source_text (Dxgi code) = dxgi_text code
source_text (BitCount kind bits) = kind_text kind ++ (codes " " ++ (decimal bits ++ codes " bits"))
source_text HandedIn = codes "handed in"

-- a shape, by its kind and its number
abbrev pub shape_text : Shape → List ℕ
shape_text (Line n) = codes "line array of " ++ decimal n
shape_text (Flat n) = codes "flat array of " ++ decimal n
shape_text (Cube n) = codes "cube array of " ++ decimal n
shape_text (Volume d) = codes "volume of depth " ++ decimal d

-- a piece, by its three numbers
abbrev pub piece_text : Piece → List ℕ
piece_text p = decimal p.element ++ (codes " " ++ (decimal p.level ++ (codes " " ++ decimal p.slice)))

-- an area, by its four numbers
abbrev pub area_text : Area → List ℕ
area_text a =
    decimal a.place ++ (codes " " ++ (decimal a.length ++ (codes " " ++ (decimal a.row_bytes ++ (codes " " ++ decimal a.rows)))))
