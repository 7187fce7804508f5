-- Files whose lengths and pieces were measured, and what the rules say of them. What is asked of a file is said of the numbers that
-- stand at their places in its head; what is not named is free.
use Rattle.std.specs.Prelude.{◌≡◌, ℕ, ◌≤◌, Bool, true, false, ◌||◌, ◌⊎◌, List, [], ◌∷◌, length, take, Some, None, Ok, Err, Option, Result, ◌≢◌, bit_and}
use Rattle.refusal.specs.declared.Refusal.{Refusal}
use Rattle.refusal.specs.declared.Refusal.TheVariants.{OutOfRange, TooManyLevels, WrongEnd, PastFileEnd}
use Rattle.formats.specs.BitCounts.{is_set}
use Rattle.formats.specs.Codes.{name_for, plain_rows}
use Rattle.dds.specs.declared.layout.Layout.{Layout}
use Rattle.dds.specs.declared.piece.Piece.{Piece}
use Rattle.dds.specs.Readings.{reading}
use Rattle.dds.specs.Headers.{number_at}
use Rattle.dds.specs.Layouts.{OpenedBy, refusal_of, pieces_in}
use Rattle.dds.specs.Places.{WhoseIs}

-- the magic bytes and the two sizes that every header has, its sides and its level count
pub record Begins (width height level_count : ℕ) (head : List ℕ) : Type 0 where
  pub magic : take 4 head ≡ 0x44 ∷ 0x44 ∷ 0x53 ∷ 0x20 ∷ []
  pub header_size : number_at head 4 ≡ 124
  pub height_is : number_at head 12 ≡ height
  pub width_is : number_at head 16 ≡ width
  pub level_count_is : number_at head 28 ≡ level_count
  pub pixel_format_size : number_at head 76 ≡ 32

-- no code: pixels of so many bits, told by one of the four pixel flags
pub record HasBits (bits : ℕ) (head : List ℕ) : Type 0 where
  pub no_code : is_set (number_at head 80) 0x4 ≡ false
  pub told :
      (is_set (number_at head 80) 0x2 || is_set (number_at head 80) 0x40
      || is_set (number_at head 80) 0x200 || is_set (number_at head 80) 0x20000) ≡ true
  pub bit_count : number_at head 88 ≡ bits

-- a code, and the pixel flag under which it counts
pub record HasCode (code : ℕ) (head : List ℕ) : Type 0 where
  pub counts : is_set (number_at head 80) 0x4 ≡ true
  pub code_is : number_at head 84 ≡ code

-- the letters DXT1
abbrev pub IsDxt1 : List ℕ → Type 0
IsDxt1 = HasCode 0x31545844

-- the letters DX10: an extended header
abbrev pub IsExtended : List ℕ → Type 0
IsExtended = HasCode 0x30315844

-- a plain header: the code does not count, or is another
abbrev pub IsPlain : List ℕ → Type 0
IsPlain head = (is_set (number_at head 80) 0x4 ≡ false) ⊎ (number_at head 84 ≢ 0x30315844)

-- an extended header with one of these DXGI codes: BC3 has 76 to 78, BC6H 94 to 96
pub record HasDxgi (first last : ℕ) (head : List ℕ) : Type 0 where
  pub extended : IsExtended head
  pub not_below : first ≤ number_at head 128
  pub not_above : number_at head 128 ≤ last

-- a depth, and the flag under which it counts
pub record HasDepth (depth : ℕ) (head : List ℕ) : Type 0 where
  pub counts : is_set (number_at head 8) 0x800000 ≡ true
  pub depth_is : number_at head 24 ≡ depth

-- caps2 of a flat array: neither the bit of a cube nor that of a volume
pub record FlatCaps (head : List ℕ) : Type 0 where
  pub no_cube : is_set (number_at head 112) 0x200 ≡ false
  pub no_volume : is_set (number_at head 112) 0x200000 ≡ false

-- caps2 of a cube: its bit, and those of all six faces
pub record CubeCaps (head : List ℕ) : Type 0 where
  pub cube : is_set (number_at head 112) 0x200 ≡ true
  pub no_volume : is_set (number_at head 112) 0x200000 ≡ false
  pub faces : bit_and (number_at head 112) 0xfc00 ≡ 0xfc00

-- caps2 of a volume
pub record VolumeCaps (head : List ℕ) : Type 0 where
  pub no_cube : is_set (number_at head 112) 0x200 ≡ false
  pub volume : is_set (number_at head 112) 0x200000 ≡ true

-- the fields of an extended header that say its shape: dimension, the bit of misc that makes cubes, array size
pub record HasArray (dimension : ℕ) (cubes : Bool) (array_size : ℕ) (head : List ℕ) : Type 0 where
  pub dimension_is : number_at head 132 ≡ dimension
  pub cubes_is : is_set (number_at head 136) 0x4 ≡ cubes
  pub array_size_is : number_at head 140 ≡ array_size

-- the kinds of header that mean a shape
abbrev pub PlainFlat : List ℕ → Type 0
PlainFlat head = IsPlain head × FlatCaps head

abbrev pub PlainCube : List ℕ → Type 0
PlainCube head = IsPlain head × CubeCaps head

abbrev pub PlainVolume : ℕ → List ℕ → Type 0
PlainVolume depth head = IsPlain head × (VolumeCaps head × HasDepth depth head)

abbrev pub LineArray : ℕ → List ℕ → Type 0
LineArray array_size head = IsExtended head × HasArray 2 false array_size head

abbrev pub FlatArray : ℕ → List ℕ → Type 0
FlatArray array_size head = IsExtended head × HasArray 3 false array_size head

abbrev pub CubeArray : ℕ → List ℕ → Type 0
CubeArray array_size head = IsExtended head × HasArray 3 true array_size head

abbrev pub ExtendedVolume : ℕ → List ℕ → Type 0
ExtendedVolume depth head = IsExtended head × (HasArray 4 false 1 head × HasDepth depth head)

-- 256 by 256, 24 bits, nine levels
abbrev pub Plain24 : List ℕ → Type 0
Plain24 head = Begins 256 256 9 head × (HasBits 24 head × FlatCaps head)

-- 256 by 64, DXT1, nine levels
abbrev pub PlainDxt1 : List ℕ → Type 0
PlainDxt1 head = Begins 256 64 9 head × (IsDxt1 head × FlatCaps head)

-- 256 by 64, BC3 in an extended header, nine levels
abbrev pub ExtendedBc3 : List ℕ → Type 0
ExtendedBc3 head = Begins 256 64 9 head × (HasDxgi 76 78 head × HasArray 3 false 1 head)

-- a volume of 64 by 64 by 4, 24 bits, seven levels
abbrev pub Volume24 : List ℕ → Type 0
Volume24 head = Begins 64 64 7 head × (HasBits 24 head × (VolumeCaps head × HasDepth 4 head))

-- cubes of 256 by 256, BC6H in an extended header, nine levels
abbrev pub CubesBc6h : ℕ → List ℕ → Type 0
CubesBc6h array_size head = Begins 256 256 9 head × (HasDxgi 94 96 head × HasArray 3 true array_size head)

-- every file of that length with such a head is answered so by opening with the built-in table
abbrev pub Answers : (List ℕ → Type 0) → ℕ → (Result Layout Refusal → Type 0) → Type 0
Answers Such n P =
    (head : List ℕ) → Such head → (r : Result Layout Refusal) → OpenedBy (reading head n) (name_for plain_rows) r → P r

-- it is accepted, and the layout has the property
abbrev pub AcceptedWith : (Layout → Type 0) → Result Layout Refusal → Type 0
AcceptedWith P (Ok layout) = P layout
AcceptedWith P (Err e) = ⊥

-- it is accepted
abbrev pub Opens : Result Layout Refusal → Type 0
Opens = AcceptedWith (λ _. Unit {0})

-- it is refused so
abbrev pub Refuses : Refusal → Result Layout Refusal → Type 0
Refuses e r = r ≡ Err e

-- whose byte stands at a place of such a file
abbrev pub Whose : ℕ → Result (Option (Piece × ℕ)) Refusal → Layout → Type 0
Whose place answer layout = (r : Result (Option (Piece × ℕ)) Refusal) → WhoseIs layout place r → r ≡ answer

-- the one image of a level of the first element
abbrev pub image_of : ℕ → Piece
image_of n = record { element = 0; level = n; slice = 0 }

-- every file of so many bytes or more with these sides and levels and a header of that kind is refused so, whatever its format,
-- before its pieces are looked at
abbrev pub TurnedAway : ℕ → ℕ → ℕ → (List ℕ → Type 0) → ℕ → Refusal → Type 0
TurnedAway width height levels Kind shortest e =
    (head : List ℕ) (n : ℕ) → Begins width height levels head → Kind head → shortest ≤ n → n ≤ 1073741824
    → refusal_of (reading head n) ≡ Some e

-- 4 by 4 with four levels: every header whose shape is in range, and as a volume at most 7 deep
pub record FourLevels : Type 0 where
  pub plain_flat : TurnedAway 4 4 4 PlainFlat 128 TooManyLevels
  pub plain_cube : TurnedAway 4 4 4 PlainCube 128 TooManyLevels
  pub plain_volume : (depth : ℕ) → 1 ≤ depth → depth ≤ 7 → TurnedAway 4 4 4 (PlainVolume depth) 128 TooManyLevels
  pub flat_array : (count : ℕ) → 1 ≤ count → count ≤ 2048 → TurnedAway 4 4 4 (FlatArray count) 148 TooManyLevels
  pub cube_array : (count : ℕ) → 1 ≤ count → count ≤ 341 → TurnedAway 4 4 4 (CubeArray count) 148 TooManyLevels
  pub extended_volume : (depth : ℕ) → 1 ≤ depth → depth ≤ 7
      → TurnedAway 4 4 4 (ExtendedVolume depth) 148 TooManyLevels

-- 16,385 wide: every header that has a shape
pub record TooWide : Type 0 where
  pub plain_flat : (t l : ℕ) → TurnedAway 16385 t l PlainFlat 128 OutOfRange
  pub plain_cube : (l : ℕ) → TurnedAway 16385 16385 l PlainCube 128 OutOfRange
  pub plain_volume : (t l depth : ℕ) → TurnedAway 16385 t l (PlainVolume depth) 128 OutOfRange
  pub line_array : (l count : ℕ) → TurnedAway 16385 1 l (LineArray count) 148 OutOfRange
  pub flat_array : (t l count : ℕ) → TurnedAway 16385 t l (FlatArray count) 148 OutOfRange
  pub cube_array : (l count : ℕ) → TurnedAway 16385 16385 l (CubeArray count) 148 OutOfRange
  pub extended_volume : (t l depth : ℕ) → TurnedAway 16385 t l (ExtendedVolume depth) 148 OutOfRange

-- the twelve figures
pub record Figures : Type 0 where
  pub plain : Answers Plain24 262271 Opens
  pub one_more : Answers Plain24 262272 (Refuses WrongEnd)
  pub last_byte : Answers PlainDxt1 11080 (AcceptedWith (Whose 11063 (Ok (Some (image_of 6, 7)))))
  pub next_byte : Answers PlainDxt1 11080 (AcceptedWith (Whose 11064 (Ok (Some (image_of 7, 0)))))
  pub header_byte : Answers PlainDxt1 11080 (AcceptedWith (Whose 127 (Ok None)))
  pub past_end : Answers PlainDxt1 11080 (AcceptedWith (Whose 11080 (Err PastFileEnd)))
  pub extended : Answers ExtendedBc3 22052 Opens
  pub volume : Answers Volume24 56447 (AcceptedWith (λ layout. length (pieces_in layout) ≡ 11))
  pub cube : Answers (CubesBc6h 1) 524596 Opens
  pub six_cubes : Answers (CubesBc6h 6) 524596 (Refuses WrongEnd)
  pub four_levels : FourLevels
  pub too_wide : TooWide
