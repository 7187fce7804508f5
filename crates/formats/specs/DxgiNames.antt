-- What DXGI codes are called.
use Rattle.std.specs.Prelude.{◌≡◌, ℕ, ◌↔◌, List, [], ◌∷◌, ◌++◌, map, find, Some, codes, Option, ◌==◌, IsSome}
use Rattle.std.specs.List.{enumerate_from}
use Rattle.std.specs.Option.{option_map}
use Prim.Native.String.{String}
use Rattle.formats.specs.Codes.{name_for, dxgi_rows}

-- names that begin alike, by how each ends
abbrev endings : String → List String → List (List ℕ)
endings beginning ends = map (λ end. codes beginning ++ (codes "_" ++ codes end)) ends

-- the names of the codes from 1 on, as Microsoft's DXGI_FORMAT enumeration has them
abbrev names_from_one : List (List ℕ)
names_from_one =
    endings "R32G32B32A32" ("TYPELESS" ∷ "FLOAT" ∷ "UINT" ∷ "SINT" ∷ [])
    ++ endings "R32G32B32" ("TYPELESS" ∷ "FLOAT" ∷ "UINT" ∷ "SINT" ∷ [])
    ++ endings "R16G16B16A16" ("TYPELESS" ∷ "FLOAT" ∷ "UNORM" ∷ "UINT" ∷ "SNORM" ∷ "SINT" ∷ [])
    ++ endings "R32G32" ("TYPELESS" ∷ "FLOAT" ∷ "UINT" ∷ "SINT" ∷ [])
    ++ map codes ("R32G8X24_TYPELESS" ∷ "D32_FLOAT_S8X24_UINT" ∷ "R32_FLOAT_X8X24_TYPELESS" ∷ [])
    ++ map codes ("X32_TYPELESS_G8X24_UINT" ∷ [])
    ++ endings "R10G10B10A2" ("TYPELESS" ∷ "UNORM" ∷ "UINT" ∷ [])
    ++ map codes ("R11G11B10_FLOAT" ∷ [])
    ++ endings "R8G8B8A8" ("TYPELESS" ∷ "UNORM" ∷ "UNORM_SRGB" ∷ "UINT" ∷ "SNORM" ∷ "SINT" ∷ [])
    ++ endings "R16G16" ("TYPELESS" ∷ "FLOAT" ∷ "UNORM" ∷ "UINT" ∷ "SNORM" ∷ "SINT" ∷ [])
    ++ map codes ("R32_TYPELESS" ∷ "D32_FLOAT" ∷ "R32_FLOAT" ∷ [])
    ++ map codes ("R32_UINT" ∷ "R32_SINT" ∷ "R24G8_TYPELESS" ∷ [])
    ++ map codes ("D24_UNORM_S8_UINT" ∷ "R24_UNORM_X8_TYPELESS" ∷ "X24_TYPELESS_G8_UINT" ∷ [])
    ++ endings "R8G8" ("TYPELESS" ∷ "UNORM" ∷ "UINT" ∷ "SNORM" ∷ "SINT" ∷ [])
    ++ map codes ("R16_TYPELESS" ∷ "R16_FLOAT" ∷ "D16_UNORM" ∷ [])
    ++ map codes ("R16_UNORM" ∷ "R16_UINT" ∷ "R16_SNORM" ∷ [])
    ++ map codes ("R16_SINT" ∷ [])
    ++ endings "R8" ("TYPELESS" ∷ "UNORM" ∷ "UINT" ∷ "SNORM" ∷ "SINT" ∷ [])
    ++ map codes ("A8_UNORM" ∷ "R1_UNORM" ∷ "R9G9B9E5_SHAREDEXP" ∷ [])
    ++ map codes ("R8G8_B8G8_UNORM" ∷ "G8R8_G8B8_UNORM" ∷ [])
    ++ endings "BC1" ("TYPELESS" ∷ "UNORM" ∷ "UNORM_SRGB" ∷ [])
    ++ endings "BC2" ("TYPELESS" ∷ "UNORM" ∷ "UNORM_SRGB" ∷ [])
    ++ endings "BC3" ("TYPELESS" ∷ "UNORM" ∷ "UNORM_SRGB" ∷ [])
    ++ endings "BC4" ("TYPELESS" ∷ "UNORM" ∷ "SNORM" ∷ [])
    ++ endings "BC5" ("TYPELESS" ∷ "UNORM" ∷ "SNORM" ∷ [])
    ++ map codes ("B5G6R5_UNORM" ∷ "B5G5R5A1_UNORM" ∷ "B8G8R8A8_UNORM" ∷ [])
    ++ map codes ("B8G8R8X8_UNORM" ∷ "R10G10B10_XR_BIAS_A2_UNORM" ∷ [])
    ++ endings "B8G8R8A8" ("TYPELESS" ∷ "UNORM_SRGB" ∷ [])
    ++ endings "B8G8R8X8" ("TYPELESS" ∷ "UNORM_SRGB" ∷ [])
    ++ endings "BC6H" ("TYPELESS" ∷ "UF16" ∷ "SF16" ∷ [])
    ++ endings "BC7" ("TYPELESS" ∷ "UNORM" ∷ "UNORM_SRGB" ∷ [])

-- each code that has a name, with it
unfoldable pub dxgi_names : List (ℕ × List ℕ)
dxgi_names = enumerate_from 1 names_from_one ++ ((115, codes "B4G4R4A4_UNORM") ∷ [])

-- the name beside a code, if any
abbrev pub named_in : List (ℕ × List ℕ) → ℕ → Option (List ℕ)
named_in rows code = option_map (λ row. row.1) (find (λ row. row.0 == code) rows)

-- a code's name, if it has one
abbrev pub dxgi_name_of : ℕ → Option (List ℕ)
dxgi_name_of = named_in dxgi_names

-- the codes that have a name are those that have a format
abbrev pub NamesWhatHasAFormat : Type 0
NamesWhatHasAFormat = (code : ℕ) → IsSome (dxgi_name_of code) ↔ IsSome (name_for dxgi_rows code)

-- no two codes share a name
abbrev pub NamesOneCode : Type 0
NamesOneCode = (a b : ℕ) (name : List ℕ) → dxgi_name_of a ≡ Some name → dxgi_name_of b ≡ Some name → a ≡ b
