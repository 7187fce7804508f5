-- The law of a family for linear formats: what the multiplication hides from the search.
use Rattle.std.specs.Prelude.{◌≡◌, ℕ, ◌*◌, ◌≤◌, true}
use Rattle.std.proofs.Common.{mul-le-mul_left, le_refl, arith, rules}
use Rattle.formats.specs.Sizes.{is_pixel_size}
use Rattle.formats.specs.Extents.{Bounded, row_bytes_of, rows_of}
use Rattle.formats.specs.declared.format_name.FormatName.TheVariants.{Linear}

bits_bounds : (bits : ℕ) → is_pixel_size bits ≡ true → (1 ≤ bits) × (bits ≤ 128)
bits_bounds bits e = search rules

pub linear_bounded : (bits width height : ℕ) → is_pixel_size bits ≡ true → 1 ≤ width → 1 ≤ height
    → Bounded (row_bytes_of (Linear bits)) (rows_of (Linear bits)) width height
linear_bounded bits width height ok wide high =
    let b = bits_bounds bits ok in
    let low : width * 1 ≤ width * bits = mul-le-mul_left width b.0 in
    let top : width * bits ≤ width * 128 = mul-le-mul_left width b.1 in
    record { some_bytes = omega arith; few_bytes = omega arith; some_rows = high; few_rows = le_refl height }
