-- Which sizes a pixel or a block may have.
use Rattle.std.specs.Prelude.{ℕ, ◌%◌, Bool, ◌&&◌, ◌||◌, ◌==◌, nat_le}

-- a pixel has one bit, or 1 to 16 whole bytes
abbrev pub is_pixel_size : ℕ → Bool
is_pixel_size bits = bits == 1 || (bits % 8 == 0 && (nat_le 8 bits && nat_le bits 128))

-- a block has 8 or 16 bytes
abbrev pub is_block_size : ℕ → Bool
is_block_size bytes = bytes == 8 || bytes == 16
