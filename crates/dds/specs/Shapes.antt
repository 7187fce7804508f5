-- Which shape a header means, and which sizes are in range.
use Rattle.std.specs.Prelude.{ℕ, ◌*◌, max, Bool, cond, not, ◌&&◌, Some, None, Ok, Err, Option, Result, ◌==◌, bit_and, nat_lt}
use Rattle.refusal.specs.declared.Refusal.{Refusal}
use Rattle.refusal.specs.declared.Refusal.TheVariants.{NoShape, OutOfRange, TooManyLevels}
use Rattle.formats.specs.BitCounts.{is_set}
use Rattle.formats.specs.Extents.{within}
use Rattle.dds.specs.declared.header.Header.{Header}
use Rattle.dds.specs.declared.shape.Shape.{Shape}
use Rattle.dds.specs.declared.shape.Shape.TheVariants.{Line, Flat, Cube, Volume}
use Rattle.dds.specs.Headers.{is_extended}
use Rattle.dds.specs.Levels.{levels_of, longest_chain}

-- every bit of the mask is set
abbrev all_set : ℕ → ℕ → Bool
all_set field bits = bit_and field bits == bits

-- a plain header: caps2 decides. A cube wants all six faces and equal sides, a volume its flag
abbrev pub plain_shape : Header → Option Shape
plain_shape h =
    cond (is_set h.caps2 0x200)
    (cond (not (is_set h.caps2 0x200000) && (all_set h.caps2 0xfc00 && h.width == h.height)) (Some (Cube 6)) None)
    (cond (is_set h.caps2 0x200000)
    (cond (is_set h.flags 0x800000) (Some (Volume h.depth)) None)
    (Some (Flat 1)))

-- an extended header: the dimension decides, and bit 0x4 of misc makes cubes of a flat array, six elements each
abbrev pub extended_shape : Header → Option Shape
extended_shape h =
    cond (is_set h.misc 0x4)
    (cond (h.dimension == 3 && h.width == h.height) (Some (Cube (6 * h.array_size))) None)
    (cond (h.dimension == 2)
    (cond (h.height == 1) (Some (Line h.array_size)) None)
    (cond (h.dimension == 3) (Some (Flat h.array_size))
    (cond (h.dimension == 4 && (h.array_size == 1 && is_set h.flags 0x800000)) (Some (Volume h.depth)) None)))

-- the shape that a header means, if any
abbrev pub shape_of : Header → Option Shape
shape_of h = cond (is_extended h) (extended_shape h) (plain_shape h)

-- how many elements the file holds; a volume is one
abbrev pub elements_of : Shape → ℕ
elements_of (Line n) = n
elements_of (Flat n) = n
elements_of (Cube n) = n
elements_of (Volume d) = 1

-- the slices of the first level
abbrev pub depth_of : Shape → ℕ
depth_of (Line n) = 1
depth_of (Flat n) = 1
depth_of (Cube n) = 1
depth_of (Volume d) = d

-- the largest that a side may be
abbrev pub limit_of : Shape → ℕ
limit_of (Line n) = 16384
limit_of (Flat n) = 16384
limit_of (Cube n) = 16384
limit_of (Volume d) = 2048

-- both sides, a volume's depth and the number of elements are in range
abbrev pub is_in_range : Header → Shape → Bool
is_in_range h shape =
    (within (limit_of shape) h.width && within (limit_of shape) h.height)
    && (within (limit_of shape) (depth_of shape) && within 2048 (elements_of shape))

-- the side that is halved longest; the depth counts in a volume only
abbrev pub largest_side : Header → Shape → ℕ
largest_side h shape = max (max h.width h.height) (depth_of shape)

-- the shape, or the first refusal that applies: no shape, out of range, too many levels
abbrev pub judged : Header → Option Shape → Result Shape Refusal
judged h None = Err NoShape
judged h (Some shape) =
    cond (not (is_in_range h shape)) (Err OutOfRange)
    (cond (nat_lt (longest_chain (largest_side h shape)) (levels_of h)) (Err TooManyLevels)
    (Ok shape))

-- the shape that a header means, where its sizes are in range and it has no more levels than the longest chain
abbrev pub shape_read : Header → Result Shape Refusal
shape_read h = judged h (shape_of h)
