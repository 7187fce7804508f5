-- What the rules say of a file's pieces: how many there are of each kind, and how long they are.
use Rattle.std.specs.Prelude.{ℕ, zero, suc, ◌+◌, ◌*◌, cond}
use Rattle.dds.specs.declared.header.Header.{Header}
use Rattle.dds.specs.declared.shape.Shape.{Shape}
use Rattle.dds.specs.Headers.{is_extended}
use Rattle.dds.specs.Shapes.{elements_of, depth_of}
use Rattle.dds.specs.Levels.{levels_of, side_at}

-- how many elements and levels there are, how many slices a level has, how many bytes one of its pieces, and where pixel data
-- begin
pub record Plan : Type 0 where
  pub elements : ℕ
  pub levels : ℕ
  pub slices : ℕ → ℕ
  pub size : ℕ → ℕ
  pub begin : ℕ

-- pixel data begin behind the header, plain or extended
abbrev pub pixel_begin : Header → ℕ
pixel_begin h = cond (is_extended h) 148 128

-- the bytes of an image of a level: row bytes times rows, at the level's sides
abbrev pub size_at : (ℕ → ℕ → ℕ) → (ℕ → ℕ → ℕ) → ℕ → ℕ → ℕ → ℕ
size_at row_bytes rows width height level =
    row_bytes (side_at width level) (side_at height level) * rows (side_at width level) (side_at height level)

-- the plan of a header with a shape, by a family's two functions; one slice stays one at every level
abbrev pub plan_of : Header → Shape → (ℕ → ℕ → ℕ) → (ℕ → ℕ → ℕ) → Plan
plan_of h shape row_bytes rows =
    record {
      elements = elements_of shape;
      levels = levels_of h;
      slices = side_at (depth_of shape);
      size = size_at row_bytes rows h.width h.height;
      begin = pixel_begin h;
    }

-- where a level begins in its element: behind all slices of the levels before it
abbrev pub begin_at : (ℕ → ℕ) → (ℕ → ℕ) → ℕ → ℕ
begin_at slices size zero = 0
begin_at slices size (suc level) = begin_at slices size level + slices level * size level

-- the bytes of one element
abbrev pub stride_of : Plan → ℕ
stride_of plan = begin_at plan.slices plan.size plan.levels

-- where the last piece ends
abbrev pub end_of : Plan → ℕ
end_of plan = plan.begin + plan.elements * stride_of plan
