-- Where a byte lies in its element.
use Rattle.std.specs.Prelude.{◌≡◌, ℕ, ◌+◌, ◌*◌, ◌<◌, slice_index_or}
use Rattle.dds.specs.declared.spot.Spot.{Spot}
use Rattle.dds.specs.declared.table.Table.{Table}
use Rattle.dds.specs.Sound.{slices_in, size_in}
use Rattle.dds.specs.Tables.{blank}

-- a level and a slice that are there, an offset inside the piece, and these lead back to the byte
pub record SpotOf (t : Table) (offset : ℕ) (s : Spot) : Type 0 where
  pub level : s.level < t.level_count
  pub slice : s.slice < slices_in t s.level
  pub inside : s.offset < size_in t s.level
  pub back : offset ≡ (slice_index_or t.levels s.level blank).begin + s.slice * size_in t s.level + s.offset
