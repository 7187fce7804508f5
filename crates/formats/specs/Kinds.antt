-- What the families with a size show of it.
use Rattle.std.specs.Prelude.{ℕ}
use Rattle.formats.specs.declared.linear.Linear.{Linear}
use Rattle.formats.specs.declared.block.Block.{Block}

-- the bits of a pixel
abbrev pub bits_of : Linear → ℕ
bits_of f = f.bits

-- the bytes of a block
abbrev pub bytes_of : Block → ℕ
bytes_of f = f.bytes
