-- What is read of a file to open it.
use Rattle.std.specs.Prelude.{◌≡◌, ℕ, List, length, take}
use Rattle.dds.specs.declared.head.FileHead.{FileHead}

-- a file's head and its length
pub record Reading : Type 0 where
  pub head : List ℕ
  pub length : ℕ

-- that head and that length
abbrev pub reading : List ℕ → ℕ → Reading
reading head n = record { head = head; length = n }

-- what is read of a file: its first 148 bytes, or the whole of a shorter one, and its length
abbrev pub reading_of : List ℕ → Reading
reading_of file = reading (take 148 file) (length file)

-- what a FileHead holds
abbrev pub reading_in : FileHead → Reading
reading_in h = reading h.bytes.now h.length

-- the last piece of the file may end there: at the file's end
abbrev pub MayEnd : Reading → ℕ → Type 0
MayEnd x end = end ≡ x.length
