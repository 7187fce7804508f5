-- Bytes are printed one after the other.
use Rattle.std.proofs.Common.{◌≡◌, ℕ, ◌+◌, List, ◌++◌, take}

-- the first i bytes are printed
pub record Printing (old new : List ℕ) (len₀ len cap₀ cap : ℕ) (bytes : List ℕ) (i : ℕ) : Type 0 where
  pub items : new ≡ old ++ take i bytes
  pub longer : len ≡ len₀ + i
  pub same : cap ≡ cap₀
