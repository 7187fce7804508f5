-- How many levels there may be, and the sides of each.
use Rattle.std.specs.Prelude.{ℕ, zero, suc, ◌*◌, ◌/◌, ◌^◌, ◌<◌, ◌≤◌, max, cond, ◌==◌, nat_le}
use Rattle.dds.specs.declared.header.Header.{Header}

-- a level count of 0 means one level
abbrev pub levels_of : Header → ℕ
levels_of h = cond (h.level_count == 0) 1 h.level_count

-- how often a side can be halved before it is 1; the first number only bounds the recursion
abbrev pub halvings : ℕ → ℕ → ℕ
halvings zero side = 0
halvings (suc most) side = cond (nat_le side 1) 0 (suc (halvings most (side / 2)))

-- the longest chain of levels from a side down to 1; a side halves less often than it counts
unfoldable pub longest_chain : ℕ → ℕ
longest_chain side = suc (halvings side side)

-- the same by powers of two: n halvings bring the side to 0, and one less does not; a side of 0 counts as 1
pub record ChainOf (side n : ℕ) : Type 0 where
  pub some : 1 ≤ n
  pub enough : side < 2 ^ n
  pub not_more : 2 ^ n ≤ 2 * max side 1

-- a side at a level: halved as often as the level says, and at least 1
abbrev pub side_at : ℕ → ℕ → ℕ
side_at side level = max (side / 2 ^ level) 1
