-- What a run moved down in a list leaves, in the list and in its first elements.
use Rattle.std.proofs.Common.{◌≡◌, ℕ, ◌+◌, ◌-◌, ◌≤◌, List, ◌++◌, length, take, drop, arith, rules}
use Rattle.std.proofs.lemmas.List.{same_lists, places}
use Rattle.std.proofs.lemmas.List.Edits.{take-paste}
use Rattle.shelf.specs.Runs.{slid_down, without_run}

module _ {X : Type 0} where
  -- a run moved down in the memory is moved in the first elements
  pub slid_within : (xs : List X) (held from count to : ℕ) → to ≤ from → from + count ≤ held → held ≤ length xs
      → take held (slid_down from count to xs) ≡ slid_down from count to (take held xs)
  slid_within xs held from count to down inside lent = same_lists _ _ (search (rules, places)) (λ k d h. grind (arith, places))

  -- where the last elements are moved down, what is behind them no longer counts
  pub slid_off : (xs : List X) (held position count behind : ℕ) → position + count + behind ≡ held → held ≤ length xs
      → take (held - count) (slid_down (position + count) behind position xs) ≡ without_run position count (take held xs)
  slid_off xs held position count behind whole lent = same_lists _ _ (search (rules, places)) (λ k d h. grind (arith, places))

  -- a run slid down stands behind what is below it
  pub slid_front : (xs : List X) (from count to : ℕ) → to ≤ from → from + count ≤ length xs
      → take (to + count) (slid_down from count to xs) ≡ take to xs ++ take count (drop from xs)
  slid_front xs from count to down inside =
      let start : to ≤ length xs = omega arith in
      let fewer : count ≤ length (drop from xs) = search (rules, places) in
      take-paste xs to (drop from xs) count start fewer

  -- what is behind the run's new end stays
  pub slid_behind : (xs : List X) (from count to position : ℕ) → to ≤ from → from + count ≤ length xs → to + count ≤ position
      → drop position (slid_down from count to xs) ≡ drop position xs
  slid_behind xs from count to position down inside past =
      same_lists _ _ (search (rules, places)) (λ k d h. grind (arith, places))
