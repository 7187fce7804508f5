use Rattle.std.proofs.Common.{◌+◌, ◌*◌, ◌^◌, ◌<◌, ◌≤◌, max}
use Rattle.dds.proofs.chain.longest_chain.Given as goal

-- what is left, doubled as often as it was halved, is the side but for the bits that fell off
abbrev pub invariant-loop-left : goal.invariant-loop-left
invariant-loop-left l =
    (l.left * 2 ^ l.levels ≤ 2 * l.side) × (2 * l.side < (l.left + 1) * 2 ^ l.levels) × (l.levels + l.left ≤ l.side + 1)
    × (1 ≤ l.levels) × (2 ^ l.levels ≤ 2 * max l.side 1)

abbrev pub decreases-loop-left : goal.decreases-loop-left
decreases-loop-left l = l.left
