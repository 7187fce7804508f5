use Rattle.std.proofs.Common.{◌≡◌, ℕ, ◌+◌, ◌*◌, ◌/◌, ◌^◌, ◌≤◌, sym, mul-le-mul_right, mul_assoc, add-one, arith}
use native.Mathlib.Nat.{pow-succ'}
use Rattle.dds.specs.Levels.{ChainOf}
use Rattle.dds.proofs.Halving.{chain_value}
use Rattle.dds.proofs.chain.longest_chain.Goals as goal

-- a half times the next power is the half's double times this one
twice : (q n : ℕ) → q * 2 ^ (n + 1) ≡ (q * 2) * 2 ^ n
twice q n = rw (add-one, pow-succ') (sym (mul_assoc q 2 (2 ^ n)))

low : (left n : ℕ) → left / 2 * 2 ^ (n + 1) ≤ left * 2 ^ n
low left n = let h : left / 2 * 2 ≤ left = omega arith in rw twice (mul-le-mul_right (2 ^ n) h)

high : (left n : ℕ) → (left + 1) * 2 ^ n ≤ (left / 2 + 1) * 2 ^ (n + 1)
high left n = let h : left + 1 ≤ (left / 2 + 1) * 2 = omega arith in rw twice (mul-le-mul_right (2 ^ n) h)

pub loop-left-preserved : goal.loop-left-preserved
loop-left-preserved c =
    let a = low c.loop-left.left c.loop-left.levels in
    let b = high c.loop-left.left c.loop-left.levels in
    let one : 1 ≤ c.loop-left.left / 2 = omega arith in
    let d = mul-le-mul_right (2 ^ (c.loop-left.levels + 1)) one in
    (omega arith, omega arith, omega arith, omega arith, omega arith)

pub returns : goal.returns
returns c =
    let h : c.loop-left.left + 1 ≤ 2 = omega arith in
    let m = mul-le-mul_right (2 ^ c.loop-left.levels) h in
    let powers : ChainOf c.args.side c.loop-left.levels
    = record { some = c.loop-left.invariant.3; enough = omega arith; not_more = c.loop-left.invariant.4 } in
    record { value = chain_value c.args.side c.loop-left.levels powers; powers = powers }
