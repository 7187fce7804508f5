-- The sides of a chain of levels: halving one level's gives the next one's.
use Rattle.std.proofs.Common.{◌≡◌, ℕ, zero, suc, ◌+◌, ◌/◌, ◌^◌, ◌<◌, ◌≤◌, max, true, false, leb, sym, ap, ◌∙◌, subst, ⊎_elim, arith, pow_mono}
use native.Mathlib.Nat.{pow-succ'}
use Rattle.std.proofs.lemmas.Bool.{cases_order, cases_lt, cases_Bool, cond-true, cond-false, leb-true, leb-false}
use Rattle.std.proofs.lemmas.Nat.{shr-shr, shr_le}
use Rattle.dds.specs.Levels.{side_at, halvings, longest_chain, ChainOf}

halved : (q : ℕ) → max (max q 1 / 2) 1 ≡ max (q / 2) 1
halved q = omega arith

pub side_step : (side k : ℕ) → max (side_at side k / 2) 1 ≡ side_at side (k + 1)
side_step side k = halved (side / 2 ^ k) ∙ ap (λ n. max n 1) (shr-shr side k 1)

pub side_some : (side k : ℕ) → 1 ≤ side_at side k
side_some side k = omega arith

pub side_few : (side k : ℕ) → 1 ≤ side → side_at side k ≤ side
side_few side k h = omega (arith, shr_le side k)

at_count : {side m n : ℕ} → m ≡ n → ChainOf side m → ChainOf side n
at_count {side} e = subst (ChainOf side) e

chain_from : (most side : ℕ) → side ≤ most → ChainOf side (suc (halvings most side))
chain_from zero side h = record { some = omega arith; enough = omega arith; not_more = omega arith }
chain_from (suc most) side h =
    ⊎_elim
    (λ (one : leb side 1 ≡ true).
    let small = leb-true side 1 one in
    let e : suc (halvings (suc most) side) ≡ 1 = ap suc (cond-true (leb side 1) 0 (suc (halvings most (side / 2))) one) in
    at_count (sym e) (record { some = omega arith; enough = omega arith; not_more = omega arith }))
    (λ (more : leb side 1 ≡ false).
    let large = leb-false side 1 more in
    let e : suc (halvings (suc most) side) ≡ suc (suc (halvings most (side / 2))) = ap suc (cond-false (leb side 1) 0 (suc (halvings most (side / 2))) more) in
    let half = chain_from most (side / 2) (omega arith) in
    let enough = half.enough in
    let not_more = half.not_more in
    let power = pow-succ' 2 (suc (halvings most (side / 2))) in
    at_count (sym e) (record { some = omega arith; enough = omega arith; not_more = omega arith }))
    (cases_Bool (leb side 1))

-- a side has one longest chain
chain_alone : (side m n : ℕ) → ChainOf side m → ChainOf side n → m ≡ n
chain_alone side m n p q =
    let a = p.enough in
    let b = p.not_more in
    let c = q.enough in
    let d = q.not_more in
    let two-m = pow_mono {i = 1} {j = m} p.some in
    let two-n = pow_mono {i = 1} {j = n} q.some in
    let power-m = pow-succ' 2 m in
    let power-n = pow-succ' 2 n in
    ⊎_elim (λ (e : m ≡ n). e)
    (⊎_elim (λ (l : m < n). let up = pow_mono {i = suc m} {j = n} l in absurd (omega arith))
    (λ (g : n < m). let up = pow_mono {i = suc n} {j = m} g in absurd (omega arith)))
    (cases_order m n)

pub chain_powers : (side : ℕ) → ChainOf side (longest_chain side)
unfolding longest_chain
chain_powers side = chain_from side side (omega arith)

pub chain_value : (side n : ℕ) → ChainOf side n → n ≡ longest_chain side
chain_value side n p = chain_alone side n (longest_chain side) p (chain_powers side)

-- the longest side has a chain of 15
pub chain_few : (side : ℕ) → side ≤ 16384 → longest_chain side ≤ 15
chain_few side h =
    let d = (chain_powers side).not_more in
    ⊎_elim (λ (e : longest_chain side < 16). omega arith)
    (λ (g : 16 ≤ longest_chain side). let up = pow_mono {i = 16} {j = longest_chain side} g in absurd (omega arith))
    (cases_lt (longest_chain side) 16)
