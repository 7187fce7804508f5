use mir.Val.{bool_byte}
use Rattle.std.proofs.Common.{◌≡◌, ◌-◌, ◌+◌, ◌<◌, ◌≤◌, Bool, true, false, cond, filter, length, take_all, get_or, nat_le, sym, subst, refl, ap, ◌∙◌, arith}
use Rattle.std.proofs.lemmas.List.Filters.{length-filter_more}
use Rattle.std.specs.List.Sorted.{IsPartitionPoint}
use Rattle.dds.specs.declared.level.Level.{Level}
use Rattle.dds.specs.Tables.{blank}
use Rattle.dds.proofs.Spotting.{begins_split, holding, passing_first}
use Rattle.dds.proofs.layout.Layout.level_holding.Goals as goal

-- what a test adds to the count
one_or_none : (b : Bool) → (bool_byte b ≡ cond b 1 0) × (bool_byte b ≤ 1)
one_or_none true = (refl, omega arith)
one_or_none false = (refl, omega arith)

pub loop-level-preserved : goal.loop-level-preserved
loop-level-preserved c =
    let xs = c.levels-level-items.result.now in
    let begun : Level → Bool = λ l. nat_le l.begin c.args.offset in
    let more = length-filter_more begun xs c.loop-level.level-index blank c.loop-level-test.true in
    let one = one_or_none (begun (get_or xs c.loop-level.level-index blank)) in
    let added = c.from-begun.ensures in
    let counted = c.loop-level.invariant.0 in
    let few = c.loop-level.invariant.1 in
    (omega (arith, one.0, one.1), omega (arith, one.1))

-- the levels that begin at the offset or before come first, so their count is where they end
split : (c : goal.After-loop-level) → (1 ≤ c.loop-level.begun)
    × ((get_or c.args.self.now.table.levels (c.loop-level.begun - 1) blank).begin ≤ c.args.offset)
    × (c.loop-level.begun - 1 + 1 < c.args.self.now.table.level_count
    → c.args.offset < (get_or c.args.self.now.table.levels (c.loop-level.begun - 1 + 1) blank).begin)
split c =
    let s = c.args.self.now in
    let e = c.levels-level-items.ensures in
    let xs = c.levels-level-items.result.now in
    let begun : Level → Bool = λ l. nat_le l.begin c.args.offset in
    let few = c.loop-level.invariant.1 in
    let all = take_all c.loop-level.level-index xs c.loop-level-test.false in
    let counted : c.loop-level.begun ≡ length (filter begun xs) = c.loop-level.invariant.0 ∙ ap (λ ys. length (filter begun ys)) all in
    let first = passing_first begun xs (begins_split s.table s.sound c.args.offset xs e.levels e.count) in
    holding s.table s.sound c.args.offset c.loop-level.begun xs e.levels e.count (omega (arith, few, c.loop-level.auto.level-index-end))
    (subst (λ i. IsPartitionPoint (λ l. begun l ≡ true) (λ l. begun l ≡ false) xs i) (sym counted) first)

pub overflow_sub-result : goal.overflow_sub-result
overflow_sub-result c = (split c).0

pub returns-clause-within : goal.returns-clause-within
returns-clause-within c = let some = (split c).0 in omega (arith, some, c.loop-level.invariant.1, c.loop-level.auto.level-index-end, c.levels-level-items.ensures.count)

pub returns-clause-begun : goal.returns-clause-begun
returns-clause-begun c = (split c).1

pub returns-clause-last : goal.returns-clause-last
returns-clause-last c = (split c).2
