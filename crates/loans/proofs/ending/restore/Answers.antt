use Rattle.std.proofs.Common.{ap, refl, arith, rules}
use Rattle.loans.specs.declared.mark.Mark.{Mark}
use Rattle.loans.proofs.NewestMark.{stepped}
use Rattle.loans.proofs.Restored.{back_long, back_fits, past_other, past_one}
use Rattle.loans.proofs.ending.restore.Goals as goal

pub overflow_sub-begin : goal.overflow_sub-begin
overflow_sub-begin c =
    let s = stepped c.args.marks.now _ _ _ c.loop-mark.invariant.0 c.in-Some.ensures.steps in
    let long = back_long c.loop-mark.invariant.1 s.some c.requires.covered in
    let m = ap (λ (x : Mark). x.length) s.last in
    omega arith

pub slice_bounds-lay-end : goal.slice_bounds-lay-end
slice_bounds-lay-end c =
    let s = stepped c.args.marks.now _ _ _ c.loop-mark.invariant.0 c.in-Some.ensures.steps in
    let fits = back_fits c.loop-mark.invariant.1 s.some c.requires.covered in
    search rules

pub loop-mark-preserved-then-mark-loan : goal.loop-mark-preserved-then-mark-loan
loop-mark-preserved-then-mark-loan c =
    let s = stepped c.args.marks.now _ _ _ c.loop-mark.invariant.0 c.in-Some.ensures.steps in
    (s.front, past_one s c.loop-mark.invariant.1 c.requires.covered c.if-mark-loan.true c.requires.inside c.lay.new.file _ refl c.lay.ensures)

pub loop-mark-preserved : goal.loop-mark-preserved
loop-mark-preserved c =
    let s = stepped c.args.marks.now _ _ _ c.loop-mark.invariant.0 c.in-Some.ensures.steps in
    (s.front, past_other s c.loop-mark.invariant.1 c.requires.covered c.if-mark-loan.false)
