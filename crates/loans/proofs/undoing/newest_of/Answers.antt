use Rattle.std.proofs.Common.{ℕ, ◌-◌, ◌≡◌, ◌≢◌, subst₂, ap, arith}
use Rattle.loans.specs.declared.mark.Mark.{Mark}
use Rattle.loans.specs.steps.Taking.{NewestAt}
use Rattle.loans.proofs.NewestMark.{Unfound, stepped, last_apart, long_enough, newest_here, unfound_before, unfound_none}
use Rattle.loans.proofs.undoing.newest_of.Goals as goal

pub offset_bounds-left-left : goal.offset_bounds-left-left
offset_bounds-left-left c = omega (arith, c.loop-left.invariant.1.within, c.requires.short)

pub overflow_sub-begin : goal.overflow_sub-begin
overflow_sub-begin c =
    let s = stepped c.args.marks.now _ _ _ c.loop-left.invariant.0 (last_apart _ c.in-len1-up.len_at_least) in
    omega (arith, long_enough c.loop-left.invariant.1 c.in-len1-up.len_at_least, ap (λ (m : Mark). m.length) s.last)

pub returns-then-mark-loan : goal.returns-then-mark-loan
returns-then-mark-loan c =
    let s = stepped c.args.marks.now _ _ _ c.loop-left.invariant.0 (last_apart _ c.in-len1-up.len_at_least) in
    subst₂ (λ (m : Mark) (k : ℕ). m.loan ≡ c.args.loan → NewestAt c.args.marks.now c.args.loan k (c.loop-left.begin - m.length)) s.last s.less
    (newest_here c.loop-left.invariant.1 c.in-len1-up.len_at_least) c.if-mark-loan.true

pub loop-left-smaller : goal.loop-left-smaller
loop-left-smaller c =
    let s = stepped c.args.marks.now _ _ _ c.loop-left.invariant.0 (last_apart _ c.in-len1-up.len_at_least) in
    omega (arith, s.less, c.in-len1-up.len_at_least)

pub loop-left-preserved : goal.loop-left-preserved
loop-left-preserved c =
    let s = stepped c.args.marks.now _ _ _ c.loop-left.invariant.0 (last_apart _ c.in-len1-up.len_at_least) in (
      s.front,
      subst₂ (λ (m : Mark) (k : ℕ). m.loan ≢ c.args.loan → Unfound c.args.marks.now c.args.loan k (c.loop-left.begin - m.length)) s.last s.less
          (unfound_before c.loop-left.invariant.1 c.in-len1-up.len_at_least) c.if-mark-loan.false,
    )

pub returns : goal.returns
returns c = unfound_none c.loop-left.invariant.1 (omega (arith, c.in_default.len_below))
