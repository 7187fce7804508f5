use Rattle.std.proofs.Common.{◌≤◌, ap, length, sym, subst, arith, rules}
use Rattle.std.proofs.lemmas.List.{length-drop}
use Rattle.loans.specs.Stocks.{ShelfPair, stock_of}
use Rattle.loans.proofs.Sifted.{Sifted, lengths_from, next_slides, next_gone, run_slides, run_moved, marks_cut, bytes_cut, sifted_all}
use Rattle.loans.proofs.shelves.Shelves.drop_loan.Goals as goal

pub and-passed-requires-clause-marks : goal.and-passed-requires-clause-marks
and-passed-requires-clause-marks c =
    omega (arith, (next_slides c.loop-passed.invariant c.requires _ c.marks_behind.ensures.marks c.in-len1-up.len_at_least).marks, c.marks_behind.ensures.fits.marks, c.marks_behind.ensures.fits.marks_capped)

pub and-passed-requires-clause-bytes : goal.and-passed-requires-clause-bytes
and-passed-requires-clause-bytes c =
    omega (arith, (next_slides c.loop-passed.invariant c.requires _ c.marks_behind.ensures.marks c.in-len1-up.len_at_least).bytes, c.marks_behind.ensures.fits.bytes, c.marks_behind.ensures.fits.bytes_capped)

pub loop-passed-preserved-then-mark-loan : goal.loop-passed-preserved-then-mark-loan
loop-passed-preserved-then-mark-loan c =
    next_gone c.loop-passed.invariant c.requires _ c.marks_behind.ensures.marks c.in-len1-up.len_at_least c.if-mark-loan.true _ c.and-passed.ensures

pub before_first-run-requires : goal.before_first-run-requires
before_first-run-requires c =
    omega (arith, lengths_from c.loop-passed.invariant c.requires _ c.marks_behind-else-mark-loan.ensures.marks, c.requires, c.marks_behind-else-mark-loan.ensures.fits.bytes, c.marks_behind-else-mark-loan.ensures.fits.bytes_capped)

pub slide_strokes-requires : goal.slide_strokes-requires
slide_strokes-requires c = run_slides c.loop-passed.invariant c.requires _ c.marks_behind-else-mark-loan.ensures.marks _ c.before_first-run.ensures

pub and-stays-requires-clause-marks : goal.and-stays-requires-clause-marks
and-stays-requires-clause-marks c =
    let slides = run_slides c.loop-passed.invariant c.requires _ c.marks_behind-else-mark-loan.ensures.marks _ c.before_first-run.ensures in
    omega (arith, slides.marks, slides.marks_down, c.marks_behind-else-mark-loan.ensures.fits.marks, c.marks_behind-else-mark-loan.ensures.fits.marks_capped)

pub and-stays-requires-clause-bytes : goal.and-stays-requires-clause-bytes
and-stays-requires-clause-bytes c =
    let slides = run_slides c.loop-passed.invariant c.requires _ c.marks_behind-else-mark-loan.ensures.marks _ c.before_first-run.ensures in
    omega (arith, slides.bytes, slides.bytes_down, c.marks_behind-else-mark-loan.ensures.fits.bytes, c.marks_behind-else-mark-loan.ensures.fits.bytes_capped)

pub and-passed-requires-else-mark-loan-clause-marks : goal.and-passed-requires-else-mark-loan-clause-marks
and-passed-requires-else-mark-loan-clause-marks c =
    let slides = run_slides c.loop-passed.invariant c.requires _ c.marks_behind-else-mark-loan.ensures.marks _ c.before_first-run.ensures in
    omega (arith, slides.marks, c.marks_behind-else-mark-loan.ensures.fits.marks, c.marks_behind-else-mark-loan.ensures.fits.marks_capped)

pub and-passed-requires-else-mark-loan-clause-bytes : goal.and-passed-requires-else-mark-loan-clause-bytes
and-passed-requires-else-mark-loan-clause-bytes c =
    let slides = run_slides c.loop-passed.invariant c.requires _ c.marks_behind-else-mark-loan.ensures.marks _ c.before_first-run.ensures in
    omega (arith, slides.bytes, c.marks_behind-else-mark-loan.ensures.fits.bytes, c.marks_behind-else-mark-loan.ensures.fits.bytes_capped)

pub loop-passed-preserved : goal.loop-passed-preserved
loop-passed-preserved c =
    run_moved c.loop-passed.invariant c.requires _ c.marks_behind-else-mark-loan.ensures.marks _ c.before_first-run.ensures _ c.slide_strokes.ensures _ _
    c.and-passed-else-mark-loan.ensures c.and-stays.ensures

pub returns : goal.returns
returns c =
    let past = ap length c.marks_behind.ensures.marks in
    let left = length-drop c.loop-passed.passed.marks c.loop-passed.self.marks.items in
    let all : length c.args.self.now.marks.items ≤ c.loop-passed.passed.marks = omega (arith, past, left, c.in_default.len_below, c.loop-passed.invariant.marks_count) in
    let s = subst (λ (v : ShelfPair). Sifted (stock_of c.args.self.now) (stock_of v) c.args.loan c.loop-passed.passed c.loop-passed.stays) (sym c.self.view_is) c.loop-passed.invariant in
    search (rules, marks_cut s all c.requires, bytes_cut s all c.requires, sifted_all s all c.requires)
