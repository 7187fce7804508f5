-- What a paint that is carried out leaves.
use Rattle.std.proofs.Common.{◌≡◌, ℕ, ◌+◌, ◌-◌, ◌<◌, ◌≤◌, true, ◌≢◌, List, length, get_or, take, drop, None, refl, ap, ◌∙◌, arith}
use lib.Seq.{paste}
use Rattle.std.proofs.lemmas.Bool.{cond-true, cond-false, eq-eqb, ne_eqb}
use Rattle.loans.specs.declared.loan.Loan.{Loan}
use Rattle.loans.specs.declared.mark.Mark.{Mark}
use Rattle.loans.specs.Ledgers.{no_loan, NumbersRise}
use Rattle.loans.specs.Books.{Book, Orderly}
use Rattle.loans.specs.Stocks.{Stock, Fits, the_loan, of_loan, marks_of, are_own}
use Rattle.loans.specs.steps.Finding.{IsAt}
use Rattle.loans.specs.Strokes.{State, Painting, state_of, recounted, paint_refusal, stroke_place, stock_with, painted_stock}
use Rattle.loans.specs.steps.Holding.{PaintAt}
use Rattle.loans.specs.Rules.Request.{paint}
use Rattle.loans.specs.Calls.{Carried}
use Rattle.loans.specs.steps.Writing.{book_counted}
use Rattle.loans.proofs.Counting.{out_inside}
use Rattle.loans.proofs.Marks.{marks_push}
use Rattle.loans.proofs.Tallying.{marks_few}
use Rattle.loans.proofs.Recounting.{counted_at, recount_at}
use Rattle.loans.proofs.Allowed.{may_paint, stroke_inside, own_shelves}

-- a loan of a job has no more strokes than its shelf has marks
pub few_strokes : (b : Book) (v : Stock) (k : ℕ) → Fits v → are_own b v ≡ true → k < length b.outs → (get_or b.outs k no_loan).strokes ≤ 1073741824
few_strokes b v k fits e h =
    let o = own_shelves b v e in
    omega (arith, counted_at b.outs v.marks o.counted k h, marks_few (get_or b.outs k no_loan).number v.marks, fits.marks, fits.marks_capped)

-- the tests of a paint, passed
pub paint_at : (s : State) (p : Painting) (k at : ℕ) → Fits s.stock → Orderly s.book → paint_refusal s p ≡ None
    → IsAt s.book.outs p.loan k → at ≡ stroke_place (the_loan s.book.outs p.loan).area p → PaintAt s p k at
paint_at s p k at fits orderly none is_at is =
    let may = may_paint s p none in
    let in-file = out_inside s.book orderly k is_at.inside _ is_at.found in
    let lies = stroke_inside (the_loan s.book.outs p.loan).area p in-file.1 may.in_row in
    record {
      none = none;
      loan = is_at;
      place = is;
      inside = omega (arith, lies.1, in-file.0, may.sized, is);
      few = few_strokes s.book s.stock k fits may.own_shelves is_at.inside;
    }

-- a job that has one count of strokes anew, and the counts of its shelves, is the job recounted
pub recounts : (s t : Book) (k n : ℕ) (v w : Stock) → NumbersRise s.outs → are_own s v ≡ true → IsAt s.outs n k
    → ((m : ℕ) → m ≢ n → marks_of m w.marks ≡ marks_of m v.marks) → t ≡ book_counted s k (marks_of n w.marks) w → t ≡ recounted s w
recounts s t k n v w rising e is_at others is =
    is ∙ ap (λ (ls : List Loan). let b : Book = record s { outs = ls; marks = length w.marks; bytes = length w.bytes } in b)
    (recount_at s.outs v.marks w.marks n k (own_shelves s v e).counted rising is_at others)

-- the steps of a paint: what they left, and what each is
pub record PaintSteps (s t : Book) (f f' : List ℕ) (v w : Stock) (p : Painting) (k at n : ℕ) : Type 0 where
  pub tested : PaintAt (state_of s f v) p k at
  pub shelved : w ≡ stock_with v (record { loan = p.loan; place = at; length = length p.laid }) (take (at + length p.laid - at) (drop at f))
  pub laid : f' ≡ paste f at p.laid (length p.laid)
  pub strokes : n ≡ (get_or s.outs k no_loan).strokes
  pub rising : NumbersRise s.outs
  pub book : t ≡ book_counted s k (n + 1) w

module _ {s t : Book} {f f' : List ℕ} {v w : Stock} {p : Painting} {k at n : ℕ} (x : PaintSteps s t f f' v w p k at n) where
  abbrev st : State
  st = state_of s f v

  abbrev mark : Mark
  mark = record { loan = p.loan; place = at; length = length p.laid }

  stock_is : w ≡ painted_stock st p
  stock_is =
      let all : at + length p.laid - at ≡ length p.laid = omega arith in
      x.shelved ∙ ap (λ y. stock_with v mark (take y (drop at f))) all
      ∙ ap (λ y. stock_with v (record { loan = p.loan; place = y; length = length p.laid }) (take (length p.laid) (drop y f))) x.tested.place

  count_is : n + 1 ≡ marks_of p.loan w.marks
  count_is =
      let o = own_shelves s v (may_paint st p x.tested.none).own_shelves in
      let is_at = x.tested.loan in
      let before = x.strokes ∙ counted_at s.outs v.marks o.counted k is_at.inside ∙ ap (λ y. marks_of y v.marks) is_at.number in
      let one = marks_push p.loan v.marks mark ∙ cond-true (of_loan p.loan mark) _ _ (eq-eqb p.loan p.loan refl) in
      let all = ap (λ (y : Stock). marks_of p.loan y.marks) x.shelved in
      omega (arith, before, one, all)

  others : (m : ℕ) → m ≢ p.loan → marks_of m w.marks ≡ marks_of m v.marks
  others m ne = ap (λ (y : Stock). marks_of m y.marks) x.shelved ∙ marks_push m v.marks mark ∙ cond-false (of_loan m mark) _ _ (ne_eqb m p.loan ne)

  book_is : t ≡ recounted s w
  book_is =
      recounts s t k p.loan v w x.rising (may_paint st p x.tested.none).own_shelves x.tested.loan others (x.book ∙ ap (λ i. book_counted s k i w) count_is)

  pub paint_carried : Carried (paint p) st (n + 1) (state_of t f' w)
  paint_carried = record {
    none = x.tested.none;
    answer = count_is ∙ ap (λ (y : Stock). marks_of p.loan y.marks) stock_is;
    state = λ i. record {
      book = (book_is ∙ ap (recounted s) stock_is) i;
      file = (x.laid ∙ ap (λ y. paste f y p.laid (length p.laid)) x.tested.place) i;
      stock = stock_is i;
    };
  }
