-- A call that is carried out leaves what the journal tells, and keeps the invariant.
use Rattle.std.proofs.Common.{◌≡◌, ℕ, suc, ◌+◌, ◌<◌, ◌≤◌, Bool, true, false, not, ◌||◌, eqb, ltb, leb, ◌⊎◌, List, [], ◌∷◌, ◌++◌, map, length, take, drop, Some, None, sym, refl, ap, ◌∙◌, subst, ap₂, inl, inr, arith}
use lib.Seq.{paste}
use Rattle.std.specs.List.{All}
use Rattle.std.proofs.lemmas.List.Elements.{All-cons, All-weaker}
use Rattle.std.proofs.lemmas.List.{length-map, length-append, map_push}
use Rattle.std.proofs.lemmas.Bool.{not-false, or_parts, leb-false, ltb-false, eqb-false, eqb-true, ne_eqb}
use Rattle.dds.specs.declared.area.Area.{Area}
use Rattle.dds.specs.declared.piece.Piece.{Piece}
use Rattle.dds.specs.declared.layout.Layout.{Layout}
use Rattle.dds.specs.declared.table.Table.{Table}
use Rattle.dds.specs.Places.{exists_in, area_in}
use Rattle.loans.specs.declared.loan.Loan.{Loan}
use Rattle.loans.specs.declared.mark.Mark.{Mark}
use Rattle.loans.specs.Lists.{less_first, less_all}
use Rattle.loans.specs.Books.{Book}
use Rattle.loans.specs.Lending.{granting, piece_is_out, loan_refusal}
use Rattle.loans.specs.Stocks.{Stock, is_number, is_out, the_loan, marks_of, are_own}
use Rattle.loans.specs.Strokes.{State, Painting, counted_loan, recounted, is_other_length, is_outside_row, lacks_space, stroke_place, stock_with, paint_refusal, undo_refusal}
use Rattle.loans.specs.LoanEnds.{stock_without, book_without, keep_refusal, cancel_refusal}
use Rattle.loans.specs.Rules.{carried_out}
use Rattle.loans.specs.Rules.Request.{lend, paint, undo, keep, cancel}
use Rattle.loans.specs.Journals.{Stroke, stroke_of, laying, bytes_under, undoable, mark_of, shelved}
use Rattle.loans.specs.Law.{InRow}
use Rattle.loans.proofs.Listed.{Split, split, None as NoneOf}
use Rattle.loans.proofs.Lawful.{Lawful}
use Rattle.loans.proofs.Passing.{passed}
use Rattle.loans.proofs.Soundness.{Sized}
use Rattle.loans.proofs.Shelved.{all_below, undoable_all, count_none, count_no, paint_file, paint_stock, undo_stock, undo_file, cancel_file}
use Rattle.loans.proofs.Outs.{out_counted, loan_counted, piece_counted, recounted_again, recounted_without, end_stock, undoable_cancelled, numbered_known, one_less}
use Rattle.loans.proofs.Invariant.{Laid, Invariant, all_sized, all_even, rows_old, undoable_lent, invariant_lent, laying_laid, laying_row, invariant_paint, invariant_undo, invariant_keep, invariant_cancel}
use Rattle.loans.proofs.Own.{plain_book, state_of, replayed_by}

-- the invariant, with every stroke ever laid and the counts of keeps and cancels
pub record WholeInvariant (t : Table) (mm mb : ℕ) (opening : List ℕ) (ls os : List Loan) (keeps cancels : ℕ) (ss old : List Stroke) : Type 0 where
  pub invariant : Invariant t mm mb opening ls os ss
  pub rows : All (InRow ls) old
  pub balance : length ls ≡ keeps + cancels + length os

-- what a call leaves
pub record Next (y : Layout) (number mm mb : ℕ) (opening : List ℕ) (s : State) (ls os : List Loan) (keeps cancels : ℕ) (ss old : List Stroke) : Type 0 where
  pub state : s ≡ replayed_by y number mm mb opening ls os keeps cancels ss
  pub whole : WholeInvariant y.table mm mb opening ls os keeps cancels ss old

-- file and shelves changed, and the book counted anew
changed : (b : Book) (before : Stock) (file file' : List ℕ) (k k' : Stock) → file ≡ file' → k ≡ k'
    → ◌≡◌ {A = State} (record { book = recounted (recounted b before) k; file = file; stock = k }) (state_of b file' k')
changed b before file file' k k' e f =
    ap₂ (λ (x : List ℕ) (y : Stock). let s : State = record { book = recounted (recounted b before) y; file = x; stock = y } in s) e f
    ∙ ap (λ (x : Book). let s : State = record { book = x; file = file'; stock = k' } in s) (recounted_again b before k')

module _ (y : Layout) (number mm mb : ℕ) (opening : List ℕ) (ls os : List Loan) (keeps cancels : ℕ) (ss old : List Stroke)
    (lawful : Lawful y.table (length opening)) (whole : WholeInvariant y.table mm mb opening ls os keeps cancels ss old) where
  abbrev t : Table
  t = y.table

  abbrev here : State
  here = replayed_by y number mm mb opening ls os keeps cancels ss

  abbrev shelf : List Mark
  shelf = map mark_of (undoable os ss)

  -- what it takes that a call is carried out
  lend_says : (p : Piece) → loan_refusal here.book p ≡ None → (exists_in t p ≡ true) × (piece_is_out os p ≡ false)
  lend_says p e =
      let a = passed (not (exists_in t p)) _ _ e in
      let b = passed (piece_is_out here.book.outs p) _ _ a.1 in
      (not-false _ a.0, sym (piece_counted shelf os p) ∙ b.0)

  record Paints (p : Painting) : Type 0 where
    out : is_out os p.loan ≡ true
    whose : (the_loan os p.loan).borrower ≡ p.borrower
    some : 0 < length p.laid
    low : p.row < (the_loan os p.loan).area.rows
    short : p.first + length p.laid ≤ (the_loan os p.loan).area.row_bytes
    one_more : length (undoable os ss) < mm
    more : length (all_below (undoable os ss)) + length p.laid ≤ mb

  out_says : (n : ℕ) → not (is_out here.book.outs n) ≡ false → is_out os n ≡ true
  out_says n e = sym (out_counted shelf os n) ∙ not-false _ e

  paint_says : (p : Painting) → paint_refusal here p ≡ None → Paints p
  paint_says p e =
      let a = passed (is_other_length here) _ _ e in
      let b = passed (not (is_out here.book.outs p.loan)) _ _ a.1 in
      let c = passed (not (eqb (the_loan here.book.outs p.loan).borrower p.borrower)) _ _ b.1 in
      let d = passed (not (are_own here.book here.stock)) _ _ c.1 in
      let f = passed (is_outside_row (the_loan here.book.outs p.loan).area p) _ _ d.1 in
      let g = passed (lacks_space here.stock (length p.laid)) _ _ f.1 in
      let r : Area = (the_loan os p.loan).area in
      let in_row : is_outside_row r p ≡ false = subst (λ (x : Area). is_outside_row x p ≡ false) (loan_counted shelf (λ l. l.area) (λ l. refl) os p.loan) f.0 in
      let none : Bool = eqb (length p.laid) 0 in
      let high : Bool = leb r.rows p.row in
      let long : Bool = ltb r.row_bytes (p.first + length p.laid) in
      let full : Bool = leb mm (length shelf) in
      let over : Bool = ltb mb (length (all_below (undoable os ss)) + length p.laid) in
      let u = or_parts none (high || long) in_row in
      let v = or_parts high long u.1 in
      let w = or_parts full over g.0 in
      let empty = eqb-false (length p.laid) 0 u.0 in
      let few = leb-false mm (length shelf) w.0 in
      let count = length-map (undoable os ss) mark_of in
      record {
        out = out_says p.loan b.0;
        whose = sym (loan_counted shelf (λ l. l.borrower) (λ l. refl) os p.loan) ∙ eqb-true _ _ (not-false _ c.0);
        some = omega arith;
        low = leb-false _ _ v.0;
        short = ltb-false _ _ v.1;
        one_more = omega arith;
        more = ltb-false mb _ w.1;
      }

  undo_says : (n who : ℕ) → undo_refusal here n who ≡ None → (is_out os n ≡ true) × (marks_of n shelf ≡ 0 → ⊥)
  undo_says n who e =
      let a = passed (is_other_length here) _ _ e in
      let b = passed (not (is_out here.book.outs n)) _ _ a.1 in
      let c = passed (not (eqb (the_loan here.book.outs n).borrower who)) _ _ b.1 in
      let d = passed (not (are_own here.book here.stock)) _ _ c.1 in
      let f = passed (eqb (marks_of n shelf) 0) _ _ d.1 in
      (out_says n b.0, eqb-false _ 0 f.0)

  keep_says : (n : ℕ) → keep_refusal here.book here.stock n ≡ None → is_out os n ≡ true
  keep_says n e = out_says n (passed (not (is_out here.book.outs n)) _ _ e).0

  cancel_says : (n : ℕ) → cancel_refusal here n ≡ None → is_out os n ≡ true
  cancel_says n e =
      let a = passed (is_other_length here) _ _ e in
      out_says n (passed (not (is_out here.book.outs n)) _ _ a.1).0

  -- no mark has the number that the next loan gets
  unmarked : marks_of (length ls + 1) shelf ≡ 0
  unmarked =
      count_none (length ls + 1) (undoable os ss)
      (undoable_all os (λ s. stroke_of (length ls + 1) s ≡ false) ss
      (All-weaker (Laid opening ls) (λ s. stroke_of (length ls + 1) s ≡ false)
      (λ s r. let a = numbered_known ls s.painting.loan whole.invariant.numbers r.inside.lent in ne_eqb (length ls + 1) s.painting.loan (λ e. omega arith)) ss whole.invariant.laid))

  pub step_lend : (p : Piece) (who : ℕ) → loan_refusal here.book p ≡ None
      → (let new : Loan = granting (length ls + 1) p who (area_in t p) in
      Next y number mm mb opening (carried_out here (lend p who)) (new ∷ ls) (os ++ new ∷ []) keeps cancels ss old)
  step_lend p who e =
      let h = lend_says p e in
      let new : Loan = granting (length ls + 1) p who (area_in t p) in
      let file' : List ℕ = bytes_under opening ss 0 (length opening) in
      let k : Stock = here.stock in
      let one : length ls + 1 ≡ suc (length ls) = omega arith in
      let none : 0 ≡ marks_of (length ls + 1) shelf = sym unmarked in
      let counted : new ≡ counted_loan shelf new = λ i. record { number = length ls + 1; borrower = who; piece = p; area = area_in t p; strokes = none i } in
      let outs' : map (counted_loan shelf) os ++ new ∷ [] ≡ map (counted_loan shelf) (os ++ new ∷ []) =
      ap (λ (l : Loan). map (counted_loan shelf) os ++ l ∷ []) counted ∙ sym (map_push (counted_loan shelf) os new) in
      let pushed = length-append os (new ∷ []) in
      let sum = whole.balance in
      record {
        state =
            (λ i. record {
              book = record {
                layout = y;
                number = Some number;
                outs = outs' i;
                granted = one i;
                kept = keeps;
                cancelled = cancels;
                marks = length k.marks;
                bytes = length k.bytes;
              };
              file = file';
              stock = k;
            })
            ∙ ap (λ (v : List Stroke). state_of (plain_book y number (new ∷ ls) (os ++ new ∷ []) keeps cancels) file' (shelved mm mb v))
            (sym (undoable_lent t mm mb opening ls os ss whole.invariant p who h.0 h.1));
        whole = record {
          invariant = invariant_lent t mm mb opening ls os ss whole.invariant p who h.0 h.1;
          rows = rows_old ls whole.invariant.numbers new refl old whole.rows;
          balance = omega arith;
        };
      }

  -- a stroke laid in an area
  laid_in : Painting → Area → State
  laid_in p a =
      let at : ℕ = stroke_place a p in
      let k : Stock = stock_with here.stock (record { loan = p.loan; place = at; length = length p.laid }) (take (length p.laid) (drop at here.file)) in
      record { book = recounted here.book k; file = paste here.file at p.laid (length p.laid); stock = k }

  pub step_paint : (p : Painting) → paint_refusal here p ≡ None
      → Next y number mm mb opening (carried_out here (paint p)) ls os keeps cancels (laying opening os ss p ∷ ss) (laying opening os ss p ∷ old)
  unfolding laid_in
  step_paint p e =
      let h = paint_says p e in
      let stroke : Stroke = laying opening os ss p in
      let laid = laying_laid t mm mb opening ls os ss whole.invariant lawful p h.out h.some h.low h.short in
      record {
        state =
            ap (laid_in p) (loan_counted shelf (λ l. l.area) (λ l. refl) os p.loan)
            ∙ changed (plain_book y number ls os keeps cancels) here.stock _ _ _ _
            (paint_file os opening stroke ss laid.sized.1) (paint_stock os mm mb opening stroke ss h.out refl laid.sized.1);
        whole = record {
          invariant = invariant_paint t mm mb opening ls os ss whole.invariant lawful p h.out h.some h.low h.short h.one_more h.more;
          rows =
              All-cons (InRow ls) stroke old
              (laying_row t mm mb opening ls os ss whole.invariant lawful p h.out h.some h.low h.short h.whose) whole.rows;
          balance = whole.balance;
        };
      }

  pub step_undo : (n who : ℕ) → undo_refusal here n who ≡ None
      → Next y number mm mb opening (carried_out here (undo n who)) ls os keeps cancels (less_first (stroke_of n) ss) old
  step_undo n who e = go (split (stroke_of n) ss)
    where
      out : is_out os n ≡ true
      out = (undo_says n who e).0

      sized : All (Sized opening) ss
      sized = all_sized opening ls ss whole.invariant.laid

      go : Split (stroke_of n) ss ⊎ NoneOf (stroke_of n) ss → Next y number mm mb opening (carried_out here (undo n who)) ls os keeps cancels (less_first (stroke_of n) ss) old
      go (inr none) = absurd ((undo_says n who e).1 (count_no os opening n out ss none))
      go (inl s) = record {
        state = changed (plain_book y number ls os keeps cancels) here.stock _ _ _ _ (undo_file os opening n out ss s whole.invariant.sound sized) (undo_stock os opening n out mm mb ss s sized);
        whole = record { invariant = invariant_undo t mm mb opening ls os ss whole.invariant n out s; rows = whole.rows; balance = whole.balance };
      }

  -- a loan that ended, by a book and shelves that are the same in other words
  ended : (n more less keeps' cancels' : ℕ) (file file' : List ℕ) (k : Stock) → keeps + more ≡ keeps' → cancels + less ≡ cancels' → file ≡ file' → stock_without here.stock n ≡ k
      → ◌≡◌ {A = State} (record { book = recounted (book_without here.book n more less) (stock_without here.stock n); file = file; stock = stock_without here.stock n })
      (state_of (plain_book y number ls (less_all (is_number n) os) keeps' cancels') file' k)
  ended n more less keeps' cancels' file file' k a b c d =
      ap (λ (book' : Book). let s : State = record { book = book'; file = file; stock = stock_without here.stock n } in s)
      (recounted_without (plain_book y number ls os keeps cancels) here.stock (stock_without here.stock n) n more less)
      ∙ (λ i. state_of (plain_book y number ls (less_all (is_number n) os) (a i) (b i)) (c i) (d i))

  pub step_keep : (n : ℕ) → keep_refusal here.book here.stock n ≡ None
      → Next y number mm mb opening (carried_out here (keep n)) ls (less_all (is_number n) os) (keeps + 1) cancels ss old
  step_keep n e =
      let out = keep_says n e in
      let one = one_less n os whole.invariant.once out in
      let sum = whole.balance in
      record {
        state = ended n 1 0 (keeps + 1) cancels _ _ _ refl (omega arith) refl (end_stock mm mb os n ss (all_even t mm mb opening ls os ss whole.invariant));
        whole = record { invariant = invariant_keep t mm mb opening ls os ss whole.invariant n; rows = whole.rows; balance = omega arith };
      }

  pub step_cancel : (n : ℕ) → cancel_refusal here n ≡ None
      → Next y number mm mb opening (carried_out here (cancel n)) ls (less_all (is_number n) os) keeps (cancels + 1) (less_all (stroke_of n) ss) old
  step_cancel n e =
      let out = cancel_says n e in
      let one = one_less n os whole.invariant.once out in
      let sum = whole.balance in
      let gone = (cancel_file os opening n out _ ss refl whole.invariant.sound (all_sized opening ls ss whole.invariant.laid)).0 in
      record {
        state =
            ended n 0 1 keeps (cancels + 1) _ _ _ (omega arith) refl gone
            (end_stock mm mb os n ss (all_even t mm mb opening ls os ss whole.invariant) ∙ ap (shelved mm mb) (sym (undoable_cancelled os n ss)));
        whole = record { invariant = invariant_cancel t mm mb opening ls os ss whole.invariant n out; rows = whole.rows; balance = omega arith };
      }
