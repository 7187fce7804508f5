-- What holds where no refusal of a call applies.
use Rattle.std.proofs.Common.{◌≡◌, ℕ, suc, ◌+◌, ◌*◌, ◌<◌, ◌≤◌, true, false, not, eqb, ltb, leb, length, None, mul-le-mul_right, suc-mul, mul_comm, arith}
use Rattle.std.proofs.lemmas.Bool.{not-false, or_parts, and_parts, leb-false, ltb-false, eqb-true, eqb-false}
use Rattle.dds.specs.declared.area.Area.{Area}
use Rattle.loans.specs.Books.{Book}
use Rattle.loans.specs.Stocks.{Stock, is_out, the_loan, marks_of, lengths, all_sound, all_counted, are_own}
use Rattle.loans.proofs.Passing.{passed}
use Rattle.loans.specs.Strokes.{State, Painting, is_other_length, is_outside_row, lacks_space, paint_refusal, stroke_place, undo_refusal}

-- of a paint
pub record MayPaint (s : State) (p : Painting) : Type 0 where
  pub sized : length s.file ≡ s.book.layout.table.length
  pub own_shelves : are_own s.book s.stock ≡ true
  pub in_row : is_outside_row (the_loan s.book.outs p.loan).area p ≡ false
  pub space : lacks_space s.stock (length p.laid) ≡ false

pub may_paint : (s : State) (p : Painting) → paint_refusal s p ≡ None → MayPaint s p
may_paint s p none =
    let a = passed (is_other_length s) _ _ none in
    let b = passed (not (is_out s.book.outs p.loan)) _ _ a.1 in
    let c = passed (not (eqb (the_loan s.book.outs p.loan).borrower p.borrower)) _ _ b.1 in
    let d = passed (not (are_own s.book s.stock)) _ _ c.1 in
    let e = passed (is_outside_row (the_loan s.book.outs p.loan).area p) _ _ d.1 in
    let f = passed (lacks_space s.stock (length p.laid)) _ _ e.1 in
    record { sized = eqb-true _ _ (not-false _ a.0); own_shelves = not-false _ d.0; in_row = e.0; space = f.0 }

-- a stroke that is not outside its row lies in its area
pub stroke_inside : (a : Area) (p : Painting) → a.length ≡ a.row_bytes * a.rows → is_outside_row a p ≡ false
    → (0 < length p.laid) × (stroke_place a p + length p.laid ≤ a.place + a.length)
stroke_inside a p rows in_row =
    let x = or_parts (eqb (length p.laid) 0) _ in_row in
    let y = or_parts (leb a.rows p.row) (ltb a.row_bytes (p.first + length p.laid)) x.1 in
    let row : p.row < a.rows = leb-false _ _ y.0 in
    let end : p.first + length p.laid ≤ a.row_bytes = ltb-false _ _ y.1 in
    let up_to : suc p.row * a.row_bytes ≤ a.rows * a.row_bytes = mul-le-mul_right a.row_bytes (omega arith) in
    let one = suc-mul p.row a.row_bytes in
    let turned = mul_comm a.rows a.row_bytes in
    (omega (arith, eqb-false _ _ x.0), omega (arith, up_to, one, turned, rows, end))

-- of an undo
pub record MayUndo (s : State) (n : ℕ) : Type 0 where
  pub sized : length s.file ≡ s.book.layout.table.length
  pub own_shelves : are_own s.book s.stock ≡ true
  pub some : 0 < marks_of n s.stock.marks

pub may_undo : (s : State) (n who : ℕ) → undo_refusal s n who ≡ None → MayUndo s n
may_undo s n who none =
    let a = passed (is_other_length s) _ _ none in
    let b = passed (not (is_out s.book.outs n)) _ _ a.1 in
    let c = passed (not (eqb (the_loan s.book.outs n).borrower who)) _ _ b.1 in
    let d = passed (not (are_own s.book s.stock)) _ _ c.1 in
    let e = passed (eqb (marks_of n s.stock.marks) 0) _ _ d.1 in
    record { sized = eqb-true _ _ (not-false _ a.0); own_shelves = not-false _ d.0; some = omega (arith, eqb-false _ _ e.0) }

-- of shelves that are the job's
pub record Ours (b : Book) (k : Stock) : Type 0 where
  pub marks : length k.marks ≡ b.marks
  pub bytes : length k.bytes ≡ b.bytes
  pub counted : all_counted b.outs k.marks ≡ true
  pub sound : all_sound b.outs k.marks ≡ true
  pub covered : lengths k.marks ≡ length k.bytes

pub own_shelves : (b : Book) (k : Stock) → are_own b k ≡ true → Ours b k
own_shelves b k e =
    let x = and_parts _ _ e in
    let y = and_parts _ _ x.0 in
    let z = and_parts _ _ x.1 in
    let w = and_parts _ _ z.1 in
    record { marks = eqb-true _ _ y.0; bytes = eqb-true _ _ y.1; counted = z.0; sound = w.0; covered = eqb-true _ _ w.1 }
