-- Where file and shelves are the job's own no call answers that they are another's.
use Rattle.std.proofs.Common.{◌≡◌, ℕ, ◌≢◌, Bool, true, false, cond, not, eqb, leb, length, Some, None, Err, Option, ap, arith}
use Rattle.std.proofs.lemmas.Bool.{not_from_true, true≢false}
use Rattle.refusal.specs.declared.Refusal.{Refusal}
use Rattle.refusal.specs.declared.Refusal.TheVariants.{OtherLength, ForeignShelves}
use Rattle.refusal.specs.Numbers.{number_of}
use Rattle.dds.specs.Places.{exists_in}
use Rattle.loans.specs.Lending.{piece_is_out}
use Rattle.loans.specs.Stocks.{is_out, the_loan, marks_of, are_own}
use Rattle.loans.specs.Strokes.{State, is_other_length, is_outside_row, lacks_space}
use Rattle.loans.specs.Rules.{Request, call_refusal, refusal_or}
use Rattle.loans.specs.Rules.Request.{lend, paint, undo, keep, cancel}

-- a refusal's number, and 0 where nothing is refused
abbrev numbered : Option Refusal → ℕ
numbered None = 0
numbered (Some e) = number_of e

-- neither another length nor foreign shelves, as the numbers tell
abbrev pub NotAnothers : Option Refusal → Type 0
NotAnothers r = (numbered r ≢ number_of OtherLength) × (numbered r ≢ number_of ForeignShelves)

-- a test that is false; and the test of a refusal that is neither
not_tested : (b : Bool) (d : Refusal) (x : Option Refusal) → b ≡ false → NotAnothers x → NotAnothers (cond b (Some d) x)
not_tested true d x f h = absurd (true≢false f)
not_tested false d x f h = h

tested : (b : Bool) (d : Refusal) (x : Option Refusal) → NotAnothers (Some d) → NotAnothers x → NotAnothers (cond b (Some d) x)
tested true d x f h = f
tested false d x f h = h

-- whose file and shelves are the job's own
module _ (s : State) (same : is_other_length s ≡ false) (own_shelves : are_own s.book s.stock ≡ true) where
  not_foreign : not (are_own s.book s.stock) ≡ false
  not_foreign = not_from_true _ own_shelves

  pub not_anothers : (d : Request) → NotAnothers (call_refusal s d)
  not_anothers (lend p who) =
      tested (not (exists_in s.book.layout.table p)) _ _ (omega arith, omega arith)
      (tested (piece_is_out s.book.outs p) _ _ (omega arith, omega arith)
      (tested (leb 32 (length s.book.outs)) _ _ (omega arith, omega arith)
      (tested (leb 65535 s.book.granted) _ _ (omega arith, omega arith) (omega arith, omega arith))))
  not_anothers (paint p) =
      not_tested (is_other_length s) OtherLength _ same
      (tested (not (is_out s.book.outs p.loan)) _ _ (omega arith, omega arith)
      (tested (not (eqb (the_loan s.book.outs p.loan).borrower p.borrower)) _ _ (omega arith, omega arith)
      (not_tested (not (are_own s.book s.stock)) ForeignShelves _ not_foreign
      (tested (is_outside_row (the_loan s.book.outs p.loan).area p) _ _ (omega arith, omega arith)
      (tested (lacks_space s.stock (length p.laid)) _ _ (omega arith, omega arith) (omega arith, omega arith))))))
  not_anothers (undo n who) =
      not_tested (is_other_length s) OtherLength _ same
      (tested (not (is_out s.book.outs n)) _ _ (omega arith, omega arith)
      (tested (not (eqb (the_loan s.book.outs n).borrower who)) _ _ (omega arith, omega arith)
      (not_tested (not (are_own s.book s.stock)) ForeignShelves _ not_foreign
      (tested (eqb (marks_of n s.stock.marks) 0) _ _ (omega arith, omega arith) (omega arith, omega arith)))))
  not_anothers (keep n) =
      tested (not (is_out s.book.outs n)) _ _ (omega arith, omega arith)
      (not_tested (not (are_own s.book s.stock)) ForeignShelves _ not_foreign (omega arith, omega arith))
  not_anothers (cancel n) =
      not_tested (is_other_length s) OtherLength _ same
      (tested (not (is_out s.book.outs n)) _ _ (omega arith, omega arith)
      (not_tested (not (are_own s.book s.stock)) ForeignShelves _ not_foreign (omega arith, omega arith)))

pub own_answer : (r : Option Refusal) (n : ℕ) → NotAnothers r → (refusal_or r n ≢ Err OtherLength) × (refusal_or r n ≢ Err ForeignShelves)
own_answer None n h = (λ e. absurd cc, λ e. absurd cc)
own_answer (Some d) n h = (
  λ e. (let same : d ≡ OtherLength = cc in h.0 (ap number_of same)),
  λ e. (let same : d ≡ ForeignShelves = cc in h.1 (ap number_of same)),
)
