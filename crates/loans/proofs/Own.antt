-- The job, file and shelves that a journal tells: the shelves are the job's, and the file has the opening's length.
use Rattle.std.proofs.Common.{◌≡◌, ℕ, true, false, List, [], ◌∷◌, map, length, Some, sym, refl, ap, ◌∙◌, subst, arith}
use Rattle.std.specs.List.{All}
use Rattle.std.proofs.lemmas.List.Elements.{All-head, All-tail}
use Rattle.std.proofs.lemmas.List.FromFn.{length-map-range_with_len}
use Rattle.std.proofs.lemmas.Bool.{eq-eqb, le-leb, and_from, not_from_true}
use Rattle.dds.specs.declared.area.Area.{Area}
use Rattle.dds.specs.declared.layout.Layout.{Layout}
use Rattle.loans.specs.declared.loan.Loan.{Loan}
use Rattle.loans.specs.declared.mark.Mark.{Mark}
use Rattle.loans.specs.Books.{Book}
use Rattle.loans.specs.Stocks.{Stock, is_out, the_loan, lies_in, is_sound, all_sound, are_own}
use Rattle.loans.specs.Strokes.{State, counted_loan, recounted, is_other_length}
use Rattle.loans.specs.Journals.{Stroke, stroke_length, bytes_under, undoable, mark_of, shelved}
use Rattle.loans.proofs.Shelved.{all_below, undoable_all, undoable_out, lengths_is}
use Rattle.loans.proofs.Outs.{out_counted, loan_counted, all_counted_lem}
use Rattle.loans.proofs.Invariant.{Laid, Invariant, loan_known, all_even}

-- a book that counts no marks yet
abbrev pub plain_book : Layout → ℕ → List Loan → List Loan → ℕ → ℕ → Book
plain_book y number' ls os keeps cancels =
    record {
      layout = y;
      number = Some number';
      outs = os;
      granted = length ls;
      kept = keeps;
      cancelled = cancels;
      marks = 0;
      bytes = 0;
    }

-- a book that counts what stands on the shelves
abbrev pub state_of : Book → List ℕ → Stock → State
state_of b file' k = record { book = recounted b k; file = file'; stock = k }

-- the state by the loans ever granted, the loans out, the keeps, the cancels and the strokes that stand
abbrev pub replayed_by : Layout → ℕ → ℕ → ℕ → List ℕ → List Loan → List Loan → ℕ → ℕ → List Stroke → State
replayed_by y number mm mb opening ls os keeps cancels ss =
    state_of (plain_book y number ls os keeps cancels) (bytes_under opening ss 0 (length opening)) (shelved mm mb (undoable os ss))

module _ (y : Layout) (number mm mb : ℕ) (opening : List ℕ) (ls os : List Loan) (keeps cancels : ℕ) (ss : List Stroke) (invariant : Invariant y.table mm mb opening ls os ss) where
  sound_mark : (ms : List Mark) (s : Stroke) → is_out os s.painting.loan ≡ true → Laid opening ls s → is_sound (map (counted_loan ms) os) (mark_of s) ≡ true
  sound_mark ms s out r =
      let n : ℕ = s.painting.loan in
      let area : (the_loan ls n).area ≡ (the_loan (map (counted_loan ms) os) n).area =
      ap (λ (l : Loan). l.area) (loan_known y.table mm mb opening ls os ss invariant n out) ∙ sym (loan_counted ms (λ l. l.area) (λ l. refl) os n) in
      let a = r.inside.some in
      and_from _ _ (le-leb 1 (stroke_length s) (omega arith))
      (and_from _ _ (out_counted ms os n ∙ out)
      (subst (λ (x : Area). lies_in x (mark_of s) ≡ true) area (and_from _ _ (le-leb _ _ r.inside.start) (le-leb _ _ r.inside.end))))

  sound_marks : (ms : List Mark) (v : List Stroke) → All (λ (s : Stroke). is_out os s.painting.loan ≡ true) v → All (Laid opening ls) v
      → all_sound (map (counted_loan ms) os) (map mark_of v) ≡ true
  sound_marks ms [] h r = refl
  sound_marks ms (s ∷ v) h r =
      let out : (Stroke → Type 0) = λ x. is_out os x.painting.loan ≡ true in
      and_from _ _ (sound_mark ms s (All-head out s v h) (All-head (Laid opening ls) s v r))
      (sound_marks ms v (All-tail out s v h) (All-tail (Laid opening ls) s v r))

  pub replayed_own : (let s : State = replayed_by y number mm mb opening ls os keeps cancels ss in are_own s.book s.stock ≡ true)
  replayed_own =
      let v : List Stroke = undoable os ss in
      let ms : List Mark = map mark_of v in
      and_from _ _ (and_from _ _ (eq-eqb (length ms) (length ms) refl) (eq-eqb (length (all_below v)) (length (all_below v)) refl))
      (and_from _ _ (all_counted_lem ms os)
      (and_from _ _ (sound_marks ms v (undoable_out os ss) (undoable_all os (Laid opening ls) ss invariant.laid))
      (eq-eqb _ _ (lengths_is v (all_even y.table mm mb opening ls os ss invariant)))))

pub replayed_length : (opening : List ℕ) (ss : List Stroke) → length (bytes_under opening ss 0 (length opening)) ≡ length opening
replayed_length opening ss = length-map-range_with_len _ 0 (length opening)

-- the file's length is the job's
pub replayed_same : (y : Layout) (number mm mb : ℕ) (opening : List ℕ) (ls os : List Loan) (keeps cancels : ℕ) (ss : List Stroke) → length opening ≡ y.table.length
    → is_other_length (replayed_by y number mm mb opening ls os keeps cancels ss) ≡ false
replayed_same y number mm mb opening ls os keeps cancels ss e = not_from_true _ (eq-eqb _ _ (replayed_length opening ss ∙ e))
