-- The law over every list of calls, and that the job's own file and shelves are never taken for others.
use Rattle.std.proofs.Common.{◌≡◌, ℕ, ◌≤◌, true, not, List, [], ◌∷◌, map, length, get_or, Some, None, Ok, Err, Option, Result, arith, sym, refl, ap, ◌∙◌, subst}
use Rattle.std.specs.List.{All}
use Rattle.std.proofs.lemmas.List.Elements.{All-nil, All-cons, All-head, All-tail, All-map, All-weaker, All-filter}
use Rattle.std.proofs.lemmas.List.FromFn.{fill_by_all, get_or-map-range_with_len}
use Rattle.std.proofs.lemmas.List.{length-map}
use Rattle.refusal.specs.declared.Refusal.{Refusal}
use Rattle.dds.specs.declared.layout.Layout.{Layout}
use Rattle.dds.specs.declared.table.Table.{Table}
use Rattle.dds.specs.Places.{AreaOf}
use Rattle.loans.specs.declared.loan.Loan.{Loan}
use Rattle.loans.specs.declared.mark.Mark.{Mark}
use Rattle.loans.specs.Books.{fresh_book}
use Rattle.loans.specs.Ledgers.{no_loan}
use Rattle.loans.specs.Stocks.{Stock, is_number, is_out, the_loan, are_own}
use Rattle.loans.specs.Strokes.{State, counted_loan}
use Rattle.loans.specs.Rules.{Request, call_refusal, carried_out, number_for, refusal_or, left, answer_to, after, answers_to, after_all}
use Rattle.loans.specs.Rules.Request.{lend, paint, undo, keep, cancel}
use Rattle.loans.specs.Journals.{Event, Stroke, written_down, journal_of, lent, out_in, keeps_in, cancels_in, stroke_of, standing_after, standing, laid_after, ever_laid, byte_under, undoable, mark_of, replayed}
use Rattle.loans.specs.Law.{Answered, TakenAsOwn, OfPiece, OfListed, CountsMarks, InRow, Law}
use Rattle.loans.specs.Runs.{opened_state}
use Rattle.loans.proofs.Listed.{all_of, all_less_first, first_among, all_among}
use Rattle.loans.proofs.Lawful.{Lawful, lawful, listed_area}
use Rattle.loans.proofs.Invariant.{invariant_none, outs_apart}
use Rattle.loans.proofs.Own.{replayed_own, replayed_same, replayed_length}
use Rattle.loans.proofs.TakenAsOwn.{not_anothers, own_answer}
use Rattle.loans.proofs.Steps.{WholeInvariant, Next, step_lend, step_paint, step_undo, step_keep, step_cancel}

-- loans that are counted by marks count them
all_count_marks : (ms : List Mark) (ls : List Loan) → All (CountsMarks ms) (map (counted_loan ms) ls)
all_count_marks ms ls =
    All-map (CountsMarks ms) (counted_loan ms) ls (all_of (λ (l : Loan). CountsMarks ms (counted_loan ms l)) (λ l. refl) ls)

module _ (y : Layout) (number mm mb : ℕ) (opening : List ℕ) (lawful : Lawful y.table (length opening)) (same : length opening ≡ y.table.length) where
  abbrev t : Table
  t = y.table

  abbrev WholeIn : List Event → Type 0
  WholeIn h = WholeInvariant t mm mb opening (lent t h) (out_in t h) (keeps_in h) (cancels_in h) (standing t opening h) (ever_laid t opening h)

  abbrev NextIn : State → List Event → Type 0
  NextIn s h = Next y number mm mb opening s (lent t h) (out_in t h) (keeps_in h) (cancels_in h) (standing t opening h) (ever_laid t opening h)

  abbrev here : List Event → State
  here h = replayed y number mm mb opening h

  carried : (h : List Event) → WholeIn h → (d : Request) → call_refusal (here h) d ≡ None
      → NextIn (carried_out (here h) d) (record { call = d; answer = refusal_or None (number_for (carried_out (here h) d) d) } ∷ h)
  carried h f (lend p who) e = step_lend y number mm mb opening (lent t h) (out_in t h) (keeps_in h) (cancels_in h) (standing t opening h) (ever_laid t opening h) lawful f p who e
  carried h f (paint p) e = step_paint y number mm mb opening (lent t h) (out_in t h) (keeps_in h) (cancels_in h) (standing t opening h) (ever_laid t opening h) lawful f p e
  carried h f (undo n who) e = step_undo y number mm mb opening (lent t h) (out_in t h) (keeps_in h) (cancels_in h) (standing t opening h) (ever_laid t opening h) lawful f n who e
  carried h f (keep n) e = step_keep y number mm mb opening (lent t h) (out_in t h) (keeps_in h) (cancels_in h) (standing t opening h) (ever_laid t opening h) lawful f n e
  carried h f (cancel n) e = step_cancel y number mm mb opening (lent t h) (out_in t h) (keeps_in h) (cancels_in h) (standing t opening h) (ever_laid t opening h) lawful f n e

  step : (h : List Event) → WholeIn h → (d : Request) → NextIn (after (here h) d) (record { call = d; answer = answer_to (here h) d } ∷ h)
  step h f d = go (call_refusal (here h) d) refl
    where
      go : (r : Option Refusal) → call_refusal (here h) d ≡ r
          → NextIn (left r (here h) (carried_out (here h) d)) (record { call = d; answer = refusal_or r (number_for (carried_out (here h) d) d) } ∷ h)
      go None e = carried h f d e
      go (Some x) e = record { state = refl; whole = f }

  here_own : (h : List Event) → WholeIn h → are_own (here h).book (here h).stock ≡ true
  here_own h f = replayed_own y number mm mb opening (lent t h) (out_in t h) (keeps_in h) (cancels_in h) (standing t opening h) f.invariant

  taken_as_own : (h : List Event) → WholeIn h → (d : Request) → TakenAsOwn (record { call = d; answer = answer_to (here h) d })
  taken_as_own h f d =
      own_answer (call_refusal (here h) d) _
      (not_anothers (here h) (replayed_same y number mm mb opening (lent t h) (out_in t h) (keeps_in h) (cancels_in h) (standing t opening h) same) (here_own h f) d)

  -- what holds after a journal
  record After (s : State) (h : List Event) : Type 0 where
    answers : Answered y number mm mb opening h
    own : All TakenAsOwn h
    state : s ≡ here h
    whole : WholeIn h

  one_more : (s : State) (h : List Event) → After s h → (d : Request) → After (after s d) (record { call = d; answer = answer_to s d } ∷ h)
  one_more s h w d =
      let e = w.state in
      let next : NextIn (after s d) (record { call = d; answer = answer_to s d } ∷ h) =
      subst (λ (x : State). NextIn (after x d) (record { call = d; answer = answer_to x d } ∷ h)) (sym e) (step h w.whole d) in
      record {
        answers = (ap (λ (x : State). answer_to x d) e, w.answers);
        own =
            All-cons TakenAsOwn _ h
            (subst (λ (x : State). TakenAsOwn (record { call = d; answer = answer_to x d })) (sym e) (taken_as_own h w.whole d)) w.own;
        state = next.state;
        whole = next.whole;
      }

  after_all_lem : (ds : List Request) (s : State) (h : List Event) → After s h → After (after_all s ds) (written_down h ds (answers_to s ds))
  after_all_lem [] s h w = w
  after_all_lem (d ∷ ds) s h w = after_all_lem ds (after s d) (record { call = d; answer = answer_to s d } ∷ h) (one_more s h w d)

  listed : (l : Loan) → OfPiece t l → OfListed y l
  listed l p = subst (AreaOf y l.piece) (sym p.1) (listed_area y l.piece p.0)

  after_law : (s : State) (h : List Event) → After s h → Law y number mm mb opening h s
  after_law s h w =
      let e = w.state in
      let f = w.whole in
      let ss : List Stroke = standing t opening h in
      record {
        same_length = ap (λ (x : State). length x.file) e ∙ replayed_length opening ss;
        each_byte = λ place low. ap (λ (x : State). get_or x.file place 0) e ∙ get_or-map-range_with_len (byte_under opening ss) 0 (length opening) place place 0 low (omega arith);
        marks = ap (λ (x : State). x.stock.marks) e;
        kept_bytes = ap (λ (x : State). x.stock.bytes) e;
        marks_room = ap (λ (x : State). x.stock.most_marks) e;
        bytes_room = ap (λ (x : State). x.stock.most_bytes) e;
        marks_fit = subst (λ (n : ℕ). n ≤ mm) (sym (ap (λ (x : State). length x.stock.marks) e ∙ length-map (undoable (out_in t h) ss) mark_of)) f.invariant.fits.marks;
        bytes_fit = subst (λ (n : ℕ). n ≤ mb) (sym (ap (λ (x : State). length x.stock.bytes) e)) f.invariant.fits.bytes;
        numbered = ap (λ (x : State). x.book.number) e;
        layout = ap (λ (x : State). x.book.layout) e;
        loans = ap (λ (x : State). x.book.outs) e ∙ ap (λ ms. map (counted_loan ms) (out_in t h)) (sym (ap (λ (x : State). x.stock.marks) e));
        strokes = subst (λ (x : State). All (CountsMarks x.stock.marks) x.book.outs) (sym e) (all_count_marks (here h).stock.marks (out_in t h));
        granted = ap (λ (x : State). x.book.granted) e;
        kept = ap (λ (x : State). x.book.kept) e;
        cancelled = ap (λ (x : State). x.book.cancelled) e;
        balance = f.balance;
        mark_count = subst (λ (x : State). x.book.marks ≡ length x.stock.marks) (sym e) refl;
        byte_count = subst (λ (x : State). x.book.bytes ≡ length x.stock.bytes) (sym e) refl;
        answers = w.answers;
        own = w.own;
        numbers = f.invariant.numbers;
        pieces = f.invariant.pieces;
        areas = All-weaker (OfPiece t) (OfListed y) listed (lent t h) f.invariant.pieces;
        apart = outs_apart t mm mb opening (lent t h) (out_in t h) ss f.invariant lawful;
        rows = f.rows;
      }

  after_own : (s : State) (h : List Event) → After s h → (are_own s.book s.stock ≡ true) × (length s.file ≡ t.length)
  after_own s h w =
      let e = w.state in (
        subst (λ (x : State). are_own x.book x.stock ≡ true) (sym e) (here_own h w.whole),
        ap (λ (x : State). length x.file) e ∙ replayed_length opening (standing t opening h) ∙ same,
      )

  opened : (k : Stock) → k.marks ≡ [] → k.bytes ≡ [] → k.most_marks ≡ mm → k.most_bytes ≡ mb → After (opened_state y number opening k) []
  opened k a b c d =
      let file' = fill_by_all (byte_under opening []) opening (length opening) 0 refl (λ i h. refl) in
      record {
        answers = tt;
        own = All-nil TakenAsOwn;
        state = λ i. record { book = fresh_book y (Some number); file = file' i; stock = record { marks = a i; bytes = b i; most_marks = c i; most_bytes = d i } };
        whole = record { invariant = invariant_none t mm mb opening; rows = All-nil (InRow []); balance = refl };
      }

-- the law over every list of calls on a job just opened
pub law_run : (y : Layout) (number : ℕ) (file : List ℕ) (k : Stock) (ds : List Request) → length file ≡ y.table.length → k.marks ≡ [] → k.bytes ≡ []
    → Law y number k.most_marks k.most_bytes file (journal_of ds (answers_to (opened_state y number file k) ds))
    (after_all (opened_state y number file k) ds)
law_run y number file k ds e a b =
    let l : Lawful y.table (length file) = subst (Lawful y.table) (sym e) (lawful y) in
    after_law y number k.most_marks k.most_bytes file l e _ _
    (after_all_lem y number k.most_marks k.most_bytes file l e ds (opened_state y number file k) []
    (opened y number k.most_marks k.most_bytes file l e k a b refl refl))

-- the law's clauses together give job, file and shelves back as the journal tells them
pub replayed_again : (y : Layout) (number mm mb : ℕ) (opening : List ℕ) (h : List Event) (s : State) → Law y number mm mb opening h s
    → s ≡ replayed y number mm mb opening h
replayed_again y number mm mb opening h s law =
    let file' = fill_by_all (byte_under opening (standing y.table opening h)) s.file (length opening) 0 law.same_length law.each_byte in
    let outs' = law.loans ∙ ap (λ ms. map (counted_loan ms) (out_in y.table h)) law.marks in
    let marks' = law.mark_count ∙ ap length law.marks in
    let bytes' = law.byte_count ∙ ap length law.kept_bytes in
    λ i. record {
      book = record {
        layout = law.layout i;
        number = law.numbered i;
        outs = outs' i;
        granted = law.granted i;
        kept = law.kept i;
        cancelled = law.cancelled i;
        marks = marks' i;
        bytes = bytes' i;
      };
      file = file' i;
      stock = record { marks = law.marks i; bytes = law.kept_bytes i; most_marks = law.marks_room i; most_bytes = law.bytes_room i };
    }

-- after every list of calls the shelves are the job's, and the file has the job's length
pub own_run : (y : Layout) (number : ℕ) (file : List ℕ) (k : Stock) (ds : List Request) → length file ≡ y.table.length → k.marks ≡ [] → k.bytes ≡ []
    → (let s : State = after_all (opened_state y number file k) ds in
    (are_own s.book s.stock ≡ true) × (length s.file ≡ y.table.length))
own_run y number file k ds e a b =
    let l : Lawful y.table (length file) = subst (Lawful y.table) (sym e) (lawful y) in
    after_own y number k.most_marks k.most_bytes file l e _ _
    (after_all_lem y number k.most_marks k.most_bytes file l e ds (opened_state y number file k) []
    (opened y number k.most_marks k.most_bytes file l e k a b refl refl))

-- what holds of every stroke ever laid holds of those that stand
pub standing_all : (P : Stroke → Type 0) (t : Table) (opening : List ℕ) (h : List Event) → All P (ever_laid t opening h) → All P (standing t opening h)
standing_all P t opening [] a = All-nil P
standing_all P t opening (e ∷ h) a = go (standing_all P t opening h) e.call e.answer a
  where
    Before : Type 0
    Before = All P (ever_laid t opening h) → All P (standing t opening h)

    go : Before → (d : Request) (r : Result ℕ Refusal) → All P (laid_after opening (out_in t h) (standing t opening h) (ever_laid t opening h) d r)
        → All P (standing_after opening (out_in t h) (standing t opening h) d r)
    go before d (Err x) b = before b
    go before (lend p who) (Ok k) b = before b
    go before (paint p) (Ok k) b = All-cons P _ _ (All-head P _ _ b) (before (All-tail P _ _ b))
    go before (undo n who) (Ok k) b = all_less_first (stroke_of n) P _ (before b)
    go before (keep n) (Ok k) b = before b
    go before (cancel n) (Ok k) b = All-filter (λ s. not (stroke_of n s)) P _ (before b)

-- what holds of every loan ever granted holds of that of a number
pub lent_all : (P : Loan → Type 0) (ls : List Loan) (n : ℕ) → All P ls → is_out ls n ≡ true → P (the_loan ls n)
lent_all P ls n a out = all_among P ls (the_loan ls n) a (first_among (is_number n) no_loan ls out).0
