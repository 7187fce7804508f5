-- What cancelling all loans out one after the other leaves.
use Rattle.std.proofs.Common.{◌≡◌, ℕ, suc, ◌+◌, ◌<◌, ◌≤◌, Bool, true, false, cond, not, ◌&&◌, eqb, leb, ◌≢◌, List, [], ◌∷◌, ◌++◌, map, length, get_or, take, drop, Some, None, Ok, Err, filter, Option, Result, sym, refl, ap, ◌∙◌, subst, ap₂, arith, length-drop, length-take-le}
use lib.Seq.{paste}
use Rattle.std.proofs.lemmas.List.Edits.{length-paste}
use Rattle.std.proofs.lemmas.List.{length-append, length-map, drop_more}
use Rattle.refusal.specs.declared.Refusal.{Refusal}
use Rattle.std.proofs.lemmas.Bool.{not_from_true, cond-false, and_parts, and_from, eqb-false, eq-eqb, ne_eqb}
use Rattle.loans.specs.declared.loan.Loan.{Loan}
use Rattle.loans.specs.declared.mark.Mark.{Mark}
use Rattle.loans.specs.Lists.{less_all}
use Rattle.loans.specs.Ledgers.{no_loan}
use Rattle.loans.specs.Books.{Book, Orderly}
use Rattle.loans.specs.Stocks.{ShelfPair, stock_of, is_number, is_out, the_loan, of_loan, lengths, lies_in, is_sound, all_sound, are_own}
use Rattle.loans.specs.Strokes.{State, state_of, is_other_length, counted_loan}
use Rattle.loans.specs.LoanEnds.{bytes_of, stock_without, restored, InFile, cancel_refusal, cancelled, all_cancelled}
use Rattle.loans.specs.steps.Finding.{IsAt}
use Rattle.loans.specs.Rules.Request.{cancel}
use Rattle.loans.specs.Calls.{Called}
use Rattle.loans.specs.Scrapping.{WithOwn}
use Rattle.loans.proofs.Allowed.{own_shelves}
use Rattle.loans.proofs.Marks.{lengths_cons}
use Rattle.loans.proofs.Slots.{first_is_at}
use Rattle.loans.proofs.Ended.{less_here}
use Rattle.loans.proofs.Undone.{marks_in_file}
use Rattle.loans.proofs.Outs.{out_less, loan_less, out_counted, loan_counted, all_counted_lem}

-- the kept bytes of some of the marks are as many as these cover
pub bytes_covered : (p : Mark → Bool) (ms : List Mark) (ks : List ℕ) → lengths ms ≤ length ks → lengths (filter p ms) ≡ length (bytes_of p ms ks)
bytes_covered p [] ks h = refl
bytes_covered p (m ∷ ms) ks h =
    let all = lengths_cons m ms in
    let rest = bytes_covered p ms (drop m.length ks) (omega (arith, length-drop m.length ks)) in
    let here = length-take-le m.length ks (omega arith) in
    go (p m) rest here
  where
    go : (b : Bool) → lengths (filter p ms) ≡ length (bytes_of p ms (drop m.length ks)) → length (take m.length ks) ≡ m.length
        → lengths (cond b (m ∷ filter p ms) (filter p ms)) ≡ length (cond b (take m.length ks ++ bytes_of p ms (drop m.length ks)) (bytes_of p ms (drop m.length ks)))
    go true e f = omega (arith, lengths_cons m (filter p ms), e, f, length-append (take m.length ks) (bytes_of p ms (drop m.length ks)))
    go false e f = e

-- a sound mark of another loan is sound once a loan has ended
sound_less : (ls : List Loan) (ms : List Mark) (n : ℕ) (m : Mark) → m.loan ≢ n → is_sound ls m ≡ true
    → is_sound (map (counted_loan ms) (less_all (is_number n) ls)) m ≡ true
sound_less ls ms n m ne e =
    let a = and_parts (leb 1 m.length) (is_out ls m.loan && lies_in (the_loan ls m.loan).area m) e in
    let b = and_parts (is_out ls m.loan) (lies_in (the_loan ls m.loan).area m) a.1 in
    let out : is_out (map (counted_loan ms) (less_all (is_number n) ls)) m.loan ≡ true =
    out_counted ms (less_all (is_number n) ls) m.loan ∙ out_less ls n m.loan ∙ ap₂ (λ x y. x && not y) b.0 (ne_eqb n m.loan (λ f. ne (sym f))) in
    let area = loan_counted ms (λ (l : Loan). l.area) (λ l. refl) (less_all (is_number n) ls) m.loan ∙ ap (λ (l : Loan). l.area) (loan_less ls n m.loan ne) in
    and_from _ _ a.0 (and_from _ _ out (ap (λ x. lies_in x m) area ∙ b.1))

all_sound_less : (ls : List Loan) (all : List Mark) (n : ℕ) (ms : List Mark) → all_sound ls ms ≡ true
    → all_sound (map (counted_loan all) (less_all (is_number n) ls)) (less_all (of_loan n) ms) ≡ true
all_sound_less ls all n [] h = refl
all_sound_less ls all n (m ∷ ms) h =
    let x = and_parts (is_sound ls m) (all_sound ls ms) h in
    go (eqb n m.loan) refl x.0 (all_sound_less ls all n ms x.1)
  where
    go : (b : Bool) → eqb n m.loan ≡ b → is_sound ls m ≡ true → all_sound (map (counted_loan all) (less_all (is_number n) ls)) (less_all (of_loan n) ms) ≡ true
        → all_sound (map (counted_loan all) (less_all (is_number n) ls)) (cond (not b) (m ∷ less_all (of_loan n) ms) (less_all (of_loan n) ms)) ≡ true
    go true e s r = r
    go false e s r = and_from _ _ (sound_less ls all n m (λ f. eqb-false n m.loan e (sym f)) s) r

-- putting back changes no length
pub restored_length : (n : ℕ) (f : List ℕ) (ms : List Mark) (ks : List ℕ) → lengths ms ≤ length ks → InFile (length f) ms → length (restored n f ms ks) ≡ length f
restored_length n f [] ks h inside = refl
restored_length n f (m ∷ ms) ks h inside =
    let all = lengths_cons m ms in
    let rest = restored_length n f ms (drop m.length ks) (omega (arith, length-drop m.length ks)) (λ k i. inside (suc k) (omega arith)) in
    let here = length-take-le m.length ks (omega arith) in
    go (of_loan n m) rest here (inside 0 (omega arith))
  where
    go : (b : Bool) → length (restored n f ms (drop m.length ks)) ≡ length f → length (take m.length ks) ≡ m.length → m.place + m.length ≤ length f
        → length (cond b (paste (restored n f ms (drop m.length ks)) m.place (take m.length ks) m.length) (restored n f ms (drop m.length ks))) ≡ length f
    go true e g i = length-paste (restored n f ms (drop m.length ks)) m.place (take m.length ks) m.length (omega (arith, e)) (omega (arith, g)) ∙ e
    go false e g i = e

-- after a cancel on the job's own file and shelves these are still its own
pub still_own : (s : State) (n : ℕ) → WithOwn s → InFile (length s.file) s.stock.marks → WithOwn (cancelled s n)
still_own s n own inside =
    let o = own_shelves s.book s.stock own.own_shelves in
    let k = stock_without s.stock n in
    let ls = map (counted_loan k.marks) (less_all (is_number n) s.book.outs) in
    record {
      sized = restored_length n s.file s.stock.marks s.stock.bytes (omega (arith, o.covered)) inside ∙ own.sized;
      own_shelves =
          and_from _ _ (and_from _ _ (eq-eqb (length k.marks) _ refl) (eq-eqb (length k.bytes) _ refl))
          (and_from _ _ (all_counted_lem k.marks (less_all (is_number n) s.book.outs))
          (and_from _ _ (all_sound_less s.book.outs k.marks n s.stock.marks o.sound)
          (eq-eqb _ _ (bytes_covered (λ m. not (of_loan n m)) s.stock.marks s.stock.bytes (omega (arith, o.covered))))));
    }

-- only the numbers of the loans count
pub counted_cancelled : (ms : List Mark) (ls : List Loan) (s : State) → all_cancelled (map (counted_loan ms) ls) s ≡ all_cancelled ls s
counted_cancelled ms [] s = refl
counted_cancelled ms (l ∷ ls) s = counted_cancelled ms ls (cancelled s l.number)

-- while loans are cancelled: file and shelves are the job's, and cancelling those left gives what cancelling all gives
pub record Cancelling (s₀ s : State) : Type 0 where
  pub own : WithOwn s
  pub rest : all_cancelled s.book.outs s ≡ all_cancelled s₀.book.outs s₀

module _ (s₀ : State) (s : Book) (orderly : Orderly s) (f : List ℕ) (v : ShelfPair) (c : Cancelling s₀ (state_of s f (stock_of v))) (some : 0 < length s.outs) (n : ℕ)
    (first : n ≡ (get_or s.outs 0 no_loan).number) where
  abbrev here : State
  here = state_of s f (stock_of v)

  abbrev ls : List Loan
  ls = s.outs

  is_at : IsAt ls n 0
  is_at = first_is_at ls n 0 some (λ j h. absurd (omega arith)) (sym first)

  left_is : less_all (is_number n) ls ≡ drop 1 ls
  left_is = less_here ls n 0 orderly.rising is_at

  all_is : ls ≡ get_or ls 0 no_loan ∷ drop 1 ls
  all_is = drop_more ls 0 no_loan some

  none : cancel_refusal here n ≡ None
  none =
      cond-false (is_other_length here) _ _ (not_from_true _ (eq-eqb _ _ c.own.sized))
      ∙ cond-false (not (is_out ls n)) _ _ (not_from_true _ is_at.out) ∙ cond-false (not (are_own s here.stock)) _ _ (not_from_true _ c.own.own_shelves)

  next : Cancelling s₀ (cancelled here n)
  next = record {
    own = still_own here n c.own (subst (λ k. InFile k here.stock.marks) (sym c.own.sized) (marks_in_file s orderly here.stock c.own.own_shelves));
    rest =
        counted_cancelled (stock_without here.stock n).marks (less_all (is_number n) ls) (cancelled here n)
        ∙ ap (λ (xs : List Loan). all_cancelled xs (cancelled here n)) left_is
        ∙ ap (λ k. all_cancelled (drop 1 ls) (cancelled here k)) first
        ∙ sym (ap (λ (xs : List Loan). all_cancelled xs here) all_is) ∙ c.rest;
  }

  pub cancelled_one : (t : Book) (f' : List ℕ) (w : ShelfPair) (r : Result ℕ Refusal) → Called (cancel n) s f v r t f' w
      → Cancelling s₀ (state_of t f' (stock_of w)) × (length t.outs < length s.outs)
  cancelled_one t f' w (Ok a) called = (
    subst (Cancelling s₀) (sym called.state) next,
    omega (
      arith,
      ap (λ (x : State). length x.book.outs) called.state,
      length-map (less_all (is_number n) ls) (counted_loan (stock_without here.stock n).marks),
      ap length left_is,
      length-drop 1 ls,
      some,
    ),
  )
  cancelled_one t f' w (Err e) called =
      let both : ◌≡◌ {A = Option Refusal} (Some e) None = sym called.0 ∙ none in
      let z : ◌≡◌ {A = ℕ} 0 1 = cc in absurd (omega arith)
