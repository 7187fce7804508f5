-- Loans that were handed in stay so.
use Rattle.std.proofs.Common.{◌≡◌, ℕ, ◌+◌, ◌≤◌, Bool, true, false, cond, not, eqb, List, [], ◌∷◌, map, length, Some, None, filter, Option, sym, refl, ap, ◌∙◌, subst, arith, ◌||◌}
use Rattle.std.specs.List.{list_any, All}
use Rattle.std.proofs.lemmas.List.Elements.{All-from_get_or}
use Rattle.std.proofs.lemmas.Bool.{true≢false, false≢true, not-false, eqb-true, eq-eqb, ne_eqb}
use Rattle.refusal.specs.declared.Refusal.{Refusal}
use Rattle.refusal.specs.declared.Refusal.TheVariants.{OtherLength, LoanNotOut}
use Rattle.loans.specs.declared.loan.Loan.{Loan}
use Rattle.loans.specs.declared.mark.Mark.{Mark}
use Rattle.loans.specs.Lists.{less_all}
use Rattle.loans.specs.Ledgers.{no_loan}
use Rattle.loans.specs.Books.{Book, Orderly}
use Rattle.loans.specs.Stocks.{Stock, is_number, is_out, the_loan}
use Rattle.loans.specs.Strokes.{State, state_of, counted_loan, is_other_length, painted_stock, undone_stock}
use Rattle.loans.specs.LoanEnds.{kept_book, cancelled, stock_without}
use Rattle.loans.specs.Rules.{Request, call_refusal, carried_out, left, after}
use Rattle.loans.specs.Rules.Request.{lend, paint, undo, keep, cancel}
use Rattle.loans.specs.Calls.{Carried}
use Rattle.loans.specs.Handed.{LaterCall, later_book, is_on, RefusedAsNotOut, HandedIn}
use Rattle.loans.proofs.Passing.{passed}
use Rattle.loans.proofs.Listed.{some_of_map, some_of_push, some_of_none, none_less_all, first_among, all_among}

-- a number that was given and whose loan is not out
pub record Gone (n : ℕ) (b : Book) : Type 0 where
  pub not_out : is_out b.outs n ≡ false
  pub given : n ≤ b.granted

some_kept : {A : Type 0} (p q : A → Bool) (xs : List A) → list_any p xs ≡ false → list_any p (filter q xs) ≡ false
some_kept p q [] h = refl
some_kept p q (x ∷ xs) h = go (p x) refl (q x) h (some_kept p q xs)
  where
    go : (b : Bool) → p x ≡ b → (c : Bool) → (b || list_any p xs) ≡ false → (list_any p xs ≡ false → list_any p (filter q xs) ≡ false)
        → list_any p (cond c (x ∷ filter q xs) (filter q xs)) ≡ false
    go true e c h' later = absurd (true≢false h')
    go false e true h' later = rw e (later h')
    go false e false h' later = later h'

counted_out : (n : ℕ) (ms : List Mark) (ls : List Loan) → is_out (map (counted_loan ms) ls) n ≡ is_out ls n
counted_out n ms ls = some_of_map (counted_loan ms) (is_number n) ls

without_out : (n : ℕ) (ms : List Mark) (ls : List Loan) (m : ℕ) → is_out ls n ≡ false → is_out (map (counted_loan ms) (less_all (is_number m) ls)) n ≡ false
without_out n ms ls m h = counted_out n ms (less_all (is_number m) ls) ∙ some_kept (is_number n) (λ l. not (is_number m l)) ls h

left_either : (P : State → Type 0) (r : Option Refusal) (s t : State) → P s → P t → P (left r s t)
left_either P None s t a b = b
left_either P (Some e) s t a b = a

-- whatever call is carried out, the number is not given again
gone_carried : (n : ℕ) (s : State) → Gone n s.book → (d : Request) → Gone n (carried_out s d).book
gone_carried n s g (lend p who) =
    record {
      not_out = some_of_push (is_number n) s.book.outs _ (ne_eqb n (s.book.granted + 1) (λ e. omega (arith, g.given))) ∙ g.not_out;
      given = omega (arith, g.given);
    }
gone_carried n s g (paint p) = record { not_out = counted_out n (painted_stock s p).marks s.book.outs ∙ g.not_out; given = g.given }
gone_carried n s g (undo m who) = record { not_out = counted_out n (undone_stock s.stock m).marks s.book.outs ∙ g.not_out; given = g.given }
gone_carried n s g (keep m) = record { not_out = without_out n (stock_without s.stock m).marks s.book.outs m g.not_out; given = g.given }
gone_carried n s g (cancel m) = record { not_out = without_out n (stock_without s.stock m).marks s.book.outs m g.not_out; given = g.given }

gone_after : (n : ℕ) (s : State) → Gone n s.book → (d : Request) → Gone n (after s d).book
gone_after n s g d = left_either (λ (x : State). Gone n x.book) (call_refusal s d) s (carried_out s d) g (gone_carried n s g d)

gone_later : (n : ℕ) (xs : List LaterCall) (b : Book) → Gone n b → Gone n (later_book b xs)
gone_later n [] b g = g
gone_later n (x ∷ xs) b g = gone_later n xs _ (gone_after n (state_of b x.file x.stock) g x.request)

-- the file is looked at first, then the loan
by_length : (s : State) (d : Request) → call_refusal s d ≡ cond (is_other_length s) (Some OtherLength) (Some LoanNotOut) → RefusedAsNotOut s d
by_length s d e = go (eqb (length s.file) s.book.layout.table.length) refl e
  where
    go : (b : Bool) → eqb (length s.file) s.book.layout.table.length ≡ b → call_refusal s d ≡ cond (not b) (Some OtherLength) (Some LoanNotOut) → RefusedAsNotOut s d
    go true q r = record { reason = LoanNotOut; refused = r; unchanged = ap (λ x. left x s (carried_out s d)) r; not_out = λ h. refl }
    go false q r =
        record {
          reason = OtherLength;
          refused = r;
          unchanged = ap (λ x. left x s (carried_out s d)) r;
          not_out = λ h. absurd (true≢false (sym (eq-eqb (length s.file) s.book.layout.table.length h) ∙ q));
        }

refused_as_not_out : (n : ℕ) (s : State) → is_out s.book.outs n ≡ false → (d : Request) → is_on n d ≡ true → RefusedAsNotOut s d
refused_as_not_out n s g (lend p who) h = absurd (false≢true h)
refused_as_not_out n s g (paint p) h =
    let out : is_out s.book.outs p.loan ≡ false = subst (λ m. is_out s.book.outs m ≡ false) (eqb-true n p.loan h) g in
    by_length s (paint p) (rw out refl)
refused_as_not_out n s g (undo m who) h =
    let out : is_out s.book.outs m ≡ false = subst (λ x. is_out s.book.outs x ≡ false) (eqb-true n m h) g in
    by_length s (undo m who) (rw out refl)
refused_as_not_out n s g (keep m) h =
    let out : is_out s.book.outs m ≡ false = subst (λ x. is_out s.book.outs x ≡ false) (eqb-true n m h) g in
    let r : call_refusal s (keep m) ≡ Some LoanNotOut = rw out refl in
    record { reason = LoanNotOut; refused = r; unchanged = ap (λ x. left x s (carried_out s (keep m))) r; not_out = λ e. refl }
refused_as_not_out n s g (cancel m) h =
    let out : is_out s.book.outs m ≡ false = subst (λ x. is_out s.book.outs x ≡ false) (eqb-true n m h) g in
    by_length s (cancel m) (rw out refl)

-- a given number whose loan is not out is handed in
pub handed_in : (b : Book) (n : ℕ) → is_out b.outs n ≡ false → n ≤ b.granted → HandedIn n b
handed_in b n out given xs f k d h =
    let g = gone_later n xs b (record { not_out = out; given = given }) in refused_as_not_out n (state_of (later_book b xs) f k) g.not_out d h

-- the numbers of the loans out were given
abbrev pub NumbersGiven : Book → Type 0
NumbersGiven b = All (λ (l : Loan). l.number ≤ b.granted) b.outs

given_out : (b : Book) (n : ℕ) → NumbersGiven b → is_out b.outs n ≡ true → n ≤ b.granted
given_out b n g out =
    let f = first_among (is_number n) no_loan b.outs out in
    let same : n ≡ (the_loan b.outs n).number = eqb-true n _ f.1 in
    let few = all_among (λ (l : Loan). l.number ≤ b.granted) b.outs (the_loan b.outs n) g f.0 in omega (arith, same, few)

ended_out : (n : ℕ) (ms : List Mark) (ls : List Loan) → is_out (map (counted_loan ms) (less_all (is_number n) ls)) n ≡ false
ended_out n ms ls = counted_out n ms (less_all (is_number n) ls) ∙ some_of_none (is_number n) (less_all (is_number n) ls) (none_less_all (is_number n) ls)

pub kept_handed_in : (b : Book) (k : Stock) (n : ℕ) → NumbersGiven b → is_out b.outs n ≡ true → HandedIn n (kept_book b k n)
kept_handed_in b k n g out = handed_in (kept_book b k n) n (ended_out n (stock_without k n).marks b.outs) (given_out b n g out)

pub cancelled_handed_in : (s : State) (n : ℕ) → NumbersGiven s.book → is_out s.book.outs n ≡ true → HandedIn n (cancelled s n).book
cancelled_handed_in s n g out =
    handed_in (cancelled s n).book n (ended_out n (stock_without s.stock n).marks s.book.outs) (given_out s.book n g out)

-- so it is of every job
book_given : (b : Book) → Orderly b → NumbersGiven b
book_given b o = All-from_get_or (λ (l : Loan). l.number ≤ b.granted) b.outs no_loan o.given

-- a job after a keep or a cancel that was carried out
pub kept_handed : (b : Book) (f : List ℕ) (k : Stock) (n a : ℕ) (t : State) → Orderly b → Carried (keep n) (state_of b f k) a t → HandedIn n t.book
kept_handed b f k n a t o c =
    let out = not-false _ (passed (not (is_out b.outs n)) _ _ c.none).0 in
    subst (λ (s : State). HandedIn n s.book) (sym c.state) (kept_handed_in b k n (book_given b o) out)

pub cancelled_handed : (b : Book) (f : List ℕ) (k : Stock) (n a : ℕ) (t : State) → Orderly b → Carried (cancel n) (state_of b f k) a t → HandedIn n t.book
cancelled_handed b f k n a t o c =
    let here : State = state_of b f k in
    let out = not-false _ (passed (not (is_out b.outs n)) _ _ (passed (is_other_length here) _ _ c.none).1).0 in
    subst (λ (s : State). HandedIn n s.book) (sym c.state) (cancelled_handed_in here n (book_given b o) out)
