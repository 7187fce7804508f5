-- Loans: which are out after one is granted or ends, which strokes of theirs the shelves hold then, and a book's counts.
use Rattle.std.proofs.Common.{◌≡◌, ℕ, suc, Some, ◌+◌, ◌<◌, ◌≤◌, Bool, true, false, cond, not, ◌&&◌, ◌||◌, eqb, ◌≢◌, ◌⊎◌, List, [], ◌∷◌, ◌++◌, map, reverse, length, filter, sym, refl, ap, ◌∙◌, subst, inl, inr, arith}
use Rattle.std.specs.List.{All, find}
use Rattle.std.specs.Option.{unwrap_or}
use Rattle.std.proofs.lemmas.List.Elements.{All-nil, All-head, All-tail, All-weaker, All-push, All-filter}
use Rattle.std.proofs.lemmas.Bool.{eqb-true, eqb-false, eq-eqb, ne_eqb, and_right, and_from, or_parts, cases_Bool, both_ways, false≢true}
use Rattle.dds.specs.declared.piece.Piece.{Piece}
use Rattle.loans.specs.declared.loan.Loan.{Loan}
use Rattle.loans.specs.declared.mark.Mark.{Mark}
use Rattle.loans.specs.Lists.{less_all}
use Rattle.loans.specs.Ledgers.{no_loan}
use Rattle.loans.specs.Books.{Book}
use Rattle.loans.specs.Lending.{same_piece, piece_is_out}
use Rattle.loans.specs.Stocks.{Stock, is_number, is_out, the_loan, of_loan, marks_of, all_counted}
use Rattle.loans.specs.Strokes.{counted_loan, recounted}
use Rattle.loans.specs.LoanEnds.{stock_without, book_without}
use Rattle.loans.specs.Journals.{Stroke, stroke_of, undoable, mark_of, shelved}
use Rattle.loans.specs.Law.{NumberedFromOne}
use Rattle.loans.proofs.Listed.{Among, all_of, less_all_none, filter_same_on, filter_twice, filter_reverse, filter_of_map, first_among, some_of_map}
use Rattle.loans.proofs.Shelved.{live, Even, bytes_of_is}

-- the loan of a number that is out
pub the_out : (ls : List Loan) (n : ℕ) → is_out ls n ≡ true → Among ls (the_loan ls n) × ((the_loan ls n).number ≡ n)
the_out ls n h = let r = first_among (is_number n) no_loan ls h in (r.0, sym (eqb-true n _ r.1))

pub same_piece_self : (p : Piece) → same_piece p p ≡ true
same_piece_self p = rw (eq-eqb p.element p.element refl, eq-eqb p.level p.level refl, eq-eqb p.slice p.slice refl)

-- a piece that is not out is none of the loans'
pub piece_free : (ls : List Loan) (p : Piece) (a : Loan) → piece_is_out ls p ≡ false → Among ls a → a.piece ≡ p → ⊥
piece_free [] p a e m q = absurd m
piece_free (l ∷ ls) p a e (inl is) q =
    let same : same_piece l.piece p ≡ true = subst (λ (x : Piece). same_piece l.piece x ≡ true) (ap (λ (x : Loan). x.piece) (sym is) ∙ q) (same_piece_self l.piece) in
    both_ways _ (or_parts (same_piece l.piece p) (piece_is_out ls p) e).0 same
piece_free (l ∷ ls) p a e (inr m) q = piece_free ls p a (or_parts (same_piece l.piece p) (piece_is_out ls p) e).1 m q

-- who is out once the loan n has ended
pub out_less : (ls : List Loan) (n m : ℕ) → is_out (less_all (is_number n) ls) m ≡ (is_out ls m && not (eqb n m))
out_less [] n m = refl
out_less (o ∷ ls) n m = go (cases_Bool (eqb n o.number)) (cases_Bool (eqb m o.number)) (out_less ls n m)
  where
    Rest : Type 0
    Rest = is_out (less_all (is_number n) ls) m ≡ (is_out ls m && not (eqb n m))

    go : (eqb n o.number ≡ true) ⊎ (eqb n o.number ≡ false) → (eqb m o.number ≡ true) ⊎ (eqb m o.number ≡ false) → Rest
        → is_out (less_all (is_number n) (o ∷ ls)) m ≡ (is_out (o ∷ ls) m && not (eqb n m))
    go (inl e) (inl f) r =
        let same : eqb n m ≡ true = eq-eqb n m (eqb-true n o.number e ∙ sym (eqb-true m o.number f)) in
        rw (e, f, r, same) (and_right (is_out ls m) false refl)
    go (inl e) (inr f) r = rw (e, f) r
    go (inr e) (inl f) r =
        let other : eqb n m ≡ false = ne_eqb n m (λ q. eqb-false n o.number e (q ∙ eqb-true m o.number f)) in
        rw (e, f, other)
    go (inr e) (inr f) r = rw (e, f) r

and_not : (a b : Bool) → (not a && (b && not a)) ≡ (b && not a)
and_not true true = refl
and_not true false = refl
and_not false b = refl

-- the loan of another number stays what it was
pub loan_less : (ls : List Loan) (n m : ℕ) → m ≢ n → the_loan (less_all (is_number n) ls) m ≡ the_loan ls m
loan_less [] n m ne = refl
loan_less (l ∷ ls) n m ne = go (eqb n l.number) refl (loan_less ls n m ne)
  where
    first : Bool → List Loan → Loan
    first b rest = unwrap_or (cond b (Some l) (find (is_number m) rest)) no_loan

    go : (b : Bool) → eqb n l.number ≡ b → the_loan (less_all (is_number n) ls) m ≡ the_loan ls m
        → the_loan (cond (not b) (l ∷ less_all (is_number n) ls) (less_all (is_number n) ls)) m ≡ first (is_number m l) ls
    go true e r =
        let other : m ≢ l.number = λ f. ne (f ∙ sym (eqb-true n l.number e)) in
        r ∙ sym (ap (λ b. first b ls) (ne_eqb m l.number other))
    go false e r =
        elim (is_number m l) as (λ b. first b (less_all (is_number n) ls) ≡ first b ls) [ true ↦ refl | false ↦ r ]

-- the strokes on the shelves once the loan n has ended, kept or cancelled
pub undoable_kept : (ls : List Loan) (n : ℕ) (ss : List Stroke) → undoable (less_all (is_number n) ls) ss ≡ less_all (stroke_of n) (undoable ls ss)
undoable_kept ls n ss = sym (filter_reverse (λ s. not (stroke_of n s)) (live ls ss) ∙ ap reverse (filter_twice _ _ ss ∙ filter_same_on _ _ ss (all_of _ (λ s. sym (out_less ls n s.painting.loan)) ss)))

pub undoable_cancelled : (ls : List Loan) (n : ℕ) (ss : List Stroke) → undoable (less_all (is_number n) ls) (less_all (stroke_of n) ss) ≡ undoable (less_all (is_number n) ls) ss
undoable_cancelled ls n ss = ap reverse (filter_twice _ _ ss ∙ filter_same_on _ _ ss (all_of _ same ss))
  where
    same : (s : Stroke) → (not (stroke_of n s) && is_out (less_all (is_number n) ls) s.painting.loan) ≡ is_out (less_all (is_number n) ls) s.painting.loan
    same s = rw (out_less ls n s.painting.loan) (and_not (stroke_of n s) (is_out ls s.painting.loan))

-- the shelves of a loan that ended
pub end_stock : (mm mb : ℕ) (ls : List Loan) (n : ℕ) (ss : List Stroke) → All Even (undoable ls ss)
    → stock_without (shelved mm mb (undoable ls ss)) n ≡ shelved mm mb (undoable (less_all (is_number n) ls) ss)
end_stock mm mb ls n ss even =
    let ms = filter_of_map mark_of (λ m. not (of_loan n m)) (undoable ls ss) in
    let ks = bytes_of_is (λ m. not (of_loan n m)) (undoable ls ss) even in
    (λ i. record { marks = ms i; bytes = ks i; most_marks = mm; most_bytes = mb }) ∙ ap (shelved mm mb) (sym (undoable_kept ls n ss))

-- the numbers rise: no loan is out twice
abbrev pub Rising : List Loan → Type 0
Rising [] = Unit {0}
Rising (l ∷ ls) = All (λ (k : Loan). l.number < k.number) ls × Rising ls

pub rising_push : (ls : List Loan) (l : Loan) → Rising ls → All (λ (k : Loan). k.number < l.number) ls → Rising (ls ++ l ∷ [])
rising_push [] l r h = (All-nil (λ (k : Loan). l.number < k.number), tt)
rising_push (x ∷ ls) l r h =
    let below : (Loan → Type 0) = λ k. k.number < l.number in (
      All-push (λ (k : Loan). x.number < k.number) ls l r.0 (All-head below x ls h),
      rising_push ls l r.1 (All-tail below x ls h),
    )

pub rising_filter : (p : Loan → Bool) (ls : List Loan) → Rising ls → Rising (filter p ls)
rising_filter p [] r = tt
rising_filter p (l ∷ ls) r = elim (p l) as (λ b. Rising (cond b (l ∷ filter p ls) (filter p ls))) [ true ↦ (All-filter p (λ (k : Loan). l.number < k.number) ls r.0, rising_filter p ls r.1) | false ↦ rising_filter p ls r.1 ]

-- a loan that ends is one loan less
pub one_less : (n : ℕ) (ls : List Loan) → Rising ls → is_out ls n ≡ true → length ls ≡ suc (length (less_all (is_number n) ls))
one_less n [] r h = absurd (false≢true h)
one_less n (l ∷ ls) r h = go (is_number n l) refl h (one_less n ls r.1)
  where
    go : (b : Bool) → is_number n l ≡ b → (b || is_out ls n) ≡ true → (is_out ls n ≡ true → length ls ≡ suc (length (less_all (is_number n) ls)))
        → suc (length ls) ≡ suc (length (cond (not b) (l ∷ less_all (is_number n) ls) (less_all (is_number n) ls)))
    go true e h' later =
        ap (λ (v : List Loan). suc (length v))
        (sym (less_all_none (is_number n) ls (All-weaker (λ (k : Loan). l.number < k.number) (λ (k : Loan). is_number n k ≡ false) (λ k b. let f = eqb-true n l.number e in ne_eqb n k.number (λ q. omega arith)) ls r.0)))
    go false e h' later = ap suc (later h')

-- the numbers given so far
pub numbered_known : (ls : List Loan) (n : ℕ) → NumberedFromOne ls → is_out ls n ≡ true → n ≤ length ls
numbered_known [] n r h = absurd (false≢true h)
numbered_known (l ∷ ls) n r h = go (is_number n l) refl h (numbered_known ls n r.1)
  where
    go : (b : Bool) → is_number n l ≡ b → (b || is_out ls n) ≡ true → (is_out ls n ≡ true → n ≤ length ls) → n ≤ suc (length ls)
    go true e h' later = let f = eqb-true n l.number e in let g = r.0 in omega arith
    go false e h' later = let f = later h' in omega arith

-- a loan is known by its number and keeps its piece, area and borrower where its strokes are counted
module _ (ms : List Mark) where
  pub out_counted : (ls : List Loan) (n : ℕ) → is_out (map (counted_loan ms) ls) n ≡ is_out ls n
  out_counted ls n = some_of_map (counted_loan ms) (is_number n) ls

  pub loan_counted : {X : Type 0} (f : Loan → X) → ((l : Loan) → f (counted_loan ms l) ≡ f l) → (ls : List Loan) (n : ℕ) → f (the_loan (map (counted_loan ms) ls) n) ≡ f (the_loan ls n)
  loan_counted f h [] n = refl
  loan_counted f h (l ∷ ls) n =
      elim (is_number n l) as (λ b. f (unwrap_or (cond b (Some (counted_loan ms l)) (find (is_number n) (map (counted_loan ms) ls))) no_loan)
      ≡ f (unwrap_or (cond b (Some l) (find (is_number n) ls)) no_loan)) [ true ↦ h l | false ↦ loan_counted f h ls n ]

  pub piece_counted : (ls : List Loan) (p : Piece) → piece_is_out (map (counted_loan ms) ls) p ≡ piece_is_out ls p
  piece_counted [] p = refl
  piece_counted (l ∷ ls) p = ap (λ b. same_piece l.piece p || b) (piece_counted ls p)

  pub again_counted : (more : List Mark) (ls : List Loan) → map (counted_loan more) (map (counted_loan ms) ls) ≡ map (counted_loan more) ls
  again_counted more [] = refl
  again_counted more (l ∷ ls) = ap (λ (v : List Loan). counted_loan more l ∷ v) (again_counted more ls)

  pub less_counted : (n : ℕ) (ls : List Loan) → less_all (is_number n) (map (counted_loan ms) ls) ≡ map (counted_loan ms) (less_all (is_number n) ls)
  less_counted n ls = filter_of_map (counted_loan ms) (λ l. not (is_number n l)) ls

  pub all_counted_lem : (ls : List Loan) → all_counted (map (counted_loan ms) ls) ms ≡ true
  all_counted_lem [] = refl
  all_counted_lem (l ∷ ls) = and_from _ _ (eq-eqb (marks_of l.number ms) (marks_of l.number ms) refl) (all_counted_lem ls)

-- a book counted anew, whatever it counted before
pub recounted_again : (b : Book) (k k' : Stock) → recounted (recounted b k) k' ≡ recounted b k'
recounted_again b k k' =
    let e = again_counted k.marks k'.marks b.outs in
    λ i. record {
      layout = b.layout;
      number = b.number;
      outs = e i;
      granted = b.granted;
      kept = b.kept;
      cancelled = b.cancelled;
      marks = length k'.marks;
      bytes = length k'.bytes;
    }

pub recounted_without : (b : Book) (k k' : Stock) (n x y : ℕ) → recounted (book_without (recounted b k) n x y) k' ≡ recounted (book_without b n x y) k'
recounted_without b k k' n x y =
    let e = ap (map (counted_loan k'.marks)) (less_counted k.marks n b.outs) ∙ again_counted k.marks k'.marks (less_all (is_number n) b.outs) in
    λ i. record {
      layout = b.layout;
      number = b.number;
      outs = e i;
      granted = b.granted;
      kept = b.kept + x;
      cancelled = b.cancelled + y;
      marks = length k'.marks;
      bytes = length k'.bytes;
    }
