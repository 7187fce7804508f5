-- What a new count of one loan's strokes does to a ledger.
use Rattle.std.proofs.Common.{◌≡◌, ℕ, zero, suc, ◌+◌, ◌*◌, ◌<◌, ◌≤◌, true, ◌≢◌, ◌⊎◌, List, [], ◌∷◌, map, length, get_or, take, set, sym, refl, ap, ◌∙◌, subst, subst₂, inl, inr, ⊎_elim, arith, length-set, length-take-le, get_or-set_other, get_or-set_same}
use Rattle.std.proofs.lemmas.List.{ext_get_or, length-map, get_or-take}
use Rattle.std.proofs.lemmas.Bool.{cases_order, eqb-true, and_parts}
use Rattle.dds.specs.declared.layout.Layout.{Layout}
use Rattle.loans.specs.declared.ledger.Ledger.{Ledger}
use Rattle.loans.specs.declared.loan.Loan.{Loan}
use Rattle.loans.specs.declared.mark.Mark.{Mark}
use Rattle.loans.specs.Ledgers.{InOrder, Balanced, Inside, NumbersGiven, NumbersRise, outs, no_loan, loan_with}
use Rattle.loans.specs.Books.{book_in}
use Rattle.loans.specs.Stocks.{Stock, marks_of, all_counted}
use Rattle.loans.specs.Strokes.{counted_loan}
use Rattle.loans.specs.steps.Finding.{IsAt}
use Rattle.loans.specs.steps.Writing.{ledger_counted, book_counted}
use Rattle.loans.proofs.Counting.{rise_in, rise_from}

-- two positions are the same or not
pub same_or_not : (j k : ℕ) → (j ≡ k) ⊎ (j ≢ k)
same_or_not j k =
    ⊎_elim (λ e. inl e) (⊎_elim (λ (less : j < k). inr (omega arith)) (λ (more : k < j). inr (omega arith))) (cases_order j k)

-- each loan has as many marks as were written down
pub counted_at : (ls : List Loan) (ms : List Mark) → all_counted ls ms ≡ true → (k : ℕ) → k < length ls
    → (get_or ls k no_loan).strokes ≡ marks_of (get_or ls k no_loan).number ms
counted_at [] ms h k f = absurd (omega arith)
counted_at (l ∷ ls) ms h zero f = eqb-true _ _ (and_parts _ _ h).0
counted_at (l ∷ ls) ms h (suc k) f = counted_at ls ms (and_parts _ _ h).1 k (omega arith)

pub get_or_map_loan : (g : Loan → Loan) (ls : List Loan) (k : ℕ) → k < length ls → get_or (map g ls) k no_loan ≡ g (get_or ls k no_loan)
get_or_map_loan g [] k f = absurd (omega arith)
get_or_map_loan g (l ∷ ls) zero f = refl
get_or_map_loan g (l ∷ ls) (suc k) f = get_or_map_loan g ls k (omega arith)

-- no other loan has the number
pub other_number : (ls : List Loan) → NumbersRise ls → (n k j : ℕ) → IsAt ls n k → j < length ls → j ≢ k → (get_or ls j no_loan).number ≢ n
other_number ls rising n k j at h ne e =
    ⊎_elim (λ (same : j ≡ k). ne same)
    (⊎_elim (λ (less : j < k). omega (arith, rising j k less at.inside, at.number))
    (λ (more : k < j). omega (arith, rising k j more h, at.number)))
    (cases_order j k)

-- where only the marks of one loan changed in number, one count written anew counts all loans
pub recount_at : (ls : List Loan) (ms ms' : List Mark) (n k : ℕ) → all_counted ls ms ≡ true → NumbersRise ls → IsAt ls n k
    → ((m : ℕ) → m ≢ n → marks_of m ms' ≡ marks_of m ms)
    → set ls k (loan_with (get_or ls k no_loan) (marks_of n ms')) ≡ map (counted_loan ms') ls
recount_at ls ms ms' n k counted rising at others =
    ext_get_or no_loan new all (length-set _ _ _ ∙ sym (length-map ls (counted_loan ms'))) (λ j f. each j (omega (arith, length-set ls k (loan_with (get_or ls k no_loan) (marks_of n ms')))) (same_or_not j k))
  where
    new : List Loan
    new = set ls k (loan_with (get_or ls k no_loan) (marks_of n ms'))

    all : List Loan
    all = map (counted_loan ms') ls

    each : (j : ℕ) → j < length ls → (j ≡ k) ⊎ (j ≢ k) → get_or new j no_loan ≡ get_or all j no_loan
    each j f (inl same) =
        ap (λ i. get_or new i no_loan) same ∙ get_or-set_same ls k _ no_loan at.inside
        ∙ ap (λ x. loan_with (get_or ls k no_loan) (marks_of x ms')) (sym at.number)
        ∙ sym (ap (λ i. get_or all i no_loan) same ∙ get_or_map_loan (counted_loan ms') ls k at.inside)
    each j f (inr ne) =
        get_or-set_other ls k j _ no_loan ne
        ∙ ap (loan_with (get_or ls j no_loan)) (counted_at ls ms counted j f ∙ sym (others (get_or ls j no_loan).number (other_number ls rising n k j at f ne)))
        ∙ sym (get_or_map_loan (counted_loan ms') ls j f)

-- the first loans of a ledger with one changed among them
take_set : (ls : List Loan) (n k : ℕ) (x : Loan) → n ≤ length ls → k < n → take n (set ls k x) ≡ set (take n ls) k x
take_set ls n k x few f =
    ext_get_or no_loan (take n (set ls k x)) (set (take n ls) k x) (len ∙ sym (length-set _ _ _ ∙ len')) (λ j h. each j (omega (arith, len)) (same_or_not j k))
  where
    len : length (take n (set ls k x)) ≡ n
    len = length-take-le n (set ls k x) (omega (arith, length-set ls k x))

    len' : length (take n ls) ≡ n
    len' = length-take-le n ls few

    each : (j : ℕ) → j < n → (j ≡ k) ⊎ (j ≢ k) → get_or (take n (set ls k x)) j no_loan ≡ get_or (set (take n ls) k x) j no_loan
    each j h (inl same) =
        get_or-take n (set ls k x) j no_loan h ∙ ap (λ i. get_or (set ls k x) i no_loan) same ∙ get_or-set_same ls k x no_loan (omega arith)
        ∙ sym (ap (λ i. get_or (set (take n ls) k x) i no_loan) same ∙ get_or-set_same (take n ls) k x no_loan (omega (arith, len')))
    each j h (inr ne) =
        get_or-take n (set ls k x) j no_loan h ∙ get_or-set_other ls k j x no_loan ne
        ∙ sym (get_or-set_other (take n ls) k j x no_loan ne ∙ get_or-take n ls j no_loan h)

module _ (l : Ledger) (b : Balanced l) (k n m y : ℕ) (out : k < l.out) where
  pub counted_outs : outs (ledger_counted l k n m y) ≡ set (outs l) k (loan_with (get_or (outs l) k no_loan) n)
  counted_outs =
      let c = b.0 in
      let d = b.1 in
      take_set l.loans l.out k _ (omega arith) out
      ∙ ap (λ x. set (outs l) k (loan_with x n)) (sym (get_or-take l.out l.loans k no_loan out))

  pub counted_balanced : Balanced (ledger_counted l k n m y)
  counted_balanced = (length-set _ _ _ ∙ b.0, b.1, b.2, b.3)

  -- nothing of a loan changes but its strokes
  same_loan : (j : ℕ) → loan_with (get_or (ledger_counted l k n m y).loans j no_loan) 0 ≡ loan_with (get_or l.loans j no_loan) 0
  same_loan j =
      let c = b.0 in
      let d = b.1 in
      ⊎_elim
      (λ (same : j ≡ k).
      ap (λ i. loan_with (get_or (ledger_counted l k n m y).loans i no_loan) 0) same
      ∙ ap (λ x. loan_with x 0) (get_or-set_same l.loans k _ no_loan (omega arith)) ∙ sym (ap (λ i. loan_with (get_or l.loans i no_loan) 0) same))
      (λ (ne : j ≢ k). ap (λ x. loan_with x 0) (get_or-set_other l.loans k j _ no_loan ne))
      (same_or_not j k)

  pub counted_inside : (a : ℕ) → Inside a l → Inside a (ledger_counted l k n m y)
  counted_inside a inside j h =
      subst (λ (x : Loan). (x.area.place + x.area.length ≤ a) × (x.area.length ≡ x.area.row_bytes * x.area.rows)) (sym (same_loan j)) (inside j h)

  pub counted_given : NumbersGiven l → NumbersGiven (ledger_counted l k n m y)
  counted_given given j h = subst (λ (x : Loan). x.number ≤ l.granted) (sym (same_loan j)) (given j h)

  pub counted_rising : NumbersRise (outs l) → NumbersRise (outs (ledger_counted l k n m y))
  counted_rising rising =
      let c = b.0 in
      let d = b.1 in
      rise_from (ledger_counted l k n m y) (omega (arith, length-set l.loans k (loan_with (get_or l.loans k no_loan) n)))
      (λ i j h f. subst₂ (λ (x y : Loan). x.number < y.number) (sym (same_loan i)) (sym (same_loan j)) (rise_in l b rising i j h f))

  pub counted_in_order : (a : ℕ) → InOrder a l → InOrder a (ledger_counted l k n m y)
  counted_in_order a o = record { balanced = counted_balanced; inside = counted_inside a o.inside; given = counted_given o.given; rising = counted_rising o.rising }

  -- a job's book, with these counts
  pub counted_in : (z : Layout) (stock : Stock) → m ≡ length stock.marks → y ≡ length stock.bytes
      → book_in z (ledger_counted l k n m y) ≡ book_counted (book_in z l) k n stock
  counted_in z stock marks' bytes' =
      let outs' = counted_outs in
      λ i. record {
        layout = z;
        number = l.number;
        outs = outs' i;
        granted = l.granted;
        kept = l.kept;
        cancelled = l.cancelled;
        marks = marks' i;
        bytes = bytes' i;
      }
