-- How many loans are out, and what holds of each.
use Rattle.std.proofs.Common.{◌≡◌, ℕ, ◌<◌, ◌≤◌, length, get_or, sym, ap, subst, arith, length-take-le}
use Rattle.std.proofs.lemmas.List.{get_or-take}
use Rattle.dds.specs.declared.layout.Layout.{Layout}
use Rattle.loans.specs.declared.ledger.Ledger.{Ledger}
use Rattle.loans.specs.declared.loan.Loan.{Loan}
use Rattle.loans.specs.Ledgers.{Balanced, InOrder, LiesWithin, NumbersRise, outs, no_loan}
use Rattle.loans.specs.Books.{Book, book_in, Orderly}

pub out_count : (l : Ledger) → Balanced l → length (outs l) ≡ l.out
out_count l b = let a = b.0 in let c = b.1 in length-take-le l.out l.loans (omega arith)

-- the loan at a position among those out is that of the ledger
pub out_at : (l : Ledger) → Balanced l → (k : ℕ) → k < length (outs l) → get_or (outs l) k no_loan ≡ get_or l.loans k no_loan
out_at l b k h = get_or-take l.out l.loans k no_loan (omega (arith, out_count l b))

-- so what a ledger in order tells is orderly
pub orderly : (y : Layout) (l : Ledger) → InOrder y.table.length l → Orderly (book_in y l)
orderly y l o =
    let b = o.balanced in
    let n = out_count l b in
    let at : (k : ℕ) → k < length (outs l) → get_or l.loans k no_loan ≡ get_or (outs l) k no_loan = λ k h. sym (out_at l b k h) in
    record {
      few = omega (arith, b.1);
      numbers = b.2;
      balance = omega (arith, b.3);
      inside = λ k h. subst (λ (x : Loan). LiesWithin y.table.length x.area) (at k h) (o.inside k (omega arith));
      given = λ k h. subst (λ (x : Loan). x.number ≤ l.granted) (at k h) (o.given k (omega arith));
      rising = o.rising;
    }

-- a loan that is out lies in the file
pub out_inside : (b : Book) → Orderly b → (k : ℕ) → k < length b.outs → (x : Loan) → x ≡ get_or b.outs k no_loan → LiesWithin b.layout.table.length x.area
out_inside b o k h x is = subst (λ (l : Loan). LiesWithin b.layout.table.length l.area) (sym is) (o.inside k h)

-- the numbers of the loans out, read in the ledger's memory
pub rise_in : (l : Ledger) → Balanced l → NumbersRise (outs l) → (j k : ℕ) → j < k → k < l.out → (get_or l.loans j no_loan).number < (get_or l.loans k no_loan).number
rise_in l b rising j k h i =
    let n = out_count l b in
    let x = ap (λ (y : Loan). y.number) (get_or-take l.out l.loans j no_loan (omega arith)) in
    let y = ap (λ (y : Loan). y.number) (get_or-take l.out l.loans k no_loan (omega arith)) in
    omega (arith, rising j k h (omega arith))

pub rise_from : (l : Ledger) → l.out ≤ length l.loans → ((j k : ℕ) → j < k → k < l.out → (get_or l.loans j no_loan).number < (get_or l.loans k no_loan).number)
    → NumbersRise (outs l)
rise_from l few rising j k h i =
    let n : length (outs l) ≡ l.out = length-take-le l.out l.loans few in
    let x = ap (λ (y : Loan). y.number) (get_or-take l.out l.loans j no_loan (omega arith)) in
    let y = ap (λ (y : Loan). y.number) (get_or-take l.out l.loans k no_loan (omega arith)) in
    omega (arith, rising j k h (omega arith))
