-- What an undo that is carried out takes back and leaves.
use Rattle.std.proofs.Common.{◌≡◌, ℕ, zero, suc, ◌+◌, ◌-◌, ◌<◌, ◌≤◌, Bool, true, false, cond, ◌&&◌, eqb, leb, ◌≢◌, Some, List, [], ◌∷◌, length, get_or, take, drop, sym, refl, ap, ◌∙◌, arith, ◌||◌}
use Rattle.std.specs.List.{find}
use Rattle.std.specs.Option.{unwrap_or}
use Rattle.std.proofs.lemmas.Bool.{false≢true, cond-true, cond-false, and_parts, leb-true, eqb-true, ne_eqb}
use Rattle.dds.specs.declared.area.Area.{Area}
use Rattle.loans.specs.declared.loan.Loan.{Loan}
use Rattle.loans.specs.declared.mark.Mark.{Mark}
use Rattle.loans.specs.Ledgers.{no_loan, NumbersRise}
use Rattle.loans.specs.Books.{Book, Orderly}
use Rattle.loans.specs.Stocks.{Stock, is_number, is_out, the_loan, of_loan, marks_of, lengths, are_own, is_sound, all_sound, lies_in}
use Rattle.loans.specs.Strokes.{State, state_of, undone_stock, recounted}
use Rattle.loans.specs.steps.Holding.{HeldAt}
use Rattle.loans.specs.steps.Taking.{no_mark, NewestAt, file_less, stock_less, UndoAt}
use Rattle.loans.specs.LoanEnds.{InFile}
use Rattle.loans.specs.Rules.Request.{undo}
use Rattle.loans.specs.Calls.{Carried}
use Rattle.loans.specs.steps.Writing.{book_counted}
use Rattle.loans.proofs.Counting.{out_inside}
use Rattle.loans.proofs.Recounting.{counted_at}
use Rattle.loans.proofs.Allowed.{own_shelves, may_undo}
use Rattle.loans.proofs.Painted.{recounts}
use Rattle.loans.proofs.Marks.{marks_cons, marks_append, lengths_cons, lengths_append}
use Rattle.loans.proofs.NewestMark.{parts, undone_stock_lem, undone_file}

pub sound_at : (ls : List Loan) (ms : List Mark) → all_sound ls ms ≡ true → (k : ℕ) → k < length ms → is_sound ls (get_or ms k no_mark) ≡ true
sound_at ls [] h k f = absurd (omega arith)
sound_at ls (m ∷ ms) h zero f = (and_parts _ _ h).0
sound_at ls (m ∷ ms) h (suc k) f = sound_at ls ms (and_parts _ _ h).1 k (omega arith)

-- a sound mark ends within its loan's piece
pub sound_end : (ls : List Loan) (m : Mark) → is_sound ls m ≡ true
    → m.place + m.length ≤ (the_loan ls m.loan).area.place + (the_loan ls m.loan).area.length
sound_end ls m e =
    let a : Area = (the_loan ls m.loan).area in
    let out = (and_parts (leb 1 m.length) (is_out ls m.loan && lies_in a m) e).1 in
    let lies = (and_parts (is_out ls m.loan) (lies_in a m) out).1 in
    leb-true (m.place + m.length) (a.place + a.length) (and_parts (leb a.place m.place) (leb (m.place + m.length) (a.place + a.length)) lies).1

-- how many marks of a loan stand with and without the one at a position
module _ (st : Stock) (n k begin : ℕ) (at : NewestAt st.marks n k begin) (x : ℕ) where
  abbrev front : List Mark
  front = take k st.marks

  abbrev behind : List Mark
  behind = drop (k + 1) st.marks

  count_with : marks_of x st.marks ≡ marks_of x front + cond (of_loan x (get_or st.marks k no_mark)) (suc (marks_of x behind)) (marks_of x behind)
  count_with = ap (marks_of x) (parts n k begin st at) ∙ marks_append x front (get_or st.marks k no_mark ∷ behind)
      ∙ ap (λ y. marks_of x front + y) (marks_cons x (get_or st.marks k no_mark) behind)

  count_without : marks_of x (stock_less st k begin).marks ≡ marks_of x front + marks_of x behind
  count_without = marks_append x front behind

  pub one_less : x ≡ n → marks_of x st.marks ≡ marks_of x (stock_less st k begin).marks + 1
  one_less e =
      let here = cond-true (of_loan x (get_or st.marks k no_mark)) (suc (marks_of x behind)) (marks_of x behind) (ap (λ y. of_loan y (get_or st.marks k no_mark)) e ∙ at.loan) in
      omega (arith, count_with, count_without, here)

  pub same_count : x ≢ n → marks_of x (stock_less st k begin).marks ≡ marks_of x st.marks
  same_count ne =
      let of-n : n ≡ (get_or st.marks k no_mark).loan = eqb-true n _ at.loan in
      let other : x ≢ (get_or st.marks k no_mark).loan = λ e. ne (e ∙ sym of-n) in
      let here = cond-false (of_loan x (get_or st.marks k no_mark)) (suc (marks_of x behind)) (marks_of x behind) (ne_eqb x _ other) in
      omega (arith, count_with, count_without, here)

-- the tests of an undo, passed
pub undo_at : (s : State) (n who k position begin : ℕ) → HeldAt s n who k → NewestAt s.stock.marks n position begin → UndoAt s n who k position begin
undo_at s n who k position begin held newest =
    let ls = s.book.outs in
    let v = s.stock in
    let o = own_shelves s.book v held.own_shelves in
    let m = get_or v.marks position no_mark in
    let some : 0 < marks_of n v.marks = omega (arith, one_less v n position begin newest n refl) in
    let lies = sound_end ls m (sound_at ls v.marks o.sound position newest.inside) in
    let of-n : n ≡ m.loan = eqb-true n _ newest.loan in
    let is : the_loan ls m.loan ≡ get_or ls k no_loan = ap (the_loan ls) (sym of-n) ∙ held.loan.found in
    let in-file = out_inside s.book held.orderly k held.loan.inside _ is in
    let all = ap lengths (parts n position begin v newest) ∙ lengths_append (take position v.marks) (m ∷ drop (position + 1) v.marks) in
    let this = lengths_cons m (drop (position + 1) v.marks) in
    record {
      none = held.next _ ∙ cond-false (eqb (marks_of n v.marks) 0) _ _ (ne_eqb _ _ (λ e. omega arith));
      loan = held.loan;
      newest = newest;
      whole = record {
        inside = newest.inside;
        in_file = omega (arith, lies, in-file.0, held.sized);
        on_shelf = omega (arith, all, newest.begin, o.covered);
      };
      some = omega (arith, counted_at ls v.marks o.counted k held.loan.inside, some, ap (λ y. marks_of y v.marks) held.loan.number);
    }

-- the steps of an undo: what they left, and what each is
pub record UndoSteps (s t : Book) (f f' : List ℕ) (v w : Stock) (n who k position begin strokes : ℕ) : Type 0 where
  pub tested : UndoAt (state_of s f v) n who k position begin
  pub file : f' ≡ file_less f v position begin
  pub shelves : w ≡ stock_less v position begin
  pub before : strokes ≡ (get_or s.outs k no_loan).strokes
  pub rising : NumbersRise s.outs
  pub book : t ≡ book_counted s k (strokes - 1) w

module _ {s t : Book} {f f' : List ℕ} {v w : Stock} {n who k position begin strokes : ℕ} (x : UndoSteps s t f f' v w n who k position begin strokes) where
  abbrev st : State
  st = state_of s f v

  stock_is : w ≡ undone_stock v n
  stock_is = x.shelves ∙ undone_stock_lem n position begin v x.tested.newest

  count_is : strokes - 1 ≡ marks_of n w.marks
  count_is =
      let o = own_shelves s v (may_undo st n who x.tested.none).own_shelves in
      let is_at = x.tested.loan in
      let before = x.before ∙ counted_at s.outs v.marks o.counted k is_at.inside ∙ ap (λ y. marks_of y v.marks) is_at.number in
      let one = one_less v n position begin x.tested.newest n refl in
      let all = ap (λ (y : Stock). marks_of n y.marks) x.shelves in
      omega (arith, before, one, all)

  others : (m : ℕ) → m ≢ n → marks_of m w.marks ≡ marks_of m v.marks
  others m ne = ap (λ (y : Stock). marks_of m y.marks) x.shelves ∙ same_count v n position begin x.tested.newest m ne

  book_is : t ≡ recounted s w
  book_is =
      recounts s t k n v w x.rising (may_undo st n who x.tested.none).own_shelves x.tested.loan others (x.book ∙ ap (λ i. book_counted s k i w) count_is)

  pub undo_carried : Carried (undo n who) st (strokes - 1) (state_of t f' w)
  undo_carried = record {
    none = x.tested.none;
    answer = count_is ∙ ap (λ (y : Stock). marks_of n y.marks) stock_is;
    state = λ i. record {
      book = (book_is ∙ ap (recounted s) stock_is) i;
      file = (x.file ∙ undone_file n position begin v x.tested.newest f) i;
      stock = stock_is i;
    };
  }

-- a loan that is out stands somewhere
pub out_somewhere : (ls : List Loan) (n : ℕ) → is_out ls n ≡ true → (j : ℕ) × ((j < length ls) × (the_loan ls n ≡ get_or ls j no_loan))
out_somewhere [] n h = absurd (false≢true h)
out_somewhere (l ∷ ls) n h = go (eqb n l.number) h (out_somewhere ls n)
  where
    go : (b : Bool) → (b || is_out ls n) ≡ true → (is_out ls n ≡ true → (j : ℕ) × ((j < length ls) × (the_loan ls n ≡ get_or ls j no_loan)))
        → (j : ℕ) × ((j < suc (length ls)) × (unwrap_or (cond b (Some l) (find (is_number n) ls)) no_loan ≡ get_or (l ∷ ls) j no_loan))
    go true e later = (0, (omega arith, refl))
    go false e later = let r = later e in (suc r.0, (omega (arith, r.1.0), r.1.1))

-- the marks of a job lie in a file of its length
pub marks_in_file : (b : Book) → Orderly b → (k : Stock) → are_own b k ≡ true → InFile b.layout.table.length k.marks
marks_in_file b o k e i h =
    let m = get_or k.marks i no_mark in
    let sound = sound_at b.outs k.marks (own_shelves b k e).sound i h in
    let out = (and_parts (is_out b.outs m.loan) (lies_in (the_loan b.outs m.loan).area m) (and_parts (leb 1 m.length) _ sound).1).0 in
    let r = out_somewhere b.outs m.loan out in
    let in-file = out_inside b o r.0 r.1.0 _ r.1.1 in
    omega (arith, sound_end b.outs m sound, in-file.0)
