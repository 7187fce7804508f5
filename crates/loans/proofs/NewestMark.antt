-- Finding the newest mark of a loan from the end, and what is left without it.
use Rattle.std.proofs.Common.{◌≡◌, ℕ, suc, ◌+◌, ◌-◌, ◌<◌, ◌≤◌, Bool, true, false, cond, not, ◌&&◌, ◌≢◌, List, [], ◌∷◌, ◌++◌, length, get_or, take, drop, take_all, sym, refl, ap, ◌∙◌, ap₂, append_assoc, arith, drop-drop, take-add, length-append, ◌||◌}
use Rattle.std.specs.List.{list_any}
use lib.Seq.{paste, split_at}
use Rattle.std.proofs.Math.Seq.{take-append_seam, get_or-append_seam}
use Rattle.std.proofs.lemmas.List.{take_more, at_drop_more, take-take, get_or-take}
use Rattle.std.proofs.lemmas.Bool.{cond-true, cond-false, eq-eqb, ne_eqb, and_right, false≢true}
use Rattle.shelf.specs.Runs.{without_run}
use Rattle.loans.specs.declared.mark.Mark.{Mark}
use Rattle.loans.specs.Stocks.{Stock, of_loan, marks_of, lengths}
use Rattle.loans.specs.Strokes.{is_newest, marks_less, bytes_less, file_back, undone_stock}
use Rattle.loans.specs.steps.Taking.{no_mark, NewestAt, stock_less}
use Rattle.loans.proofs.Marks.{marks_cons, lengths_cons, lengths_append}

-- of the marks up to a position, the last, and those before it
pub record Stepped (ms xs ys : List Mark) (m : Mark) : Type 0 where
  pub front : ys ≡ take (length ys) ms
  pub less : length xs - 1 ≡ length ys
  pub some : 0 < length xs
  pub last : get_or ms (length xs - 1) no_mark ≡ m

pub stepped : (ms xs ys : List Mark) (m : Mark) → xs ≡ take (length xs) ms → xs ≡ ys ++ m ∷ [] → Stepped ms xs ys m
stepped ms xs ys m front is =
    let long : length xs ≡ length ys + 1 = ap length is ∙ length-append ys (m ∷ []) in
    let less : length xs - 1 ≡ length ys = omega arith in
    record {
      front =
          sym (take-append_seam ys (m ∷ [])) ∙ ap (take (length ys)) (sym is) ∙ ap (take (length ys)) front
          ∙ take-take (length ys) (length xs) ms (omega arith);
      less = less;
      some = omega arith;
      last =
          ap (λ i. get_or ms i no_mark) less ∙ sym (get_or-take (length xs) ms (length ys) no_mark (omega arith))
          ∙ ap (λ zs. get_or zs (length ys) no_mark) (sym front ∙ is) ∙ get_or-append_seam ys m [] no_mark;
    }

-- a list parts into its last and those before it
pub last_apart : (xs : List Mark) → 0 < length xs → xs ≡ take (length xs - 1) xs ++ get_or xs (length xs - 1) no_mark ∷ []
last_apart xs some =
    let back : length xs - 1 + 1 ≡ length xs = omega arith in
    sym (take_all (length xs) xs (omega arith)) ∙ ap (λ k. take k xs) (sym back) ∙ take_more xs (length xs - 1) no_mark (omega arith)

pub marks_none : (n : ℕ) (ms : List Mark) → list_any (of_loan n) ms ≡ false → marks_of n ms ≡ 0
marks_none n [] h = refl
marks_none n (m ∷ ms) h = marks_cons n m ms ∙ go (of_loan n m) h (marks_none n ms)
  where
    go : (b : Bool) → (b || list_any (of_loan n) ms) ≡ false → (list_any (of_loan n) ms ≡ false → marks_of n ms ≡ 0)
        → cond b (suc (marks_of n ms)) (marks_of n ms) ≡ 0
    go true e later = absurd (false≢true (sym e))
    go false e later = later e

-- no mark of the loan was found from a position on
pub record Unfound (ms : List Mark) (n k begin' : ℕ) : Type 0 where
  pub within : k ≤ length ms
  pub none : list_any (of_loan n) (drop k ms) ≡ false
  pub begin : begin' ≡ lengths (take k ms)

module _ {ms : List Mark} {n k begin : ℕ} (u : Unfound ms n k begin) (some : 0 < k) where
  -- the mark before the position
  abbrev last : ℕ
  last = k - 1

  back : last + 1 ≡ k
  back = omega arith

  pub last_inside : last < length ms
  last_inside = omega (arith, u.within)

  length_back : begin ≡ lengths (take last ms) + (get_or ms last no_mark).length
  length_back =
      u.begin ∙ ap (λ i. lengths (take i ms)) (sym back) ∙ ap lengths (take_more ms last no_mark last_inside)
      ∙ (lengths_append (take last ms) (get_or ms last no_mark ∷ []) ∙ omega arith)

  pub long_enough : (get_or ms last no_mark).length ≤ begin
  long_enough = omega (arith, length_back)

  begin_back : begin - (get_or ms last no_mark).length ≡ lengths (take last ms)
  begin_back = omega (arith, length_back)

  pub newest_here : (get_or ms last no_mark).loan ≡ n → NewestAt ms n last (begin - (get_or ms last no_mark).length)
  newest_here e = record {
    inside = last_inside;
    loan = eq-eqb n _ (sym e);
    last = ap (λ i. list_any (of_loan n) (drop i ms)) back ∙ u.none;
    begin = begin_back;
  }

  pub unfound_before : (get_or ms last no_mark).loan ≢ n → Unfound ms n last (begin - (get_or ms last no_mark).length)
  unfound_before e = record {
    within = omega (arith, last_inside);
    none =
        at_drop_more (list_any (of_loan n)) ms last no_mark last_inside ∙ ap (λ b. b || list_any (of_loan n) (drop (last + 1) ms)) (ne_eqb n (get_or ms last no_mark).loan (λ f. e (sym f)))
        ∙ ap (λ i. list_any (of_loan n) (drop i ms)) back ∙ u.none;
    begin = begin_back;
  }

pub unfound_none : {ms : List Mark} {n k begin : ℕ} → Unfound ms n k begin → k ≡ 0 → marks_of n ms ≡ 0
unfound_none {ms = ms} {n = n} u z = marks_none n ms (ap (λ i. list_any (of_loan n) (drop i ms)) (sym z) ∙ u.none)

module _ (n : ℕ) (m : Mark) (of-n : of_loan n m ≡ true) (behind : List Mark) (last : list_any (of_loan n) behind ≡ false) where
  some_mid : (front : List Mark) → list_any (of_loan n) (front ++ m ∷ behind) ≡ true
  some_mid [] = ap (λ b. b || list_any (of_loan n) behind) of-n
  some_mid (x ∷ front) = elim (of_loan n x) as (λ b. (b || list_any (of_loan n) (front ++ m ∷ behind)) ≡ true) [ true ↦ refl | false ↦ some_mid front ]

  newest_mid : is_newest n m behind ≡ true
  newest_mid = ap₂ (λ a b. a && not b) of-n last

  not_newest : (x : Mark) (front : List Mark) → is_newest n x (front ++ m ∷ behind) ≡ false
  not_newest x front = and_right (of_loan n x) _ (ap not (some_mid front))

  pub marks_mid : (front : List Mark) → marks_less n (front ++ m ∷ behind) ≡ front ++ behind
  marks_mid [] = cond-true _ _ _ newest_mid
  marks_mid (x ∷ front) = cond-false _ _ _ (not_newest x front) ∙ ap (λ ms. x ∷ ms) (marks_mid front)

  pub file_mid : (file : List ℕ) (front : List Mark) (ks : List ℕ)
      → file_back n file (front ++ m ∷ behind) ks ≡ paste file m.place (take m.length (drop (lengths front) ks)) m.length
  file_mid file [] ks = cond-true _ _ _ newest_mid
  file_mid file (x ∷ front) ks =
      cond-false _ _ _ (not_newest x front) ∙ file_mid file front (drop x.length ks)
      ∙ ap (λ y. paste file m.place (take m.length y) m.length)
      (drop-drop (lengths front) x.length ks ∙ ap (λ i. drop i ks) (sym (lengths_cons x front)))

  pub bytes_mid : (front : List Mark) (ks : List ℕ) → bytes_less n (front ++ m ∷ behind) ks ≡ without_run (lengths front) m.length ks
  bytes_mid [] ks = cond-true _ _ _ newest_mid ∙ ap (λ i. drop i ks) (omega arith)
  bytes_mid (x ∷ front) ks =
      cond-false _ _ _ (not_newest x front) ∙ ap (λ ys. take x.length ks ++ ys) (bytes_mid front (drop x.length ks))
      ∙ (sym (append_assoc (take x.length ks) (take (lengths front) (drop x.length ks)) (drop (lengths front + m.length) (drop x.length ks)))
      ∙ ap₂ (λ a b. a ++ b) (sym (take-add x.length (lengths front) ks))
      (drop-drop (lengths front + m.length) x.length ks ∙ ap (λ i. drop i ks) (omega arith)))
      ∙ ap (λ i. without_run i m.length ks) (sym (lengths_cons x front))

-- the newest mark at a position, taken from the shelves and put back into the file
module _ (n k begin : ℕ) (st : Stock) (at : NewestAt st.marks n k begin) where
  abbrev m : Mark
  m = get_or st.marks k no_mark

  pub parts : st.marks ≡ take k st.marks ++ m ∷ drop (k + 1) st.marks
  parts =
      let on : suc k ≡ k + 1 = omega arith in
      split_at st.marks k no_mark at.inside ∙ ap (λ i. take k st.marks ++ m ∷ drop i st.marks) on

  pub undone_stock_lem : stock_less st k begin ≡ undone_stock st n
  undone_stock_lem =
      let marks = sym (ap (marks_less n) parts ∙ marks_mid n m at.loan (drop (k + 1) st.marks) at.last (take k st.marks)) in
      let bytes =
      ap (λ i. without_run i m.length st.bytes) at.begin
      ∙ sym (ap (λ ms. bytes_less n ms st.bytes) parts ∙ bytes_mid n m at.loan (drop (k + 1) st.marks) at.last (take k st.marks) st.bytes) in
      λ i. record { marks = marks i; bytes = bytes i; most_marks = st.most_marks; most_bytes = st.most_bytes }

  pub undone_file : (file : List ℕ) → paste file m.place (take m.length (drop begin st.bytes)) m.length ≡ file_back n file st.marks st.bytes
  undone_file file =
      ap (λ i. paste file m.place (take m.length (drop i st.bytes)) m.length) at.begin
      ∙ sym (ap (λ ms. file_back n file ms st.bytes) parts ∙ file_mid n m at.loan (drop (k + 1) st.marks) at.last file (take k st.marks) st.bytes)
