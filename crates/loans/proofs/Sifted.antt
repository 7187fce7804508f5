-- Closing the gaps that a loan's marks and bytes leave on the shelves, run after run.
use Rattle.std.proofs.Common.{◌≡◌, ℕ, ◌+◌, ◌≤◌, Bool, true, false, cond, not, ◌||◌, List, [], ◌∷◌, ◌++◌, length, get_or, take, drop, sym, refl, ap, ◌∙◌, ap₂, subst, subst₂, append_assoc, append-nil, arith, length-drop, take-append-drop, length-take-le, take-add, take_all, drop-drop}
use Rattle.std.proofs.lemmas.List.Elements.{filter-append}
use Rattle.std.proofs.lemmas.List.{length-append}
use Rattle.std.proofs.lemmas.Bool.{cond-false, true≢false, eq-eqb}
use Rattle.std.specs.List.{list_any}
use Rattle.shelf.specs.Runs.{slid_down}
use Rattle.shelf.proofs.Runs.{slid_front, slid_behind}
use Rattle.loans.specs.declared.mark.Mark.{Mark}
use Rattle.loans.specs.declared.amount.Amount.{Amount}
use Rattle.loans.specs.Lists.{less_all}
use Rattle.loans.specs.Stocks.{Stock, of_loan, lengths}
use Rattle.loans.specs.steps.Taking.{no_mark}
use Rattle.loans.specs.LoanEnds.{bytes_of, stock_without}
use Rattle.loans.specs.steps.Sifting.{Leads, CanSlide, stock_slid}
use Rattle.loans.proofs.Listed.{less_all_none}
use Rattle.loans.proofs.Marks.{lengths_cons, lengths_append}
use Rattle.loans.proofs.Searches.{none_all}

pub length_slid : {X : Type 0} (xs : List X) (from n to : ℕ) → to ≤ from → from + n ≤ length xs → length (slid_down from n to xs) ≡ length xs
length_slid xs from n to down inside =
    let a : length (take to xs) ≡ to = length-take-le to xs (omega arith) in
    let b : length (take n (drop from xs)) ≡ n = length-take-le n (drop from xs) (omega (arith, length-drop from xs)) in
    let c = length-drop (to + n) xs in
    length-append (take to xs ++ take n (drop from xs)) (drop (to + n) xs) ∙ omega (arith, length-append (take to xs) (take n (drop from xs)))

-- the bytes that stay of a loan's shelves
abbrev rest_of : ℕ → List Mark → List ℕ → List ℕ
rest_of n = bytes_of (λ m. not (of_loan n m))

rest_append : (n : ℕ) (ms ns : List Mark) (ks : List ℕ) → rest_of n (ms ++ ns) ks ≡ rest_of n ms ks ++ rest_of n ns (drop (lengths ms) ks)
rest_append n [] ns ks = refl
rest_append n (m ∷ ms) ns ks =
    let rest : rest_of n (ms ++ ns) (drop m.length ks) ≡ rest_of n ms (drop m.length ks) ++ rest_of n ns (drop (m.length + lengths ms) ks) =
    rest_append n ms ns (drop m.length ks) ∙ ap (λ y. rest_of n ms (drop m.length ks) ++ rest_of n ns y) (drop-drop (lengths ms) m.length ks) in
    go (not (of_loan n m)) rest ∙ ap (λ i. rest_of n (m ∷ ms) ks ++ rest_of n ns (drop i ks)) (sym (lengths_cons m ms))
  where
    go : (b : Bool) → rest_of n (ms ++ ns) (drop m.length ks) ≡ rest_of n ms (drop m.length ks) ++ rest_of n ns (drop (m.length + lengths ms) ks)
        → cond b (take m.length ks ++ rest_of n (ms ++ ns) (drop m.length ks)) (rest_of n (ms ++ ns) (drop m.length ks))
        ≡ cond b (take m.length ks ++ rest_of n ms (drop m.length ks)) (rest_of n ms (drop m.length ks)) ++ rest_of n ns (drop (m.length + lengths ms) ks)
    go true e =
        ap (λ ys. take m.length ks ++ ys) e
        ∙ sym (append_assoc (take m.length ks) (rest_of n ms (drop m.length ks)) (rest_of n ns (drop (m.length + lengths ms) ks)))
    go false e = e

-- of other loans' marks all bytes stay
rest_others : (n : ℕ) (ms : List Mark) (ks : List ℕ) → list_any (of_loan n) ms ≡ false → rest_of n ms ks ≡ take (lengths ms) ks
rest_others n [] ks h = refl
rest_others n (m ∷ ms) ks h =
    go (of_loan n m) h (rest_others n ms (drop m.length ks)) ∙ ap (λ i. take i ks) (sym (lengths_cons m ms))
  where
    go : (b : Bool) → (b || list_any (of_loan n) ms) ≡ false → (list_any (of_loan n) ms ≡ false → rest_of n ms (drop m.length ks) ≡ take (lengths ms) (drop m.length ks))
        → cond (not b) (take m.length ks ++ rest_of n ms (drop m.length ks)) (rest_of n ms (drop m.length ks)) ≡ take (m.length + lengths ms) ks
    go true h' later = absurd (true≢false h')
    go false h' later = ap (λ ys. take m.length ks ++ ys) (later h') ∙ sym (take-add m.length (lengths ms) ks)

-- once so much was passed: what of it stays stands in front, and all behind it stands as it did
pub record Sifted (old st : Stock) (n : ℕ) (passed stays : Amount) : Type 0 where
  pub marks_front : take stays.marks st.marks ≡ less_all (of_loan n) (take passed.marks old.marks)
  pub marks_back : drop passed.marks st.marks ≡ drop passed.marks old.marks
  pub marks_low : stays.marks ≤ passed.marks
  pub marks_in : passed.marks ≤ length old.marks
  pub marks_count : length st.marks ≡ length old.marks
  pub bytes_front : take stays.bytes st.bytes ≡ rest_of n (take passed.marks old.marks) old.bytes
  pub bytes_back : drop passed.bytes st.bytes ≡ drop passed.bytes old.bytes
  pub bytes_low : stays.bytes ≤ passed.bytes
  pub bytes_count : length st.bytes ≡ length old.bytes
  pub begin : passed.bytes ≡ lengths (take passed.marks old.marks)
  pub most_marks : st.most_marks ≡ old.most_marks
  pub most_bytes : st.most_bytes ≡ old.most_bytes

-- a run of marks behind what was passed, and their bytes
module _ {old st : Stock} {n : ℕ} {passed stays : Amount} (s : Sifted old st n passed stays) (covered : lengths old.marks ≡ length old.bytes)
    (run : Amount) (inside : run.marks ≤ length (drop passed.marks st.marks)) (bytes : run.bytes ≡ lengths (take run.marks (drop passed.marks st.marks))) where
  abbrev run_marks : List Mark
  run_marks = take run.marks (drop passed.marks old.marks)

  run_is : take run.marks (drop passed.marks st.marks) ≡ run_marks
  run_is = ap (take run.marks) s.marks_back

  more : take (passed.marks + run.marks) old.marks ≡ take passed.marks old.marks ++ run_marks
  more = take-add passed.marks run.marks old.marks

  pub inside_old : passed.marks + run.marks ≤ length old.marks
  inside_old = omega (arith, inside, ap length s.marks_back, length-drop passed.marks old.marks, s.marks_in)

  begin_more : passed.bytes + run.bytes ≡ lengths (take (passed.marks + run.marks) old.marks)
  begin_more = sym (ap lengths more ∙ lengths_append (take passed.marks old.marks) run_marks ∙ omega (arith, s.begin, bytes, ap lengths run_is))

  pub is_at : passed.bytes + run.bytes ≤ length st.bytes
  is_at =
      let all = ap lengths (sym (take-append-drop (passed.marks + run.marks) old.marks)) in
      let split = lengths_append (take (passed.marks + run.marks) old.marks) (drop (passed.marks + run.marks) old.marks) in
      omega (arith, begin_more, all, split, covered, s.bytes_count)

  pub can_slide : CanSlide st passed run stays
  can_slide = record { marks = omega (arith, inside_old, s.marks_count); bytes = is_at; marks_down = s.marks_low; bytes_down = s.bytes_low }

  behind : {X : Type 0} (at k : ℕ) (xs ys : List X) → drop at xs ≡ drop at ys → drop (at + k) xs ≡ drop (at + k) ys
  behind at k xs ys e = sym (drop-drop k at xs) ∙ ap (drop k) e ∙ drop-drop k at ys

  -- marks of the loan are passed over
  pub sifted_out : less_all (of_loan n) (take run.marks (drop passed.marks st.marks)) ≡ []
      → ((ks : List ℕ) → rest_of n (take run.marks (drop passed.marks st.marks)) ks ≡ [])
      → Sifted old st n (record { marks = passed.marks + run.marks; bytes = passed.bytes + run.bytes }) stays
  sifted_out no_marks no_bytes = record {
    marks_front =
        s.marks_front
        ∙ sym (ap (less_all (of_loan n)) more ∙ filter-append (λ x. not (of_loan n x)) (take passed.marks old.marks) run_marks
        ∙ ap (λ ys. less_all (of_loan n) (take passed.marks old.marks) ++ ys) (ap (less_all (of_loan n)) (sym run_is) ∙ no_marks) ∙ append-nil _);
    marks_back = behind passed.marks run.marks st.marks old.marks s.marks_back;
    marks_low = omega (arith, s.marks_low);
    marks_in = inside_old;
    marks_count = s.marks_count;
    bytes_front =
        s.bytes_front
        ∙ sym (ap (λ ms. rest_of n ms old.bytes) more ∙ rest_append n (take passed.marks old.marks) run_marks old.bytes
        ∙ ap (λ ys. rest_of n (take passed.marks old.marks) old.bytes ++ ys) (ap (λ ms. rest_of n ms (drop (lengths (take passed.marks old.marks)) old.bytes)) (sym run_is) ∙ no_bytes _) ∙ append-nil _);
    bytes_back = behind passed.bytes run.bytes st.bytes old.bytes s.bytes_back;
    bytes_low = omega (arith, s.bytes_low);
    bytes_count = s.bytes_count;
    begin = begin_more;
    most_marks = s.most_marks;
    most_bytes = s.most_bytes;
  }

  -- marks of other loans are moved down, and their bytes
  pub sifted_in : list_any (of_loan n) (take run.marks (drop passed.marks st.marks)) ≡ false → (st' : Stock) → st' ≡ stock_slid st passed run stays
      → Sifted old st' n (record { marks = passed.marks + run.marks; bytes = passed.bytes + run.bytes }) (record { marks = stays.marks + run.marks; bytes = stays.bytes + run.bytes })
  sifted_in others st' is = record {
    marks_front =
        ap (λ (x : Stock). take (stays.marks + run.marks) x.marks) is
        ∙ (slid_front st.marks passed.marks run.marks stays.marks s.marks_low can_slide.marks
        ∙ ap₂ (λ a b. a ++ b) s.marks_front run_is
        ∙ sym (ap (less_all (of_loan n)) more ∙ filter-append (λ x. not (of_loan n x)) (take passed.marks old.marks) run_marks
        ∙ ap (λ ys. less_all (of_loan n) (take passed.marks old.marks) ++ ys) (less_all_none (of_loan n) run_marks (none_all (of_loan n) run_marks none))));
    marks_back =
        ap (λ (x : Stock). drop (passed.marks + run.marks) x.marks) is
        ∙ slid_behind st.marks passed.marks run.marks stays.marks (passed.marks + run.marks) s.marks_low can_slide.marks (omega (arith, s.marks_low))
        ∙ behind passed.marks run.marks st.marks old.marks s.marks_back;
    marks_low = omega (arith, s.marks_low);
    marks_in = inside_old;
    marks_count = ap (λ (x : Stock). length x.marks) is ∙ length_slid st.marks passed.marks run.marks stays.marks s.marks_low can_slide.marks ∙ s.marks_count;
    bytes_front =
        ap (λ (x : Stock). take (stays.bytes + run.bytes) x.bytes) is
        ∙ (slid_front st.bytes passed.bytes run.bytes stays.bytes s.bytes_low can_slide.bytes
        ∙ ap₂ (λ a b. a ++ b) s.bytes_front (ap (take run.bytes) s.bytes_back)
        ∙ sym (ap (λ ms. rest_of n ms old.bytes) more ∙ rest_append n (take passed.marks old.marks) run_marks old.bytes
        ∙ ap (λ ys. rest_of n (take passed.marks old.marks) old.bytes ++ ys)
        (ap (λ k. rest_of n run_marks (drop k old.bytes)) (sym s.begin) ∙ rest_others n run_marks (drop passed.bytes old.bytes) none
        ∙ ap (λ k. take k (drop passed.bytes old.bytes)) (sym (bytes ∙ ap lengths run_is)))));
    bytes_back =
        ap (λ (x : Stock). drop (passed.bytes + run.bytes) x.bytes) is
        ∙ slid_behind st.bytes passed.bytes run.bytes stays.bytes (passed.bytes + run.bytes) s.bytes_low can_slide.bytes (omega (arith, s.bytes_low))
        ∙ behind passed.bytes run.bytes st.bytes old.bytes s.bytes_back;
    bytes_low = omega (arith, s.bytes_low);
    bytes_count = ap (λ (x : Stock). length x.bytes) is ∙ length_slid st.bytes passed.bytes run.bytes stays.bytes s.bytes_low can_slide.bytes ∙ s.bytes_count;
    begin = begin_more;
    most_marks = ap (λ (x : Stock). x.most_marks) is ∙ s.most_marks;
    most_bytes = ap (λ (x : Stock). x.most_bytes) is ∙ s.most_bytes;
  }
    where
      none : list_any (of_loan n) run_marks ≡ false
      none = ap (list_any (of_loan n)) (sym run_is) ∙ others

-- the mark that is next
one_long : (ms : List Mark) → 1 ≤ length ms → (get_or ms 0 no_mark).length ≡ lengths (take 1 ms)
one_long [] h = absurd (omega arith)
one_long (m ∷ ms) h = omega arith

one_gone : (n : ℕ) (ms : List Mark) → (get_or ms 0 no_mark).loan ≡ n → less_all (of_loan n) (take 1 ms) ≡ []
one_gone n [] e = refl
one_gone n (m ∷ ms) e = cond-false _ _ _ (ap not (eq-eqb n m.loan (sym e)))

one_rest : (n : ℕ) (ms : List Mark) → (get_or ms 0 no_mark).loan ≡ n → (ks : List ℕ) → rest_of n (take 1 ms) ks ≡ []
one_rest n [] e ks = refl
one_rest n (m ∷ ms) e ks = cond-false _ _ _ (ap not (eq-eqb n m.loan (sym e)))

-- the marks behind what was passed, as they are read from the shelf
module _ {old st : Stock} {n : ℕ} {passed stays : Amount} (s : Sifted old st n passed stays) (covered : lengths old.marks ≡ length old.bytes)
    (ms : List Mark) (read : ms ≡ drop passed.marks st.marks) where
  pub lengths_from : lengths ms ≤ lengths old.marks
  lengths_from =
      let split = lengths_append (take passed.marks old.marks) (drop passed.marks old.marks) in
      omega (arith, ap lengths (read ∙ s.marks_back), split, ap lengths (take-append-drop passed.marks old.marks))

  -- the next is the loan's
  module _ (some : 1 ≤ length ms) where
    abbrev next : Amount
    next = record { marks = 1; bytes = (get_or ms 0 no_mark).length }

    next_inside : 1 ≤ length (drop passed.marks st.marks)
    next_inside = omega (arith, ap length read)

    next_bytes : next.bytes ≡ lengths (take 1 (drop passed.marks st.marks))
    next_bytes = one_long ms some ∙ ap (λ xs. lengths (take 1 xs)) read

    pub next_slides : CanSlide st passed next stays
    next_slides = can_slide s covered next next_inside next_bytes

    pub next_gone : (get_or ms 0 no_mark).loan ≡ n → (p : Amount) → p ≡ record { marks = passed.marks + 1; bytes = passed.bytes + (get_or ms 0 no_mark).length }
        → Sifted old st n p stays
    next_gone e p is =
        subst (λ x. Sifted old st n x stays) (sym is)
        (sifted_out s covered next next_inside next_bytes (ap (λ xs. less_all (of_loan n) (take 1 xs)) (sym read) ∙ one_gone n ms e)
        (λ ks. ap (λ xs. rest_of n (take 1 xs) ks) (sym read) ∙ one_rest n ms e ks))

  -- a run of others comes next
  module _ (run : Amount) (leads : Leads ms n run) where
    run_inside : run.marks ≤ length (drop passed.marks st.marks)
    run_inside = omega (arith, leads.inside, ap length read)

    run_bytes : run.bytes ≡ lengths (take run.marks (drop passed.marks st.marks))
    run_bytes = leads.bytes ∙ ap (λ xs. lengths (take run.marks xs)) read

    pub run_slides : CanSlide st passed run stays
    run_slides = can_slide s covered run run_inside run_bytes

    pub run_moved : (st' : Stock) → st' ≡ stock_slid st passed run stays → (p q : Amount)
        → p ≡ record { marks = passed.marks + run.marks; bytes = passed.bytes + run.bytes }
        → q ≡ record { marks = stays.marks + run.marks; bytes = stays.bytes + run.bytes } → Sifted old st' n p q
    run_moved st' slid_is p q p_is q_is =
        subst₂ (λ x y. Sifted old st' n x y) (sym p_is) (sym q_is)
        (sifted_in s covered run run_inside run_bytes (ap (λ xs. list_any (of_loan n) (take run.marks xs)) (sym read) ∙ leads.others) st' slid_is)

-- what is left once all marks were passed, and both shelves cut off behind what stays
module _ {old st : Stock} {n : ℕ} {passed stays : Amount} (s : Sifted old st n passed stays) (past : length old.marks ≤ passed.marks)
    (covered : lengths old.marks ≡ length old.bytes) where
  all : take passed.marks old.marks ≡ old.marks
  all = take_all passed.marks old.marks past

  pub marks_cut : stays.marks ≤ length st.marks
  marks_cut = omega (arith, s.marks_low, s.marks_in, s.marks_count)

  pub bytes_cut : stays.bytes ≤ length st.bytes
  bytes_cut = omega (arith, s.bytes_low, s.begin, ap lengths all, covered, s.bytes_count)

  pub sifted_all : record st { marks = take stays.marks st.marks; bytes = take stays.bytes st.bytes } ≡ stock_without old n
  sifted_all =
      let marks = s.marks_front ∙ ap (less_all (of_loan n)) all in
      let bytes = s.bytes_front ∙ ap (λ ms. rest_of n ms old.bytes) all in
      λ k. record { marks = marks k; bytes = bytes k; most_marks = s.most_marks k; most_bytes = s.most_bytes k }
