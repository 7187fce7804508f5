-- What calls do with the two shelves, of strokes.
use Rattle.std.proofs.Common.{◌≡◌, ℕ, zero, suc, ◌+◌, ◌-◌, ◌≤◌, Bool, true, false, cond, ◌⊎◌, List, [], ◌∷◌, ◌++◌, map, length, take, drop, filter, sym, refl, ap, ◌∙◌, subst, ap₂, subst₂, inl, inr, append_assoc, arith}
use mathlib.Core.List.{reverse-cons}
use lib.Seq.{paste}
use Rattle.std.specs.List.{list_any, flat_map, All}
use Rattle.std.proofs.lemmas.List.{reverse-append, length-append, take_at, drop_at, map_push, flat_map_more}
use Rattle.std.proofs.lemmas.List.Elements.{All-head, All-tail, All-weaker, All-filter, filter_passes, filter-append}
use Rattle.std.proofs.lemmas.Bool.{and_right, cond-true, cond-false}
use Rattle.loans.specs.declared.loan.Loan.{Loan}
use Rattle.loans.specs.declared.mark.Mark.{Mark}
use Rattle.loans.specs.Lists.{less_first, less_all}
use Rattle.loans.specs.Stocks.{is_out, of_loan, marks_of, lengths}
use Rattle.loans.specs.Strokes.{stock_with, marks_less, bytes_less, file_back, undone_stock}
use Rattle.loans.specs.LoanEnds.{bytes_of, restored}
use Rattle.loans.specs.Journals.{Stroke, stroke_of, stroke_length, byte_under, bytes_under, undoable, mark_of, shelved}
use Rattle.loans.proofs.Listed.{all_right, all_reverse, None, Split, split, none_head, none_tail, some_of_none, some_of_mid, some_of_map, less_all_none, less_all_first, all_less_first, split_less}
use Rattle.loans.proofs.Marks.{marks_cons, lengths_cons}
use Rattle.loans.proofs.Underneath.{pasted, between_values, covers_from, covers_not}
use Rattle.loans.proofs.Soundness.{Sized, Sound, out_of, sound_less, undone}

abbrev pub all_below : List Stroke → List ℕ
all_below ss = flat_map (λ (s : Stroke). s.below) ss

-- as many bytes kept as covered
abbrev pub Even : Stroke → Type 0
Even s = length s.below ≡ stroke_length s

module _ (n : ℕ) where
  some_newer : (older : List Stroke) (k : Stroke) (newer : List Stroke) → stroke_of n k ≡ true → list_any (of_loan n) (map mark_of (older ++ k ∷ newer)) ≡ true
  some_newer older k newer e = some_of_map mark_of (of_loan n) (older ++ k ∷ newer) ∙ some_of_mid (stroke_of n) older k newer e

  none_newer : (newer : List Stroke) → None (stroke_of n) newer → list_any (of_loan n) (map mark_of newer) ≡ false
  none_newer newer h = some_of_map mark_of (of_loan n) newer ∙ some_of_none (stroke_of n) newer h

  -- the newest mark of a loan is taken from the middle
  pub marks_mid : (older : List Stroke) (k : Stroke) (newer : List Stroke) → stroke_of n k ≡ true → None (stroke_of n) newer
      → marks_less n (map mark_of (older ++ k ∷ newer)) ≡ map mark_of (older ++ newer)
  marks_mid [] k newer e h = rw (e, none_newer newer h)
  marks_mid (s ∷ older) k newer e h =
      rw (some_newer older k newer e, and_right (stroke_of n s) false refl) (ap (λ ms. mark_of s ∷ ms) (marks_mid older k newer e h))

  -- its bytes are taken from among the kept ones
  pub bytes_mid : (older : List Stroke) (k : Stroke) (newer : List Stroke) → stroke_of n k ≡ true → None (stroke_of n) newer → All Even (older ++ k ∷ newer)
      → bytes_less n (map mark_of (older ++ k ∷ newer)) (all_below (older ++ k ∷ newer)) ≡ all_below (older ++ newer)
  bytes_mid [] k newer e h z = rw (e, none_newer newer h) (drop_at k.below (all_below newer) (stroke_length k) (All-head Even k newer z))
  bytes_mid (s ∷ older) k newer e h z =
      rw (
        some_newer older k newer e,
        and_right (stroke_of n s) false refl,
        take_at s.below (all_below (older ++ k ∷ newer)) (stroke_length s) (All-head Even s _ z),
        drop_at s.below (all_below (older ++ k ∷ newer)) (stroke_length s) (All-head Even s _ z),
      )
      (ap (λ ks. s.below ++ ks) (bytes_mid older k newer e h (All-tail Even s _ z)))

  -- and put back into the file
  pub file_mid : (file : List ℕ) (older : List Stroke) (k : Stroke) (newer : List Stroke) → stroke_of n k ≡ true → None (stroke_of n) newer → All Even (older ++ k ∷ newer)
      → file_back n file (map mark_of (older ++ k ∷ newer)) (all_below (older ++ k ∷ newer)) ≡ paste file k.place k.below (stroke_length k)
  file_mid file [] k newer e h z = rw (e, none_newer newer h, take_at k.below (all_below newer) (stroke_length k) (All-head Even k newer z))
  file_mid file (s ∷ older) k newer e h z =
      rw (
        some_newer older k newer e,
        and_right (stroke_of n s) false refl,
        drop_at s.below (all_below (older ++ k ∷ newer)) (stroke_length s) (All-head Even s _ z),
      )
      (file_mid file older k newer e h (All-tail Even s _ z))

  pub restored_none : (file : List ℕ) (ss : List Stroke) (ks : List ℕ) → None (stroke_of n) ss → restored n file (map mark_of ss) ks ≡ file
  restored_none file [] ks h = refl
  restored_none file (s ∷ ss) ks h =
      rw (none_head (stroke_of n) s ss h)
      (restored_none file ss (drop (stroke_length s) ks) (none_tail (stroke_of n) s ss h))

  -- all of a loan taken back is its newest taken back, and then the others
  pub restored_mid : (file : List ℕ) (older : List Stroke) (k : Stroke) (newer : List Stroke) → stroke_of n k ≡ true → None (stroke_of n) newer → All Even (older ++ k ∷ newer)
      → restored n file (map mark_of (older ++ k ∷ newer)) (all_below (older ++ k ∷ newer))
      ≡ restored n (paste file k.place k.below (stroke_length k)) (map mark_of (older ++ newer)) (all_below (older ++ newer))
  restored_mid file [] k newer e h z =
      rw (e, take_at k.below (all_below newer) (stroke_length k) (All-head Even k newer z), restored_none file newer (drop (stroke_length k) (k.below ++ all_below newer)) h)
      (sym (restored_none (paste file k.place k.below (stroke_length k)) newer (all_below newer) h))
  restored_mid file (s ∷ older) k newer e h z =
      rw (
        take_at s.below (all_below (older ++ k ∷ newer)) (stroke_length s) (All-head Even s _ z),
        drop_at s.below (all_below (older ++ k ∷ newer)) (stroke_length s) (All-head Even s _ z),
        take_at s.below (all_below (older ++ newer)) (stroke_length s) (All-head Even s _ z),
        drop_at s.below (all_below (older ++ newer)) (stroke_length s) (All-head Even s _ z),
      )
      (ap (λ (f : List ℕ). cond (stroke_of n s) (paste f s.place s.below (stroke_length s)) f) (restored_mid file older k newer e h (All-tail Even s _ z)))

  pub count_none : (ss : List Stroke) → None (stroke_of n) ss → marks_of n (map mark_of ss) ≡ 0
  count_none [] h = refl
  count_none (s ∷ ss) h =
      marks_cons n (mark_of s) (map mark_of ss) ∙ cond-false (stroke_of n s) _ _ (none_head (stroke_of n) s ss h)
      ∙ count_none ss (none_tail (stroke_of n) s ss h)

  pub count_mid : (older : List Stroke) (k : Stroke) (newer : List Stroke) → stroke_of n k ≡ true → marks_of n (map mark_of (older ++ k ∷ newer)) ≡ suc (marks_of n (map mark_of (older ++ newer)))
  count_mid [] k newer e = marks_cons n (mark_of k) (map mark_of newer) ∙ cond-true (stroke_of n k) _ _ e
  count_mid (s ∷ older) k newer e =
      marks_cons n (mark_of s) (map mark_of (older ++ k ∷ newer))
      ∙ elim (stroke_of n s) as (λ b. cond b (suc (marks_of n (map mark_of (older ++ k ∷ newer)))) (marks_of n (map mark_of (older ++ k ∷ newer)))
      ≡ suc (cond b (suc (marks_of n (map mark_of (older ++ newer)))) (marks_of n (map mark_of (older ++ newer))))) [
        | true ↦ ap suc (count_mid older k newer e)
        | false ↦ count_mid older k newer e
      ]
      ∙ ap suc (sym (marks_cons n (mark_of s) (map mark_of (older ++ newer))))

-- the kept bytes of some of the marks
pub bytes_of_is : (p : Mark → Bool) (ss : List Stroke) → All Even ss → bytes_of p (map mark_of ss) (all_below ss) ≡ all_below (filter (λ s. p (mark_of s)) ss)
bytes_of_is p [] z = refl
bytes_of_is p (s ∷ ss) z =
    rw (
      take_at s.below (all_below ss) (stroke_length s) (All-head Even s ss z),
      drop_at s.below (all_below ss) (stroke_length s) (All-head Even s ss z),
      bytes_of_is p ss (All-tail Even s ss z),
    )
    (elim (p (mark_of s)) as (λ b. cond b (s.below ++ all_below (filter (λ x. p (mark_of x)) ss)) (all_below (filter (λ x. p (mark_of x)) ss)) ≡ all_below (cond b (s ∷ filter (λ x. p (mark_of x)) ss) (filter (λ x. p (mark_of x)) ss))) [ true ↦ refl | false ↦ refl ])

-- the marks' lengths add up to the kept bytes
pub lengths_is : (ss : List Stroke) → All Even ss → lengths (map mark_of ss) ≡ length (all_below ss)
lengths_is [] z = refl
lengths_is (s ∷ ss) z =
    omega (arith, lengths_cons (mark_of s) (map mark_of ss), lengths_is ss (All-tail Even s ss z), length-append s.below (all_below ss), All-head Even s ss z)

-- no more marks, and no more kept bytes
abbrev pub Fewer : List Stroke → List Stroke → Type 0
Fewer v w = (length v ≤ length w) × (length (all_below v) ≤ length (all_below w))

pub fewer_filter : (p : Stroke → Bool) (ss : List Stroke) → Fewer (filter p ss) ss
fewer_filter p [] = (omega arith, omega arith)
fewer_filter p (s ∷ ss) = go (p s) (fewer_filter p ss)
  where
    go : (b : Bool) → Fewer (filter p ss) ss → Fewer (cond b (s ∷ filter p ss) (filter p ss)) (s ∷ ss)
    go true r = (omega arith, omega (arith, length-append s.below (all_below (filter p ss)), length-append s.below (all_below ss)))
    go false r = (omega arith, omega (arith, length-append s.below (all_below ss)))

one_fewer : (older : List Stroke) (k : Stroke) (newer : List Stroke) → Fewer (older ++ newer) (older ++ k ∷ newer)
one_fewer [] k newer = (omega arith, omega (arith, length-append k.below (all_below newer)))
one_fewer (s ∷ older) k newer =
    let r = one_fewer older k newer in (omega arith, omega (arith, length-append s.below (all_below (older ++ newer)), length-append s.below (all_below (older ++ k ∷ newer))))

module _ (ls : List Loan) where
  -- the strokes whose loan is out, the newest first
  abbrev pub live : List Stroke → List Stroke
  live ss = filter (λ s. is_out ls s.painting.loan) ss

  pub undoable_append : (ss rest : List Stroke) → undoable ls (ss ++ rest) ≡ undoable ls rest ++ undoable ls ss
  undoable_append ss rest = rw (filter-append (λ (s : Stroke). is_out ls s.painting.loan) ss rest) (reverse-append (live ss) (live rest))

  pub undoable_cons : (k : Stroke) (ss : List Stroke) → is_out ls k.painting.loan ≡ true → undoable ls (k ∷ ss) ≡ undoable ls ss ++ k ∷ []
  undoable_cons k ss o = rw o (reverse-cons k (live ss))

  undoable_mid : (ss : List Stroke) (k : Stroke) (rest : List Stroke) → is_out ls k.painting.loan ≡ true → undoable ls (ss ++ k ∷ rest) ≡ undoable ls rest ++ k ∷ undoable ls ss
  undoable_mid ss k rest o = undoable_append ss (k ∷ rest) ∙ ap (λ v. v ++ undoable ls ss) (undoable_cons k rest o) ∙ append_assoc (undoable ls rest) (k ∷ []) (undoable ls ss)

  pub undoable_all : (P : Stroke → Type 0) (ss : List Stroke) → All P ss → All P (undoable ls ss)
  undoable_all P ss h = all_reverse P (live ss) (All-filter (λ s. is_out ls s.painting.loan) P ss h)

  pub undoable_out : (ss : List Stroke) → All (λ (s : Stroke). is_out ls s.painting.loan ≡ true) (undoable ls ss)
  undoable_out ss =
      all_reverse (λ (s : Stroke). is_out ls s.painting.loan ≡ true) (live ss) (filter_passes (λ s. is_out ls s.painting.loan) ss)

  -- a stroke laid
  pub paint_file : (opening : List ℕ) (k : Stroke) (ss : List Stroke) → k.place + stroke_length k ≤ length opening
      → paste (bytes_under opening ss 0 (length opening)) k.place k.painting.laid (stroke_length k) ≡ bytes_under opening (k ∷ ss) 0 (length opening)
  paint_file opening k ss fits =
      pasted (byte_under opening ss) (byte_under opening (k ∷ ss)) (length opening) k.place k.painting.laid (stroke_length k) refl fits
      (λ i h. let j : k.place + i - k.place ≡ i = omega arith in rw (covers_from k (k.place + i) (omega arith) (omega arith), j))
      (λ i o. rw (covers_not k i o))

  pub covered : (opening : List ℕ) (ss : List Stroke) (at m : ℕ) → at + m ≤ length opening
      → take m (drop at (bytes_under opening ss 0 (length opening))) ≡ bytes_under opening ss at m
  covered opening ss at m fits =
      let j : at + m - at ≡ m = omega arith in
      ap (λ x. take x (drop at (bytes_under opening ss 0 (length opening)))) (sym j) ∙ between_values (byte_under opening ss) (length opening) at m fits

  pub paint_stock : (mm mb : ℕ) (opening : List ℕ) (k : Stroke) (ss : List Stroke) → is_out ls k.painting.loan ≡ true
      → k.below ≡ bytes_under opening ss k.place (stroke_length k) → k.place + stroke_length k ≤ length opening
      → stock_with (shelved mm mb (undoable ls ss)) (mark_of k) (take (stroke_length k) (drop k.place (bytes_under opening ss 0 (length opening)))) ≡ shelved mm mb (undoable ls (k ∷ ss))
  paint_stock mm mb opening k ss out e fits =
      let v : List Stroke = undoable ls ss in
      let ms = sym (map_push mark_of v k) in
      let ks = ap (λ (bs : List ℕ). all_below v ++ bs) (covered opening ss k.place (stroke_length k) fits ∙ sym e) ∙ flat_map_more (λ (s : Stroke). s.below) [] v k in
      (λ i. record { marks = ms i; bytes = ks i; most_marks = mm; most_bytes = mb }) ∙ ap (shelved mm mb) (sym (undoable_cons k ss out))

  module _ (opening : List ℕ) (n : ℕ) (out : is_out ls n ≡ true) where
    -- the strokes on the shelves, taken apart at the newest of the loan
    split_undoable : (ss : List Stroke) (s : Split (stroke_of n) ss) → undoable ls ss ≡ undoable ls s.back ++ s.at ∷ undoable ls s.front
    split_undoable ss s = ap (undoable ls) s.is ∙ undoable_mid s.front s.at s.back (out_of ls n s.at s.passes out)

    less_undoable : (ss : List Stroke) (s : Split (stroke_of n) ss) → undoable ls (less_first (stroke_of n) ss) ≡ undoable ls s.back ++ undoable ls s.front
    less_undoable ss s = ap (undoable ls) (split_less (stroke_of n) ss s) ∙ undoable_append s.front s.back

    pub fewer_undone : (ss : List Stroke) → Split (stroke_of n) ss → Fewer (undoable ls (less_first (stroke_of n) ss)) (undoable ls ss)
    fewer_undone ss s = subst₂ Fewer (sym (less_undoable ss s)) (sym (split_undoable ss s)) (one_fewer (undoable ls s.back) s.at (undoable ls s.front))

    pub sound_undone : (ss : List Stroke) → Split (stroke_of n) ss → Sound opening ls ss → Sound opening ls (less_first (stroke_of n) ss)
    sound_undone ss s sound = subst (Sound opening ls) (sym (split_less (stroke_of n) ss s)) (sound_less opening ls n out s.at s.passes s.back s.front s.none (subst (Sound opening ls) s.is sound))

    none_front : (ss : List Stroke) (s : Split (stroke_of n) ss) → None (stroke_of n) (undoable ls s.front)
    none_front ss s = undoable_all (λ k. stroke_of n k ≡ false) s.front s.none

    even_parts : (ss : List Stroke) (s : Split (stroke_of n) ss) → All (Sized opening) ss → All Even (undoable ls s.back ++ s.at ∷ undoable ls s.front)
    even_parts ss s sized = subst (All Even) (split_undoable ss s) (undoable_all Even ss (All-weaker (Sized opening) Even (λ k z. z.0) ss sized))

    -- the bytes under the newest stroke of a loan put back
    put_back : (ss : List Stroke) (s : Split (stroke_of n) ss) → Sound opening ls ss → All (Sized opening) ss
        → paste (bytes_under opening ss 0 (length opening)) s.at.place s.at.below (stroke_length s.at) ≡ bytes_under opening (less_first (stroke_of n) ss) 0 (length opening)
    put_back ss s sound sized =
        let parts : All (Sized opening) (s.front ++ s.at ∷ s.back) = subst (All (Sized opening)) s.is sized in
        let size : Sized opening s.at = All-head (Sized opening) s.at s.back (all_right (Sized opening) s.front (s.at ∷ s.back) parts) in
        ap (λ v. paste (bytes_under opening v 0 (length opening)) s.at.place s.at.below (stroke_length s.at)) s.is
        ∙ (undone opening ls n out s.at s.passes s.back s.front s.none (subst (Sound opening ls) s.is sound) size
        ∙ ap (λ v. bytes_under opening v 0 (length opening)) (sym (split_less (stroke_of n) ss s)))

    -- the newest stroke of a loan taken back
    pub undo_stock : (mm mb : ℕ) (ss : List Stroke) → Split (stroke_of n) ss → All (Sized opening) ss
        → undone_stock (shelved mm mb (undoable ls ss)) n ≡ shelved mm mb (undoable ls (less_first (stroke_of n) ss))
    undo_stock mm mb ss s sized =
        let older : List Stroke = undoable ls s.back in
        let newer : List Stroke = undoable ls s.front in
        let ms = marks_mid n older s.at newer s.passes (none_front ss s) in
        let ks = bytes_mid n older s.at newer s.passes (none_front ss s) (even_parts ss s sized) in
        ap (λ v. undone_stock (shelved mm mb v) n) (split_undoable ss s)
        ∙ ((λ i. record { marks = ms i; bytes = ks i; most_marks = mm; most_bytes = mb })
        ∙ ap (shelved mm mb) (sym (less_undoable ss s)))

    pub undo_file : (ss : List Stroke) → Split (stroke_of n) ss → Sound opening ls ss → All (Sized opening) ss
        → file_back n (bytes_under opening ss 0 (length opening)) (map mark_of (undoable ls ss)) (all_below (undoable ls ss)) ≡ bytes_under opening (less_first (stroke_of n) ss) 0 (length opening)
    undo_file ss s sound sized =
        let file : List ℕ = bytes_under opening ss 0 (length opening) in
        ap (λ v. file_back n file (map mark_of v) (all_below v)) (split_undoable ss s)
        ∙ (file_mid n file (undoable ls s.back) s.at (undoable ls s.front) s.passes (none_front ss s) (even_parts ss s sized)
        ∙ put_back ss s sound sized)

    count_undone : (ss : List Stroke) → Split (stroke_of n) ss → marks_of n (map mark_of (undoable ls ss)) ≡ suc (marks_of n (map mark_of (undoable ls (less_first (stroke_of n) ss))))
    count_undone ss s =
        ap (λ v. marks_of n (map mark_of v)) (split_undoable ss s)
        ∙ (count_mid n (undoable ls s.back) s.at (undoable ls s.front) s.passes ∙ ap (λ v. suc (marks_of n (map mark_of v))) (sym (less_undoable ss s)))

    pub count_no : (ss : List Stroke) → None (stroke_of n) ss → marks_of n (map mark_of (undoable ls ss)) ≡ 0
    count_no ss none = count_none n (undoable ls ss) (undoable_all (λ k. stroke_of n k ≡ false) ss none)

    abbrev Cancels : List Stroke → List Stroke → Type 0
    Cancels ss v =
        (restored n (bytes_under opening ss 0 (length opening)) (map mark_of (undoable ls ss)) (all_below (undoable ls ss)) ≡ bytes_under opening v 0 (length opening))
        × Sound opening ls v

    -- one step of taking all back
    restored_step : (ss : List Stroke) (s : Split (stroke_of n) ss) → Sound opening ls ss → All (Sized opening) ss
        → (let v : List Stroke = less_first (stroke_of n) ss in
        restored n (bytes_under opening ss 0 (length opening)) (map mark_of (undoable ls ss)) (all_below (undoable ls ss))
        ≡ restored n (bytes_under opening v 0 (length opening)) (map mark_of (undoable ls v)) (all_below (undoable ls v)))
    restored_step ss s sound sized =
        let file : List ℕ = bytes_under opening ss 0 (length opening) in
        ap (λ v. restored n file (map mark_of v) (all_below v)) (split_undoable ss s)
        ∙ (restored_mid n file (undoable ls s.back) s.at (undoable ls s.front) s.passes (none_front ss s) (even_parts ss s sized)
        ∙ ap₂ (λ (f : List ℕ) (v : List Stroke). restored n f (map mark_of v) (all_below v)) (put_back ss s sound sized) (sym (less_undoable ss s)))

    -- all strokes of a loan taken back, the newest first
    pub cancel_file : (c : ℕ) (ss : List Stroke) → marks_of n (map mark_of (undoable ls ss)) ≡ c → Sound opening ls ss → All (Sized opening) ss → Cancels ss (less_all (stroke_of n) ss)
    cancel_file zero ss e sound sized = go (split (stroke_of n) ss)
      where
        go : Split (stroke_of n) ss ⊎ None (stroke_of n) ss → Cancels ss (less_all (stroke_of n) ss)
        go (inr none) =
            subst (Cancels ss) (sym (less_all_none (stroke_of n) ss none))
            (restored_none n _ (undoable ls ss) (all_below (undoable ls ss)) (undoable_all (λ k. stroke_of n k ≡ false) ss none), sound)
        go (inl s) = absurd (omega (arith, count_undone ss s))
    cancel_file (suc c) ss e sound sized = go (cancel_file c (less_first (stroke_of n) ss)) (split (stroke_of n) ss)
      where
        v : List Stroke
        v = less_first (stroke_of n) ss

        go : (marks_of n (map mark_of (undoable ls v)) ≡ c → Sound opening ls v → All (Sized opening) v → Cancels v (less_all (stroke_of n) v))
            → Split (stroke_of n) ss ⊎ None (stroke_of n) ss → Cancels ss (less_all (stroke_of n) ss)
        go later (inr none) = absurd (omega (arith, count_no ss none))
        go later (inl s) =
            let r = later (omega (arith, count_undone ss s)) (sound_undone ss s sound) (all_less_first (stroke_of n) (Sized opening) ss sized) in
            subst (Cancels ss) (sym (less_all_first (stroke_of n) ss)) (restored_step ss s sound sized ∙ r.0, r.1)
