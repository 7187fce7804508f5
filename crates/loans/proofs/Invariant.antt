-- The invariant of a journal, over every loan ever granted, the loans out and the strokes that stand; and that each call keeps it.
use Rattle.std.proofs.Common.{◌≡◌, ℕ, suc, Some, ◌+◌, ◌*◌, ◌<◌, ◌≤◌, true, false, cond, not, eqb, ◌⊎◌, List, [], ◌∷◌, ◌++◌, reverse, length, sym, refl, ap, ◌∙◌, subst, inl, inr, mul-le-mul_right, suc-mul, mul_comm, arith, ◌||◌}
use Rattle.std.specs.List.{All, find}
use Rattle.std.specs.Option.{unwrap_or}
use Rattle.std.proofs.lemmas.List.Elements.{All-nil, All-cons, All-weaker, All-push, All-filter}
use Rattle.std.proofs.lemmas.List.{length-append, length_push, flat_map_more}
use Rattle.std.proofs.lemmas.List.FromFn.{length-map-range_with_len}
use Rattle.std.proofs.lemmas.Bool.{eq-eqb, ne_eqb, and_parts}
use Rattle.dds.specs.declared.area.Area.{Area}
use Rattle.dds.specs.declared.piece.Piece.{Piece}
use Rattle.dds.specs.declared.table.Table.{Table}
use Rattle.dds.specs.Places.{area_in, exists_in}
use Rattle.loans.specs.declared.loan.Loan.{Loan}
use Rattle.loans.specs.Lists.{less_first, less_all}
use Rattle.loans.specs.Ledgers.{no_loan}
use Rattle.loans.specs.Lending.{granting, piece_is_out}
use Rattle.loans.specs.Stocks.{is_number, is_out, the_loan}
use Rattle.loans.specs.Strokes.{Painting}
use Rattle.loans.specs.Journals.{Stroke, stroke_of, stroke_length, covers, laying, undoable}
use Rattle.loans.specs.Law.{NumberedFromOne, OfPiece, Spans, Apart, InRow}
use Rattle.loans.proofs.Listed.{Among, among_from, all_of, all_among, Split, all_less_first, filter_same_on, among_filter, some_of_push}
use Rattle.loans.proofs.Underneath.{covers_parts}
use Rattle.loans.proofs.Lawful.{Lawful}
use Rattle.loans.proofs.Soundness.{Spares, Sized, Sound, sound_fewer}
use Rattle.loans.proofs.Shelved.{all_below, Even, undoable_cons, undoable_all, Fewer, fewer_filter, fewer_undone, sound_undone, cancel_file}
use Rattle.loans.proofs.Outs.{the_out, piece_free, out_less, undoable_kept, undoable_cancelled, Rising, rising_push, rising_filter, numbered_known}

-- a loan that is out
pub record Lent (t : Table) (ls : List Loan) (o : Loan) : Type 0 where
  pub known : is_out ls o.number ≡ true
  pub of_piece : OfPiece t o
  pub traced : the_loan ls o.number ≡ o

-- a stroke lies in its loan's span
pub record Inside (ls : List Loan) (s : Stroke) : Type 0 where
  pub some : 0 < stroke_length s
  pub lent : is_out ls s.painting.loan ≡ true
  pub start : (the_loan ls s.painting.loan).area.place ≤ s.place
  pub end : s.place + stroke_length s ≤ (the_loan ls s.painting.loan).area.place + (the_loan ls s.painting.loan).area.length

-- a stroke that stands
pub record Laid (opening : List ℕ) (ls : List Loan) (s : Stroke) : Type 0 where
  pub inside : Inside ls s
  pub sized : Sized opening s

-- no piece is out twice
abbrev pub Single : List Loan → Type 0
Single os = (a b : Loan) → Among os a → Among os b → a.piece ≡ b.piece → a ≡ b

pub record FitsShelves (mm mb : ℕ) (ss : List Stroke) : Type 0 where
  pub marks : length ss ≤ mm
  pub bytes : length (all_below ss) ≤ mb

-- of the loans ever granted, the loans out and the strokes that stand
pub record Invariant (t : Table) (mm mb : ℕ) (opening : List ℕ) (ls os : List Loan) (ss : List Stroke) : Type 0 where
  pub numbers : NumberedFromOne ls
  pub pieces : All (OfPiece t) ls
  pub lent : All (Lent t ls) os
  pub once : Rising os
  pub single : Single os
  pub laid : All (Laid opening ls) ss
  pub sound : Sound opening os ss
  pub fits : FitsShelves mm mb (undoable os ss)

pub all_sized : (opening : List ℕ) (ls : List Loan) (ss : List Stroke) → All (Laid opening ls) ss → All (Sized opening) ss
all_sized opening ls ss h = All-weaker (Laid opening ls) (Sized opening) (λ s r. r.sized) ss h

fits_fewer : (mm mb : ℕ) (v w : List Stroke) → Fewer w v → FitsShelves mm mb v → FitsShelves mm mb w
fits_fewer mm mb v w f h = let a = h.marks in let b = h.bytes in let c = f.0 in let d = f.1 in record { marks = omega arith; bytes = omega arith }

among_push : (os : List Loan) (o a : Loan) → Among (os ++ o ∷ []) a → Among os a ⊎ (a ≡ o)
among_push [] o a (inl e) = inr e
among_push [] o a (inr m) = absurd m
among_push (x ∷ os) o a (inl e) = inl (inl e)
among_push (x ∷ os) o a (inr m) = elim (among_push os o a m) [ inl u ↦ inl (inr u) | inr e ↦ inr e ]

-- a stroke's loan read off another list of loans
inside_in : (ls ls' : List Loan) (s : Stroke) → the_loan ls s.painting.loan ≡ the_loan ls' s.painting.loan → is_out ls' s.painting.loan ≡ true → Inside ls s → Inside ls' s
inside_in ls ls' s e k h = record {
  some = h.some;
  lent = k;
  start = subst (λ (l : Loan). l.area.place ≤ s.place) e h.start;
  end = subst (λ (l : Loan). s.place + stroke_length s ≤ l.area.place + l.area.length) e h.end;
}

row_in : (ls ls' : List Loan) (s : Stroke) → the_loan ls s.painting.loan ≡ the_loan ls' s.painting.loan → is_out ls' s.painting.loan ≡ true → InRow ls s → InRow ls' s
row_in ls ls' s e k h = record {
  lent = k;
  piece = h.piece ∙ ap (λ (l : Loan). l.piece) e;
  borrower = h.borrower ∙ ap (λ (l : Loan). l.borrower) e;
  some = h.some;
  row = subst (λ (l : Loan). s.painting.row < l.area.rows) e h.row;
  end = subst (λ (l : Loan). s.painting.first + stroke_length s ≤ l.area.row_bytes) e h.end;
  place = h.place ∙ ap (λ (l : Loan). l.area.place + (s.painting.row * l.area.row_bytes + s.painting.first)) e;
  not_before = subst (λ (l : Loan). l.area.place ≤ s.place) e h.not_before;
  not_behind = subst (λ (l : Loan). s.place + stroke_length s ≤ l.area.place + l.area.length) e h.not_behind;
}

-- a loan granted leaves the loans before it as they were
module _ (ls : List Loan) (numbers : NumberedFromOne ls) (new : Loan) (fresh : new.number ≡ length ls + 1) where
  other : (m : ℕ) → is_out ls m ≡ true → eqb m new.number ≡ false
  other m h = let a = numbered_known ls m numbers h in ne_eqb m new.number (λ e. omega arith)

  loan_same : (m : ℕ) → is_out ls m ≡ true → the_loan (new ∷ ls) m ≡ the_loan ls m
  loan_same m h = ap (λ b. unwrap_or (cond b (Some new) (find (is_number m) ls)) no_loan) (other m h)

  known_old : (m : ℕ) → is_out ls m ≡ true → is_out (new ∷ ls) m ≡ true
  known_old m h = elim (eqb m new.number) as (λ b. (b || is_out ls m) ≡ true) [ true ↦ refl | false ↦ h ]

  pub rows_old : (ss : List Stroke) → All (InRow ls) ss → All (InRow (new ∷ ls)) ss
  rows_old ss h = All-weaker (InRow ls) (InRow (new ∷ ls)) (λ s r. row_in ls (new ∷ ls) s (sym (loan_same s.painting.loan r.lent)) (known_old s.painting.loan r.lent) r) ss h

module _ (t : Table) (mm mb : ℕ) (opening : List ℕ) where
  pub invariant_none : Invariant t mm mb opening [] [] []
  invariant_none = record { numbers = tt; pieces = All-nil (OfPiece t); lent = All-nil (Lent t []); once = tt; single = λ a b m. absurd m; laid = All-nil (Laid opening []); sound = tt; fits = record { marks = omega arith; bytes = omega arith } }

  module _ (ls os : List Loan) (ss : List Stroke) (invariant : Invariant t mm mb opening ls os ss) where
    -- of a loan that is out
    pub out_lent : (n : ℕ) → is_out os n ≡ true → Lent t ls (the_loan os n)
    out_lent n h = all_among (Lent t ls) os _ invariant.lent (the_out os n h).0

    pub out_known : (n : ℕ) → is_out os n ≡ true → is_out ls n ≡ true
    out_known n h = subst (λ m. is_out ls m ≡ true) (the_out os n h).1 (out_lent n h).known

    pub loan_known : (n : ℕ) → is_out os n ≡ true → the_loan ls n ≡ the_loan os n
    loan_known n h = ap (the_loan ls) (sym (the_out os n h).1) ∙ (out_lent n h).traced

    pub all_even : All Even (undoable os ss)
    all_even = undoable_all os Even ss (All-weaker (Laid opening ls) Even (λ s r. r.sized.0) ss invariant.laid)

    -- no byte lies in the spans of two loans out
    one_spans : Lawful t (length opening) → (place : ℕ) (a b : Loan) → Among os a → Among os b → Spans a place → Spans b place → a ≡ b
    one_spans lawful place a b m m' v w =
        let p = (all_among (Lent t ls) os a invariant.lent m).of_piece in
        let q = (all_among (Lent t ls) os b invariant.lent m').of_piece in
        let In : ℕ → Area → Type 0 = λ i r. (r.place ≤ i) × (i < r.place + r.length) in
        invariant.single a b m m' (lawful.apart a.piece b.piece place p.0 q.0 (subst (In place) p.1 v) (subst (In place) q.1 w))

    pub outs_apart : Lawful t (length opening) → Apart os
    outs_apart lawful place a b m m' = one_spans lawful place a b (among_from os a m) (among_from os b m')

    -- a loan granted
    module _ (p : Piece) (who : ℕ) (there : exists_in t p ≡ true) (free : piece_is_out os p ≡ false) where
      abbrev new : Loan
      new = granting (length ls + 1) p who (area_in t p)

      out_same : (m : ℕ) → is_out ls m ≡ true → is_out (os ++ new ∷ []) m ≡ is_out os m
      out_same m h = some_of_push (is_number m) os new (other ls invariant.numbers new refl m h)

      lent_old : (o : Loan) → Lent t ls o → Lent t (new ∷ ls) o
      lent_old o r = record {
        known = known_old ls invariant.numbers new refl o.number r.known;
        of_piece = r.of_piece;
        traced = loan_same ls invariant.numbers new refl o.number r.known ∙ r.traced;
      }

      lent_new : Lent t (new ∷ ls) new
      lent_new =
          let self = eq-eqb new.number new.number refl in
          record { known = rw self; of_piece = (there, refl); traced = ap (λ b. unwrap_or (cond b (Some new) (find (is_number new.number) ls)) no_loan) self }

      laid_old : (s : Stroke) → Laid opening ls s → Laid opening (new ∷ ls) s
      laid_old s r =
          let k = r.inside.lent in
          let n : ℕ = s.painting.loan in
          record {
            inside = inside_in ls (new ∷ ls) s (sym (loan_same ls invariant.numbers new refl n k)) (known_old ls invariant.numbers new refl n k) r.inside;
            sized = r.sized;
          }

      single_loan : Single (os ++ new ∷ [])
      single_loan a b m m' e = go (among_push os new a m) (among_push os new b m')
        where
          go : Among os a ⊎ (a ≡ new) → Among os b ⊎ (b ≡ new) → a ≡ b
          go (inl u) (inl v) = invariant.single a b u v e
          go (inl u) (inr v) = absurd (piece_free os p a free u (e ∙ ap (λ (o : Loan). o.piece) v))
          go (inr u) (inl v) = absurd (piece_free os p b free v (sym e ∙ ap (λ (o : Loan). o.piece) u))
          go (inr u) (inr v) = u ∙ sym v

      pub undoable_lent : undoable (os ++ new ∷ []) ss ≡ undoable os ss
      undoable_lent = ap reverse (filter_same_on _ _ ss (All-weaker (Laid opening ls) _ (λ s r. out_same s.painting.loan r.inside.lent) ss invariant.laid))

      pub invariant_lent : Invariant t mm mb opening (new ∷ ls) (os ++ new ∷ []) ss
      invariant_lent = record {
        numbers = (refl, invariant.numbers);
        pieces = All-cons (OfPiece t) new ls (there, refl) invariant.pieces;
        lent = All-push (Lent t (new ∷ ls)) os new (All-weaker (Lent t ls) (Lent t (new ∷ ls)) lent_old os invariant.lent) lent_new;
        once = rising_push os new invariant.once (All-weaker (Lent t ls) (λ (o : Loan). o.number < length ls + 1) (λ o r. let a = numbered_known ls o.number invariant.numbers r.known in omega arith) os invariant.lent);
        single = single_loan;
        laid = All-weaker (Laid opening ls) (Laid opening (new ∷ ls)) laid_old ss invariant.laid;
        sound = sound_fewer opening os (os ++ new ∷ []) ss (All-weaker (Laid opening ls) _ (λ s r. subst (λ b. b ≡ true) (out_same s.painting.loan r.inside.lent)) ss invariant.laid) invariant.sound;
        fits = subst (FitsShelves mm mb) (sym undoable_lent) invariant.fits;
      }

    -- a stroke painted
    module _ (lawful : Lawful t (length opening)) (p : Painting) (out : is_out os p.loan ≡ true) (some : 0 < length p.laid)
        (low : p.row < (the_loan os p.loan).area.rows) (short : p.first + length p.laid ≤ (the_loan os p.loan).area.row_bytes) where
      abbrev stroke : Stroke
      stroke = laying opening os ss p

      area_rows : (the_loan os p.loan).area.length ≡ (the_loan os p.loan).area.row_bytes * (the_loan os p.loan).area.rows
      area_rows =
          let l : Loan = the_loan os p.loan in
          subst (λ (a : Area). a.length ≡ a.row_bytes * a.rows) (sym (out_lent p.loan out).of_piece.1) (lawful.rows l.piece)

      area_inside : (the_loan os p.loan).area.place + (the_loan os p.loan).area.length ≤ length opening
      area_inside =
          let l : Loan = the_loan os p.loan in
          let o = (out_lent p.loan out).of_piece in
          subst (λ (a : Area). a.place + a.length ≤ length opening) (sym o.1) (lawful.inside l.piece o.0)

      laying_inside : Inside os stroke
      laying_inside =
          let a : Area = (the_loan os p.loan).area in
          let whole : suc p.row * a.row_bytes ≤ a.rows * a.row_bytes = mul-le-mul_right a.row_bytes low in
          let next : suc p.row * a.row_bytes ≡ p.row * a.row_bytes + a.row_bytes = suc-mul p.row a.row_bytes in
          let turn : a.row_bytes * a.rows ≡ a.rows * a.row_bytes = mul_comm a.row_bytes a.rows in
          let size = area_rows in
          record { some = some; lent = out; start = omega arith; end = omega arith }

      pub laying_laid : Laid opening ls stroke
      laying_laid =
          let e = laying_inside.end in
          let f = area_inside in
          record {
            inside = inside_in os ls stroke (sym (loan_known p.loan out)) (out_known p.loan out) laying_inside;
            sized = (length-map-range_with_len _ _ (length p.laid), omega arith);
          }

      pub laying_row : (the_loan os p.loan).borrower ≡ p.borrower → InRow ls stroke
      laying_row whose =
          row_in os ls stroke (sym (loan_known p.loan out)) (out_known p.loan out)
          (record {
            lent = out;
            piece = refl;
            borrower = sym whose;
            some = some;
            row = low;
            end = short;
            place = refl;
            not_before = subst (λ (l : Loan). l.area.place ≤ stroke.place) (loan_known p.loan out) laying_laid.inside.start;
            not_behind = subst (λ (l : Loan). stroke.place + stroke_length stroke ≤ l.area.place + l.area.length) (loan_known p.loan out) laying_laid.inside.end;
          })

      spares : (j : Stroke) → Laid opening ls j → Spares os stroke j
      spares j r o ne i c d =
          ne (sym (the_out os j.painting.loan o).1
          ∙ (ap (λ (l : Loan). l.number) (one_spans lawful i (the_loan os j.painting.loan) (the_loan os p.loan) (the_out os _ o).0 (the_out os _ out).0 (within j r c o) (within stroke laying_laid d out))
          ∙ (the_out os p.loan out).1))
        where
          within : (k : Stroke) → Laid opening ls k → covers k i ≡ true → is_out os k.painting.loan ≡ true → Spans (the_loan os k.painting.loan) i
          within k q c' o' =
              let a = covers_parts k i c' in
              let b = q.inside.start in
              let e = q.inside.end in
              let x = a.0 in
              let y = a.1 in
              subst (λ (l : Loan). Spans l i) (loan_known k.painting.loan o') (omega arith, omega arith)

      pub invariant_paint : length (undoable os ss) < mm → length (all_below (undoable os ss)) + length p.laid ≤ mb → Invariant t mm mb opening ls os (stroke ∷ ss)
      invariant_paint one_more more =
          let all : all_below (undoable os ss) ++ stroke.below ≡ all_below (undoable os ss ++ stroke ∷ []) = flat_map_more (λ (k : Stroke). k.below) [] (undoable os ss) stroke in
          let long = ap length all in
          let parts = length-append (all_below (undoable os ss)) stroke.below in
          let same = laying_laid.sized.0 in
          let pushed = length_push (undoable os ss) stroke in
          record {
            numbers = invariant.numbers;
            pieces = invariant.pieces;
            lent = invariant.lent;
            once = invariant.once;
            single = invariant.single;
            laid = All-cons (Laid opening ls) stroke ss laying_laid invariant.laid;
            sound = (λ o. refl, All-weaker (Laid opening ls) (Spares os stroke) spares ss invariant.laid, invariant.sound);
            fits = subst (FitsShelves mm mb) (sym (undoable_cons os stroke ss out)) (record { marks = omega arith; bytes = omega arith });
          }

    -- the newest stroke of a loan taken back
    pub invariant_undo : (n : ℕ) → is_out os n ≡ true → Split (stroke_of n) ss → Invariant t mm mb opening ls os (less_first (stroke_of n) ss)
    invariant_undo n out s = record {
      numbers = invariant.numbers;
      pieces = invariant.pieces;
      lent = invariant.lent;
      once = invariant.once;
      single = invariant.single;
      laid = all_less_first (stroke_of n) (Laid opening ls) ss invariant.laid;
      sound = sound_undone os opening n out ss s invariant.sound;
      fits = fits_fewer mm mb _ _ (fewer_undone os opening n out ss s) invariant.fits;
    }

    -- a loan ended
    module _ (n : ℕ) where
      still_out : (m : ℕ) → is_out (less_all (is_number n) os) m ≡ true → is_out os m ≡ true
      still_out m h = (and_parts _ _ (sym (out_less os n m) ∙ h)).0

      lent_end : All (Lent t ls) (less_all (is_number n) os)
      lent_end = All-filter (λ o. not (is_number n o)) (Lent t ls) os invariant.lent

      single_end : Single (less_all (is_number n) os)
      single_end a b u v = invariant.single a b (among_filter _ os a u).0 (among_filter _ os b v).0

      fits_end : FitsShelves mm mb (undoable (less_all (is_number n) os) ss)
      fits_end = subst (FitsShelves mm mb) (sym (undoable_kept os n ss)) (fits_fewer mm mb _ _ (fewer_filter (λ s. not (stroke_of n s)) (undoable os ss)) invariant.fits)

      pub invariant_keep : Invariant t mm mb opening ls (less_all (is_number n) os) ss
      invariant_keep = record {
        numbers = invariant.numbers;
        pieces = invariant.pieces;
        lent = lent_end;
        once = rising_filter (λ o. not (is_number n o)) os invariant.once;
        single = single_end;
        laid = invariant.laid;
        sound = sound_fewer opening os _ ss (all_of _ (λ s. still_out s.painting.loan) ss) invariant.sound;
        fits = fits_end;
      }

      pub invariant_cancel : is_out os n ≡ true → Invariant t mm mb opening ls (less_all (is_number n) os) (less_all (stroke_of n) ss)
      invariant_cancel out = record {
        numbers = invariant.numbers;
        pieces = invariant.pieces;
        lent = lent_end;
        once = rising_filter (λ o. not (is_number n o)) os invariant.once;
        single = single_end;
        laid = All-filter (λ s. not (stroke_of n s)) (Laid opening ls) ss invariant.laid;
        sound = sound_fewer opening os _ _ (all_of _ (λ s. still_out s.painting.loan) (less_all (stroke_of n) ss)) (cancel_file os opening n out _ ss refl invariant.sound (all_sized opening ls ss invariant.laid)).1;
        fits = subst (FitsShelves mm mb) (sym (undoable_cancelled os n ss)) fits_end;
      }
