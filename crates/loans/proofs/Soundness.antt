-- What makes undo right: a stroke of a loan that is out still knows the bytes below it, and whatever other loans painted since lies elsewhere.
use Rattle.std.proofs.Common.{◌≡◌, ℕ, ◌+◌, ◌<◌, ◌≤◌, true, false, ◌⊎◌, List, [], ◌∷◌, ◌++◌, length, get_or, sym, refl, ap, ◌∙◌, inl, inr, arith}
use lib.Seq.{paste}
use Rattle.std.specs.List.{All}
use Rattle.std.proofs.lemmas.List.Elements.{All-nil, All-cons, All-head, All-tail, All-weaker}
use Rattle.std.proofs.lemmas.List.FromFn.{get_or-map-range_with_len}
use Rattle.std.proofs.lemmas.Bool.{eqb-true, eqb-false, cases_Bool}
use Rattle.loans.specs.declared.loan.Loan.{Loan}
use Rattle.loans.specs.Stocks.{is_out}
use Rattle.loans.specs.Journals.{Stroke, covers, stroke_of, stroke_length, byte_under, bytes_under}
use Rattle.loans.proofs.Listed.{all_right, all_without, all_both, None, none_head, none_tail}
use Rattle.loans.proofs.Underneath.{same_values, pasted, covers_from, covers_not, byte_without, byte_past}

-- two strokes share no byte
abbrev pub Clear : Stroke → Stroke → Type 0
Clear j k = (i : ℕ) → covers j i ≡ true → covers k i ≡ true → ⊥

-- a stroke lies in the file, and as many bytes were kept as it covers
abbrev pub Sized : List ℕ → Stroke → Type 0
Sized opening s = (length s.below ≡ stroke_length s) × (s.place + stroke_length s ≤ length opening)

-- stroke k is clear of j, if j's loan is out and is not k's
abbrev pub Spares : List Loan → Stroke → Stroke → Type 0
Spares os k j = is_out os j.painting.loan ≡ true → (j.painting.loan ≡ k.painting.loan → ⊥) → Clear j k

-- Of strokes, the newest first: each whose loan is out kept the bytes that the older ones lay, and each spares the older ones.
abbrev pub Sound : List ℕ → List Loan → List Stroke → Type 0
Sound opening os [] = Unit {0}
Sound opening os (k ∷ ss) =
    (is_out os k.painting.loan ≡ true → k.below ≡ bytes_under opening ss k.place (stroke_length k)) × All (Spares os k) ss × Sound opening os ss

pub not_covers : (s : Stroke) (i : ℕ) → (covers s i ≡ true → ⊥) → covers s i ≡ false
not_covers s i h = go (cases_Bool (covers s i))
  where
    go : (covers s i ≡ true) ⊎ (covers s i ≡ false) → covers s i ≡ false
    go (inl e) = absurd (h e)
    go (inr e) = e

-- strokes of a loan and of another
pub other_loan : (n : ℕ) (k a : Stroke) → stroke_of n k ≡ true → stroke_of n a ≡ false → k.painting.loan ≡ a.painting.loan → ⊥
other_loan n k a e f g = eqb-false n a.painting.loan f (eqb-true n k.painting.loan e ∙ g)

pub out_of : (os : List Loan) (n : ℕ) (k : Stroke) → stroke_of n k ≡ true → is_out os n ≡ true → is_out os k.painting.loan ≡ true
out_of os n k e h = rw (eqb-true n k.painting.loan e) at h

module _ (opening : List ℕ) where
  -- where fewer loans are out
  pub sound_fewer : (os os' : List Loan) (ss : List Stroke) → All (λ s. is_out os' s.painting.loan ≡ true → is_out os s.painting.loan ≡ true) ss → Sound opening os ss → Sound opening os' ss
  sound_fewer os os' [] h s = tt
  sound_fewer os os' (k ∷ ss) h s =
      let P : Stroke → Type 0 = λ s. is_out os' s.painting.loan ≡ true → is_out os s.painting.loan ≡ true in
      let rest : All P ss = All-tail P k ss h in (
        λ o. s.0 (All-head P k ss h o),
        all_both P (Spares os k) (Spares os' k) (λ j f g o. g (f o)) ss rest s.1,
        sound_fewer os os' ss rest s.2,
      )

  pub sound_back : (os : List Loan) (ss rest : List Stroke) → Sound opening os (ss ++ rest) → Sound opening os rest
  sound_back os [] rest s = s
  sound_back os (k ∷ ss) rest s = sound_back os ss rest s.2

  module _ (os : List Loan) (n : ℕ) (out : is_out os n ≡ true) (k : Stroke) (of-n : stroke_of n k ≡ true) (rest : List Stroke) where
    -- what is newer than the newest of a loan spares it
    pub front_clear : (ss : List Stroke) → None (stroke_of n) ss → Sound opening os (ss ++ k ∷ rest) → All (Clear k) ss
    front_clear [] h s = All-nil (Clear k)
    front_clear (a ∷ ss) h s =
        let clear = All-head (Spares os a) k rest (all_right (Spares os a) ss (k ∷ rest) s.1) in
        All-cons (Clear k) a ss (clear (out_of os n k of-n out) (other_loan n k a of-n (none_head (stroke_of n) a ss h)))
        (front_clear ss (none_tail (stroke_of n) a ss h) s.2)

    -- without the newest of a loan all is sound
    pub sound_less : (ss : List Stroke) → None (stroke_of n) ss → Sound opening os (ss ++ k ∷ rest) → Sound opening os (ss ++ rest)
    sound_less [] h s = s.2
    sound_less (a ∷ ss) h s = (
      λ o. s.0 o ∙ same_values _ _ a.place (stroke_length a) (λ i b c. byte_without opening ss k rest i (not_covers k i (λ d. clear i d (covers_from a i b c)))),
      all_without (Spares os a) ss k rest s.1,
      sound_less ss (none_tail (stroke_of n) a ss h) s.2,
    )
      where
        clear : Clear k a
        clear = All-head (Clear k) a ss (front_clear (a ∷ ss) h s)

    -- what it kept put back gives the bytes without it
    pub undone : (ss : List Stroke) → None (stroke_of n) ss → Sound opening os (ss ++ k ∷ rest) → Sized opening k
        → paste (bytes_under opening (ss ++ k ∷ rest) 0 (length opening)) k.place k.below (stroke_length k) ≡ bytes_under opening (ss ++ rest) 0 (length opening)
    undone ss h s z =
        pasted (byte_under opening (ss ++ k ∷ rest)) (byte_under opening (ss ++ rest)) (length opening) k.place k.below (stroke_length k) z.0 z.1 in_part
        (λ i o. byte_without opening ss k rest i (covers_not k i o))
      where
        in_part : (i : ℕ) → i < stroke_length k → get_or k.below i 0 ≡ byte_under opening (ss ++ rest) (k.place + i)
        in_part i b =
            let at : ℕ = k.place + i in
            let past : All (λ a. covers a at ≡ false) ss = All-weaker (Clear k) (λ a. covers a at ≡ false) (λ a c. not_covers a at (c at (covers_from k at (omega arith) (omega arith)))) ss (front_clear ss h s) in
            ap (λ bs. get_or bs i 0) ((sound_back os ss (k ∷ rest) s).0 (out_of os n k of-n out))
            ∙ get_or-map-range_with_len (byte_under opening rest) k.place (stroke_length k) i at 0 b refl
            ∙ sym (byte_past opening ss rest at past)
