-- Every order is read from its line, and a line that is read as an order is that order's.
use Rattle.std.proofs.Common.{◌≡◌, ℕ, ◌<◌, ◌^◌, Bool, true, false, cond, eqb, List, [], ◌∷◌, ◌++◌, map, Some, None, Option, refl, sym, ap, ap₂, ◌∙◌, subst, inl, inr, arith, ◌⊎◌}
use Rattle.std.proofs.lemmas.Bool.{eqb-true, ne_eqb, true≢false}
use Rattle.std.proofs.lemmas.Option.{option_and_then_some, same_Some, none-some}
use Rattle.std.proofs.lemmas.List.Splits.{slice_split_at, slice_split_none, join_with_byte-slice_split}
use Rattle.std.proofs.lemmas.List.Elements.{All-nil, All-cons, All-head, All-tail, All-append, All-map, All-weaker}
use Rattle.std.proofs.lemmas.List.Sums.{AllPass-from_list_all}
use Rattle.std.specs.Prelude.{decimal}
use Rattle.std.specs.Char.{is_ascii_digit}
use Rattle.std.specs.List.{All, flat_map, join_with_byte, slice_split, list_all}
use Rattle.std.specs.Option.{option_map, ok_or}
use Rattle.dds.specs.Pieces.{piece_of}
use Rattle.loans.specs.Strokes.{painting_on}
use Rattle.orders.specs.Spelling.{Instruction, letter, numbers, digits, words, spelling, IsOrder, hex_pair}
use Rattle.orders.specs.Spelling.Instruction.{lend, lend_element, paint, undo, keep, cancel}
use Rattle.refusal.specs.declared.Refusal.TheVariants.{MalformedOrder}
use Rattle.orders.specs.declared.order.Order.{Order}
use Rattle.orders.specs.Orders.{Parsed}
use Rattle.orders.specs.Words.{value_at, hex_bytes_at, is_hex}
use Rattle.orders.specs.steps.Reading.{is_space, loan_at, paint_at, undo_at, only_at, with_number, order_of, by_words, order_at}
use Rattle.orders.specs.Orders.{instruction_of}
use Rattle.orders.proofs.Numbers.{value_again, value_takes, decimal_digits}
use Rattle.orders.proofs.Hex.{bytes_again, bytes_takes, all_hex}

-- a number of an order has 32 bits
abbrev IsNumber : ℕ → Type 0
IsNumber n = n < 2 ^ 32

one : (a : ℕ) → a < 2 ^ 32 → All IsNumber (a ∷ [])
one a x = All-cons IsNumber a [] x (All-nil IsNumber)

two : (a b : ℕ) → a < 2 ^ 32 → b < 2 ^ 32 → All IsNumber (a ∷ b ∷ [])
two a b x y = All-cons IsNumber a (b ∷ []) x (one b y)

four : (a b c d : ℕ) → a < 2 ^ 32 → b < 2 ^ 32 → c < 2 ^ 32 → d < 2 ^ 32 → All IsNumber (a ∷ b ∷ c ∷ d ∷ [])
four a b c d x y z w = All-cons IsNumber a (b ∷ c ∷ d ∷ []) x (All-cons IsNumber b (c ∷ d ∷ []) y (two c d z w))

-- ---- a line is its words

-- no space stands in it
abbrev Unspaced : List ℕ → Type 0
Unspaced w = All (λ b. is_space b ≡ false) w

parts : (w : List ℕ) (ws : List (List ℕ)) → All Unspaced (w ∷ ws) → slice_split is_space (join_with_byte 32 (w ∷ ws)) ≡ w ∷ ws
parts w [] h = slice_split_none is_space w (All-head Unspaced w [] h)
parts w (x ∷ ws) h =
    slice_split_at is_space w 32 (join_with_byte 32 (x ∷ ws)) (All-head Unspaced w (x ∷ ws) h) refl ∙ ap (λ xs. w ∷ xs) (parts x ws (All-tail Unspaced w (x ∷ ws) h))

passing : (p : ℕ → Bool) → ((b : ℕ) → p b ≡ true → is_space b ≡ false) → (w : List ℕ) → list_all p w ≡ true → Unspaced w
passing p k w h = All-weaker (λ b. p b ≡ true) (λ b. is_space b ≡ false) k w (AllPass-from_list_all p w h)

digit_unspaced : (b : ℕ) → is_ascii_digit b ≡ true → is_space b ≡ false
digit_unspaced b h = ne_eqb b 32 (λ e. true≢false (sym h ∙ ap is_ascii_digit e))

hex_unspaced : (b : ℕ) → is_hex b ≡ true → is_space b ≡ false
hex_unspaced b h = ne_eqb b 32 (λ e. true≢false (sym h ∙ ap is_hex e))

numbers_unspaced : (ns : List ℕ) → All IsNumber ns → All Unspaced (map decimal ns)
numbers_unspaced ns h =
    All-map Unspaced decimal ns (All-weaker IsNumber (λ n. Unspaced (decimal n)) (λ n small. passing is_ascii_digit digit_unspaced (decimal n) (decimal_digits n small)) ns h)

digits_unspaced : (o : Instruction) → IsOrder o → All Unspaced (digits o)
digits_unspaced (lend p who) h = All-nil Unspaced
digits_unspaced (lend_element e who) h = All-nil Unspaced
digits_unspaced (paint p) h = All-cons Unspaced _ [] (passing is_hex hex_unspaced (flat_map hex_pair p.laid) (all_hex p.laid h.bytes.1)) (All-nil Unspaced)
digits_unspaced (undo n who) h = All-nil Unspaced
digits_unspaced (keep n) h = All-nil Unspaced
digits_unspaced (cancel n) h = All-nil Unspaced

letter_unspaced : (o : Instruction) → is_space (letter o) ≡ false
letter_unspaced (lend p who) = refl
letter_unspaced (lend_element e who) = refl
letter_unspaced (paint p) = refl
letter_unspaced (undo n who) = refl
letter_unspaced (keep n) = refl
letter_unspaced (cancel n) = refl

words_unspaced : (o : Instruction) → IsOrder o → All Unspaced (words o)
words_unspaced o h =
    All-cons Unspaced (letter o ∷ []) _ (All-cons (λ b. is_space b ≡ false) (letter o) [] (letter_unspaced o) (All-nil (λ b. is_space b ≡ false)))
    (All-append Unspaced (map decimal (numbers o)) (digits o) (numbers_unspaced (numbers o) h.numbers) (digits_unspaced o h))

-- ---- what is spelled is read

again : (o : Instruction) → IsOrder o → by_words (words o) ≡ Some o
again (lend p who) h = let n = h.numbers in rw (value_again p.element (n 0 0 (omega arith)), value_again p.level (n 1 0 (omega arith)), value_again p.slice (n 2 0 (omega arith)), value_again who (n 3 0 (omega arith))) refl
again (lend_element e who) h = let n = h.numbers in rw (value_again e (n 0 0 (omega arith)), value_again who (n 1 0 (omega arith))) refl
again (paint p) h =
    let n = h.numbers in
    rw (value_again p.loan (n 0 0 (omega arith)), value_again p.borrower (n 1 0 (omega arith)), value_again p.row (n 2 0 (omega arith)), value_again p.first (n 3 0 (omega arith)), bytes_again p.laid h.bytes.0 h.bytes.1) refl
again (undo n who) h = let k = h.numbers in rw (value_again n (k 0 0 (omega arith)), value_again who (k 1 0 (omega arith))) refl
again (keep n) h = rw (value_again n (h.numbers 0 0 (omega arith))) refl
again (cancel n) h = rw (value_again n (h.numbers 0 0 (omega arith))) refl

-- each order is read from its line
pub order_again : (o : Instruction) → IsOrder o → order_at (spelling o) ≡ Some o
order_again o h =
    ap by_words (parts (letter o ∷ []) (map decimal (numbers o) ++ digits o) (words_unspaced o h)) ∙ again o h

-- ---- what is read is spelled so

-- a number that was read
record Took {A : Type 0} (w : List ℕ) (rest : ℕ → Option A) (y : A) : Type 0 where
  number : ℕ
  word : w ≡ decimal number
  small : number < 2 ^ 32
  more : rest number ≡ Some y

took : {A : Type 0} (w : List ℕ) (rest : ℕ → Option A) (y : A) → with_number w rest ≡ Some y → Took w rest y
took w rest y e =
    option_and_then_some rest (value_at w) y e (λ n h g. let t = value_takes w n h in record { number = n; word = t.0; small = t.1; more = g })

cons_is : (x y : List ℕ) (xs ys : List (List ℕ)) → x ≡ y → xs ≡ ys → x ∷ xs ≡ y ∷ ys
cons_is x y xs ys e h = ap₂ (λ (z : List ℕ) (zs : List (List ℕ)). z ∷ zs) e h

-- the words of a line are those of an order
abbrev pub WordsOf : List (List ℕ) → Instruction → Type 0
WordsOf ws o = (ws ≡ words o) × IsOrder o

as_order : (ws : List (List ℕ)) (o t : Instruction) → Some o ≡ Some t → WordsOf ws o → WordsOf ws t
as_order ws o t e h = subst (WordsOf ws) (same_Some o t e) h

loan_takes : (ws : List (List ℕ)) (t : Instruction) → loan_at ws ≡ Some t → WordsOf ((76 ∷ []) ∷ ws) t
loan_takes [] t h = absurd cc
loan_takes (w ∷ []) t h = absurd cc
loan_takes (e ∷ who ∷ []) t h =
    let a = took e _ t h in
    let b = took who _ t a.more in
    as_order _ (lend_element a.number b.number) t b.more (cons_is _ _ _ _ refl (cons_is _ _ _ _ a.word (cons_is _ _ _ _ b.word refl)), record { numbers = two a.number b.number a.small b.small; bytes = tt })
loan_takes (w ∷ x ∷ y ∷ []) t h = absurd cc
loan_takes (e ∷ l ∷ s ∷ who ∷ []) t h =
    let a = took e _ t h in
    let b = took l _ t a.more in
    let c = took s _ t b.more in
    let d = took who _ t c.more in
    as_order _ (lend (piece_of a.number b.number c.number) d.number) t d.more (
      cons_is _ _ _ _ refl (cons_is _ _ _ _ a.word (cons_is _ _ _ _ b.word (cons_is _ _ _ _ c.word (cons_is _ _ _ _ d.word refl)))),
      record { numbers = four a.number b.number c.number d.number a.small b.small c.small d.small; bytes = tt },
    )
loan_takes (w ∷ x ∷ y ∷ z ∷ u ∷ ws) t h = absurd cc

paint_takes : (ws : List (List ℕ)) (t : Instruction) → paint_at ws ≡ Some t → WordsOf ((80 ∷ []) ∷ ws) t
paint_takes [] t h = absurd cc
paint_takes (w ∷ []) t h = absurd cc
paint_takes (w ∷ x ∷ []) t h = absurd cc
paint_takes (w ∷ x ∷ y ∷ []) t h = absurd cc
paint_takes (w ∷ x ∷ y ∷ z ∷ []) t h = absurd cc
paint_takes (n ∷ who ∷ r ∷ f ∷ ds ∷ []) t h =
    let a = took n _ t h in
    let b = took who _ t a.more in
    let c = took r _ t b.more in
    let d = took f _ t c.more in
    option_and_then_some _ (hex_bytes_at ds) t d.more (λ bytes e g.
    let k = bytes_takes ds bytes e in
    as_order _ (paint (painting_on a.number b.number c.number d.number bytes)) t g (
      cons_is _ _ _ _ refl (cons_is _ _ _ _ a.word (cons_is _ _ _ _ b.word (cons_is _ _ _ _ c.word (cons_is _ _ _ _ d.word (cons_is _ _ _ _ k.0 refl))))),
      record { numbers = four a.number b.number c.number d.number a.small b.small c.small d.small; bytes = (k.1, k.2) },
    ))
paint_takes (w ∷ x ∷ y ∷ z ∷ u ∷ v ∷ ws) t h = absurd cc

undo_takes : (ws : List (List ℕ)) (t : Instruction) → undo_at ws ≡ Some t → WordsOf ((85 ∷ []) ∷ ws) t
undo_takes [] t h = absurd cc
undo_takes (w ∷ []) t h = absurd cc
undo_takes (n ∷ who ∷ []) t h =
    let a = took n _ t h in
    let b = took who _ t a.more in
    as_order _ (undo a.number b.number) t b.more (cons_is _ _ _ _ refl (cons_is _ _ _ _ a.word (cons_is _ _ _ _ b.word refl)), record { numbers = two a.number b.number a.small b.small; bytes = tt })
undo_takes (w ∷ x ∷ y ∷ ws) t h = absurd cc

-- a line of one number
only_takes : (make : ℕ → Instruction) (c : ℕ) → ((n : ℕ) → n < 2 ^ 32 → WordsOf ((c ∷ []) ∷ decimal n ∷ []) (make n)) → (ws : List (List ℕ)) (t : Instruction)
    → option_map make (only_at ws) ≡ Some t → WordsOf ((c ∷ []) ∷ ws) t
only_takes make c made [] t h = absurd cc
only_takes make c made (w ∷ []) t h = go (value_at w) refl h
  where
    go : (o : Option ℕ) → value_at w ≡ o → option_map make o ≡ Some t → WordsOf ((c ∷ []) ∷ w ∷ []) t
    go None e h = absurd cc
    go (Some n) e h = let k = value_takes w n e in as_order _ (make n) t h (subst (λ (x : List ℕ). WordsOf ((c ∷ []) ∷ x ∷ []) (make n)) (sym k.0) (made n k.1))
only_takes make c made (w ∷ x ∷ ws) t h = absurd cc

chosen : {A : Type 0} (b : Bool) (x y z : A) → cond b x y ≡ z → ((b ≡ true) × (x ≡ z)) ⊎ ((b ≡ false) × (y ≡ z))
chosen true x y z e = inl (refl, e)
chosen false x y z e = inr (refl, e)

order_takes_words : (c : ℕ) (ws : List (List ℕ)) (t : Instruction) → order_of c ws ≡ Some t → WordsOf ((c ∷ []) ∷ ws) t
order_takes_words c ws t h = elim (chosen (eqb c 76) _ _ _ h) [
  | inl p ↦ rw (eqb-true c 76 p.0) (loan_takes ws t p.1)
  | inr p ↦ elim (chosen (eqb c 80) _ _ _ p.1) [
    | inl p ↦ rw (eqb-true c 80 p.0) (paint_takes ws t p.1)
    | inr p ↦ elim (chosen (eqb c 85) _ _ _ p.1) [
      | inl p ↦ rw (eqb-true c 85 p.0) (undo_takes ws t p.1)
      | inr p ↦ elim (chosen (eqb c 75) _ _ _ p.1) [
        | inl p ↦ rw (eqb-true c 75 p.0) (only_takes keep 75 (λ n small. (refl, record { numbers = one n small; bytes = tt })) ws t p.1)
        | inr p ↦ elim (chosen (eqb c 67) _ _ _ p.1) [
          | inl p ↦ rw (eqb-true c 67 p.0) (only_takes cancel 67 (λ n small. (refl, record { numbers = one n small; bytes = tt })) ws t p.1)
          | inr p ↦ absurd cc
        ]
      ]
    ]
  ]
]

takes : (ws : List (List ℕ)) (t : Instruction) → by_words ws ≡ Some t → WordsOf ws t
takes [] t h = absurd cc
takes ([] ∷ ws) t h = absurd cc
takes ((c ∷ []) ∷ ws) t h = order_takes_words c ws t h
takes ((c ∷ d ∷ w) ∷ ws) t h = absurd cc

-- a line that is read as an order is that order's
pub order_takes : (line : List ℕ) (t : Instruction) → order_at line ≡ Some t → (line ≡ spelling t) × IsOrder t
order_takes line t h =
    let w = takes (slice_split is_space line) t h in
    (sym (join_with_byte-slice_split 32 line) ∙ ap (join_with_byte 32) w.0, w.1)

-- no line spells two orders
pub one_order : (a b : Instruction) → IsOrder a → IsOrder b → spelling a ≡ spelling b → a ≡ b
one_order a b h k e = same_Some a b (sym (order_again a h) ∙ ap order_at e ∙ order_again b k)

-- what parsing answers
pub parsed : (line : List ℕ) (o : Option Order) → option_map instruction_of o ≡ order_at line → Parsed line (ok_or o MalformedOrder)
parsed line None e = (refl, λ t h same. none-some t (e ∙ ap order_at same ∙ order_again t h))
parsed line (Some o) e = order_takes line (instruction_of o) (sym e)
