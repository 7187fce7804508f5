-- While the lines of a text are answered: what was printed, and how much room is left.
use Rattle.std.proofs.Common.{◌≡◌, ℕ, zero, suc, max, ◌+◌, ◌*◌, ◌<◌, ◌≤◌, List, [], ◌∷◌, ◌++◌, length, take, drop, Some, None, Option, Ok, Err, Result, refl, sym, ap, ap₂, ◌∙◌, subst, arith, append_assoc, length-append, length-take, length-drop}
use Rattle.std.specs.Prelude.{decimal, codes, IfOk}
use Rattle.std.specs.List.{All, position_from, sum_by}
use Rattle.std.proofs.lemmas.List.{append-nil}
use Rattle.std.proofs.lemmas.List.Elements.{All-nil, All-cons, All-tail}
use Rattle.std.proofs.lemmas.List.Sums.{sum_by-cons}
use Rattle.std.proofs.lemmas.Fmt.{length-decimal-le}
use Rattle.refusal.specs.declared.Refusal.{Refusal}
use Rattle.refusal.specs.Numbers.{number_of}
use Rattle.loans.specs.Rules.{Request, answers_to, after_all}
use Rattle.refusal.proofs.Numbers.{number_small}
use Rattle.loans.specs.Stocks.{Stock, SameRoom, answer_limit}
use Rattle.loans.specs.Strokes.{State}
use Rattle.orders.specs.Replies.{reply_text, reply_to}
use Rattle.orders.specs.Spelling.{Instruction, spelling}
use Rattle.orders.specs.Spelling.Instruction.{lend, lend_element, paint, undo, keep, cancel}
use Rattle.orders.specs.Lines.{lines_of, is_end, Begins}
use Rattle.orders.specs.Days.{Asks, answer_lines, calls_in, answers_in}
use Rattle.orders.specs.steps.Answering.{answer_for, after_line, LineAnswered, LinesAnswered}
use Rattle.loans.proofs.Limits.{same_itself, same_then}
use Rattle.orders.proofs.Cutting.{begins_none, begins_some, end_inside}

-- ---- a line is short

refusal_short : (e : Refusal) → length (reply_text (reply_to (Err e))) ≤ 6
refusal_short e =
    let small = number_small e in
    omega (arith, length-append (codes "no ") (decimal (number_of e) ++ 10 ∷ []), length-append (decimal (number_of e)) (10 ∷ []), length-decimal-le 2 (number_of e) (omega arith) (omega arith) (omega arith))

-- a printed answer has at most nine bytes
pub reply_short : (a : Result ℕ Refusal) → IfOk a (λ n. n ≤ 65535) → length (reply_text (reply_to a)) ≤ 9
reply_short (Ok n) h =
    omega (arith, length-append (codes "ok ") (decimal n ++ 10 ∷ []), length-append (decimal n) (10 ∷ []), length-decimal-le 5 n (omega arith) (omega (arith, h)) (omega (arith, h)))
reply_short (Err e) h = omega (arith, refusal_short e)

-- where the limit is that number, and the shelves can hold as much as at first
pub few_digits : {k m : Stock} → SameRoom k m → answer_limit k ≡ 65535 → (a : Result ℕ Refusal) → IfOk a (λ n. n ≤ answer_limit m) → IfOk a (λ n. n ≤ 65535)
few_digits same limit (Ok n) h = omega (arith, h, ap (max 65535) same.marks, limit)
few_digits same limit (Err e) h = tt

-- ---- lines are short

-- the bytes that a line takes in its text at least; an empty line has its end
abbrev pub weight : List ℕ → ℕ
weight [] = 1
weight (b ∷ bs) = length (b ∷ bs)

abbrev pub weights : List (List ℕ) → ℕ
weights ls = sum_by weight ls

pub weights_more : {ls left : List (List ℕ)} (line : List ℕ) → ls ≡ line ∷ left → weights ls ≡ weight line + weights left
weights_more {ls} {left} line e = ap weights e ∙ sum_by-cons weight line left

-- no longer than that
abbrev pub Within : ℕ → List ℕ → Type 0
Within m l = length l ≤ m

-- the lines of a text take no more than the text, and none is longer than it
abbrev pub Small : ℕ → List ℕ → Type 0
Small m text = (weights (lines_of text) ≤ length text) × All (Within m) (lines_of text)

weight_most : (l : List ℕ) → weight l ≤ length l + 1
weight_most [] = omega arith
weight_most (b ∷ bs) = omega arith

joined : (m : ℕ) (text line after : List ℕ) → Begins text line after → 0 < length text → weight line + length after ≤ length text → length line ≤ m → Small m after → Small m text
joined m text line after b some fits short rest =
    let is = (b some).0 in
    (omega (arith, weights_more line is, fits, rest.0), subst (All (Within m)) (sym is) (All-cons (Within m) line (lines_of after) short rest.1))

pub lines_small : (fuel m : ℕ) (text : List ℕ) → length text ≤ fuel → length text ≤ m → Small m text
lines_small fuel m [] f h = (omega arith, All-nil (Within m))
lines_small zero m (b ∷ text) f h = absurd (omega arith)
lines_small (suc fuel) m (b ∷ text) f h = go (position_from is_end 0 (b ∷ text)) refl (lines_small fuel m)
  where
    go : (r : Option ℕ) → position_from is_end 0 (b ∷ text) ≡ r → ((after : List ℕ) → length after ≤ fuel → length after ≤ m → Small m after) → Small m (b ∷ text)
    go None e rest = joined m (b ∷ text) (b ∷ text) [] (begins_none (b ∷ text) e) (omega arith) (omega arith) h (omega arith, All-nil (Within m))
    go (Some n) e rest =
        let begins = begins_some (b ∷ text) n e in
        let less = (begins (omega arith)).1 in
        let front = length-take n (b ∷ text) in
        let back = length-drop (n + 1) (b ∷ text) in
        let most = weight_most (take n (b ∷ text)) in
        joined m (b ∷ text) (take n (b ∷ text)) (drop (n + 1) (b ∷ text)) begins (omega arith) (omega (arith, less, front, back, most, end_inside (b ∷ text) n e)) (omega (arith, h, front))
        (rest (drop (n + 1) (b ∷ text)) (omega (arith, less)) (omega (arith, less)))

-- a line that tells an order has more than one byte
order_long : (t : Instruction) → 2 ≤ length (spelling t)
order_long (lend p who) = omega arith
order_long (lend_element e who) = omega arith
order_long (paint p) = omega arith
order_long (undo n who) = omega arith
order_long (keep n) = omega arith
order_long (cancel n) = omega arith

weight_least : (l : List ℕ) → (1 ≤ weight l) × (length l ≤ weight l)
weight_least [] = (omega arith, omega arith)
weight_least (b ∷ bs) = (omega arith, omega arith)

-- no more is printed for a line than six bytes a byte
pub printed_little : (line : List ℕ) (s t : State) (a : Result ℕ Refusal) → LineAnswered line s a t → IfOk a (λ n. n ≤ 65535) → length (reply_text (reply_to a)) ≤ 6 * weight line
printed_little line s t (Err e) one small = omega (arith, refusal_short e, (weight_least line).0)
printed_little line s t (Ok n) one small = go one.request one.asks one.answered
  where
    short : length (reply_text (reply_to (Ok n))) ≤ 9
    short = reply_short (Ok n) small

    go : (w : Option Request) → Asks line w → Ok n ≡ answer_for s w → length (reply_text (reply_to (Ok n))) ≤ 6 * weight line
    go None asks e = absurd cc
    go (Some d) asks e = omega (arith, short, order_long asks.0, ap length asks.2, (weight_least line).1)

-- ---- the loop

one_answered : (line : List ℕ) (left : List (List ℕ)) (s t u : State) (a : Result ℕ Refusal) (items items' new : List ℕ)
    → LineAnswered line s a t → items' ≡ items ++ reply_text (reply_to a) → LinesAnswered left t items' u new → LinesAnswered (line ∷ left) s items u new
one_answered line left s t u a items items' new one e all = record {
  requests = one.request ∷ all.requests;
  asked = (one.asks, all.asked);
  printed = all.printed ∙ ap (λ xs. xs ++ rest t) e ∙ append_assoc items _ _ ∙ ap (λ xs. items ++ xs) (texts one.request one.answered one.left);
  left = all.left ∙ ap (λ (x : State). after_all x (calls_in all.requests)) one.left ∙ after_one one.request;
}
  where
    rest : State → List ℕ
    rest x = answer_lines (answers_in all.requests (answers_to x (calls_in all.requests)))

    texts : (w : Option Request) → a ≡ answer_for s w → t ≡ after_line s w
        → reply_text (reply_to a) ++ rest t ≡ answer_lines (answers_in (w ∷ all.requests) (answers_to s (calls_in (w ∷ all.requests))))
    texts None x y = ap₂ (λ (r : Result ℕ Refusal) (z : State). reply_text (reply_to r) ++ rest z) x y
    texts (Some d) x y = ap₂ (λ (r : Result ℕ Refusal) (z : State). reply_text (reply_to r) ++ rest z) x y

    after_one : (w : Option Request) → after_all (after_line s w) (calls_in all.requests) ≡ after_all s (calls_in (w ∷ all.requests))
    after_one None = refl
    after_one (Some d) = refl

pub record Working (all : List (List ℕ)) (n : ℕ) (s₀ s : State) (old items : List ℕ) (left : List (List ℕ)) (len₀ len cap₀ cap : ℕ) : Type 0 where
  pub rest : (t : State) (new : List ℕ) → LinesAnswered left s items t new → LinesAnswered all s₀ old t new
  pub room : len + 6 * weights left ≤ len₀ + 6 * n
  pub same : cap ≡ cap₀
  pub short : All (Within 16384) left
  pub most : SameRoom s₀.stock s.stock

pub working_first : (text : List ℕ) (s : State) (old : List ℕ) (left : List (List ℕ)) (len cap : ℕ) → length text ≤ 16384 → left ≡ lines_of text
    → Working (lines_of text) (length text) s s old old left len len cap cap
working_first text s old left len cap short e =
    let small = lines_small (length text) 16384 text (omega arith) short in
    subst (λ ls. Working (lines_of text) (length text) s s old old ls len len cap cap) (sym e)
    (record { rest = λ t new h. h; room = omega (arith, small.0); same = refl; short = small.1; most = same_itself s.stock })

pub working_more : (all : List (List ℕ)) (n : ℕ) (s₀ s t : State) (old items items' : List ℕ) (line : List ℕ) (now left : List (List ℕ)) (len₀ len len' cap₀ cap cap' : ℕ) (a : Result ℕ Refusal)
    → now ≡ line ∷ left → Working all n s₀ s old items now len₀ len cap₀ cap → LineAnswered line s a t → IfOk a (λ n. n ≤ 65535) → items' ≡ items ++ reply_text (reply_to a)
    → len' ≡ len + length (reply_text (reply_to a)) → cap' ≡ cap → SameRoom s.stock t.stock → Working all n s₀ t old items' left len₀ len' cap₀ cap'
working_more all n s₀ s t old items items' line now left len₀ len len' cap₀ cap cap' a e w one small printed longer same most =
    let here = subst (λ ls. Working all n s₀ s old items ls len₀ len cap₀ cap) e w in
    record {
      rest = λ u new h. here.rest u new (one_answered line left s t u a items items' new one printed h);
      room = omega (arith, w.room, longer, weights_more line e, printed_little line s t a one small);
      same = same ∙ here.same;
      short = All-tail (Within 16384) line left here.short;
      most = same_then here.most most;
    }

pub working_last : (all : List (List ℕ)) (n : ℕ) (s₀ s : State) (old items : List ℕ) (left : List (List ℕ)) (len₀ len cap₀ cap : ℕ) → left ≡ []
    → Working all n s₀ s old items left len₀ len cap₀ cap → LinesAnswered all s₀ old s items
working_last all n s₀ s old items left len₀ len cap₀ cap e w =
    w.rest s items (subst (λ ls. LinesAnswered ls s items s items) (sym e) (record { requests = []; asked = tt; printed = sym (append-nil items); left = refl }))
