-- How many marks a loan has, and how many bytes marks cover, mark by mark.
use Rattle.std.proofs.Common.{◌≡◌, ℕ, suc, ◌+◌, ◌<◌, Bool, true, false, cond, List, [], ◌∷◌, ◌++◌, length, get_or, drop, ◌∙◌, arith}
use Rattle.std.proofs.lemmas.List.Sums.{sum_by-cons, sum_by-append, sum_by-drop_more, sum_by_push}
use Rattle.loans.specs.declared.mark.Mark.{Mark}
use Rattle.loans.specs.Stocks.{of_loan, marks_of, lengths}

one_or_none : (b : Bool) (n : ℕ) → cond b 1 0 + n ≡ cond b (suc n) n
one_or_none true n = omega arith
one_or_none false n = omega arith

pub marks_cons : (n : ℕ) (m : Mark) (ms : List Mark) → marks_of n (m ∷ ms) ≡ cond (of_loan n m) (suc (marks_of n ms)) (marks_of n ms)
marks_cons n m ms = sum_by-cons (λ x. cond (of_loan n x) 1 0) m ms ∙ one_or_none (of_loan n m) (marks_of n ms)

pub marks_append : (n : ℕ) (ms ns : List Mark) → marks_of n (ms ++ ns) ≡ marks_of n ms + marks_of n ns
marks_append n ms ns = sum_by-append (λ x. cond (of_loan n x) 1 0) ms ns

pub marks_push : (n : ℕ) (ms : List Mark) (m : Mark) → marks_of n (ms ++ m ∷ []) ≡ cond (of_loan n m) (suc (marks_of n ms)) (marks_of n ms)
marks_push n ms m = sum_by_push (λ x. cond (of_loan n x) 1 0) ms m ∙ turned (of_loan n m)
  where
    turned : (b : Bool) → marks_of n ms + cond b 1 0 ≡ cond b (suc (marks_of n ms)) (marks_of n ms)
    turned true = omega arith
    turned false = omega arith

pub marks_from : (n : ℕ) (ms : List Mark) (i : ℕ) (d : Mark) → i < length ms
    → marks_of n (drop i ms) ≡ cond (of_loan n (get_or ms i d)) (suc (marks_of n (drop (i + 1) ms))) (marks_of n (drop (i + 1) ms))
marks_from n ms i d inside = sum_by-drop_more (λ x. cond (of_loan n x) 1 0) ms i d inside ∙ one_or_none (of_loan n (get_or ms i d)) _

pub lengths_cons : (m : Mark) (ms : List Mark) → lengths (m ∷ ms) ≡ m.length + lengths ms
lengths_cons m ms = sum_by-cons (λ (x : Mark). x.length) m ms

pub lengths_append : (ms ns : List Mark) → lengths (ms ++ ns) ≡ lengths ms + lengths ns
lengths_append ms ns = sum_by-append (λ (x : Mark). x.length) ms ns

pub lengths_from : (ms : List Mark) (i : ℕ) (d : Mark) → i < length ms → lengths (drop i ms) ≡ (get_or ms i d).length + lengths (drop (i + 1) ms)
lengths_from ms i d inside = sum_by-drop_more (λ (x : Mark). x.length) ms i d inside
