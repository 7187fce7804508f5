-- When shelves are a job's, by the counts of one pass.
use Rattle.std.proofs.Common.{◌≡◌, ℕ, ◌≤◌, Bool, true, false, ◌&&◌, eqb, List, length, sym, refl, ap, ◌∙◌, subst, ap₂, subst₂, arith}
use Rattle.std.proofs.lemmas.Bool.{eq-eqb}
use Rattle.loans.specs.declared.loan.Loan.{Loan}
use Rattle.loans.specs.declared.mark.Mark.{Mark}
use Rattle.loans.specs.Books.{Book}
use Rattle.loans.specs.Stocks.{Stock, are_own, all_counted, all_sound, lengths}
use Rattle.loans.specs.steps.Tallies.{Tally, agree}
use Rattle.loans.proofs.Tallying.{agree_counted}

module _ (b : Book) (k : Stock) where
  pub tallied : length k.marks ≡ b.marks → length k.bytes ≡ b.bytes → (counts : List ℕ) → length b.outs ≤ 32
      → Tally b.outs k.marks (length k.bytes) counts → agree b.outs counts ≡ are_own b k
  tallied marks bytes counts few tally =
      agree_counted b.outs counts k.marks (omega (arith, tally.size)) tally.counted
      ∙ sym (ap₂ (λ x y. (x && y) && (all_counted b.outs k.marks && (all_sound b.outs k.marks && eqb (lengths k.marks) (length k.bytes)))) (eq-eqb _ _ marks) (eq-eqb _ _ bytes)
      ∙ ap₂ (λ x y. all_counted b.outs k.marks && (x && y)) tally.sound (eq-eqb _ _ tally.covered) ∙ and_true (all_counted b.outs k.marks))
    where
      and_true : (x : Bool) → (x && true) ≡ x
      and_true true = refl
      and_true false = refl

-- the steps of the test: what they read, and what each is
pub owned : (b : Book) (k : Stock) (ls ls' : List Loan) (ms : List Mark) (n : ℕ) (counts : List ℕ) (r : Bool) → length b.outs ≤ 32
    → ls ≡ b.outs → ls' ≡ b.outs → ms ≡ k.marks → n ≡ length k.bytes
    → length ms ≡ b.marks → n ≡ b.bytes → Tally ls ms n counts → r ≡ agree ls' counts → r ≡ are_own b k
owned b k ls ls' ms n counts r few outs₁ outs₂ marks bytes same_marks same_bytes tally agrees =
    let t : Tally b.outs k.marks (length k.bytes) counts =
    subst (λ (x : List Loan). Tally x k.marks (length k.bytes) counts) outs₁ (subst₂ (λ (x : List Mark) (y : ℕ). Tally ls x y counts) marks bytes tally) in
    agrees ∙ ap (λ (x : List Loan). agree x counts) outs₂ ∙ tallied b k (ap length (sym marks) ∙ same_marks) (sym bytes ∙ same_bytes) counts few t
