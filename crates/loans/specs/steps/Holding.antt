-- Whether a borrower holds a loan, and where a paint is to lie.
use Rattle.std.specs.Prelude.{◌≡◌, ℕ, ◌+◌, ◌≤◌, true, length, Some, None, Ok, Err, Option, Result, slice_index_or}
use Rattle.refusal.specs.declared.Refusal.{Refusal}
use Rattle.loans.specs.declared.target.Target.{Target}
use Rattle.loans.specs.Ledgers.{no_loan}
use Rattle.loans.specs.Books.{Orderly}
use Rattle.loans.specs.Stocks.{the_loan, are_own}
use Rattle.loans.specs.Strokes.{State, Painting, held_else, paint_refusal, stroke_place}
use Rattle.loans.specs.steps.Finding.{IsAt}

-- the position of a loan that the borrower holds, of a job's book
pub record HeldAt (s : State) (n who k : ℕ) : Type 0 where
  pub next : (rest : Option Refusal) → held_else s n who rest ≡ rest
  pub loan : IsAt s.book.outs n k
  pub sized : length s.file ≡ s.book.layout.table.length
  pub own_shelves : are_own s.book s.stock ≡ true
  pub orderly : Orderly s.book

-- the position of the loan, or the first of the four refusals that applies, whatever comes after them
abbrev pub Held : State → ℕ → ℕ → Result ℕ Refusal → Type 0
Held s n who (Ok k) = HeldAt s n who k
Held s n who (Err e) = (rest : Option Refusal) → held_else s n who rest ≡ Some e

-- where none of a paint's refusals applies: the position of its loan, and its place
pub record PaintAt (s : State) (p : Painting) (k at : ℕ) : Type 0 where
  pub none : paint_refusal s p ≡ None
  pub loan : IsAt s.book.outs p.loan k
  pub place : at ≡ stroke_place (the_loan s.book.outs p.loan).area p
  pub inside : at + length p.laid ≤ length s.file
  pub few : (slice_index_or s.book.outs k no_loan).strokes ≤ 1073741824

-- where the stroke is to lie, or the first refusal that applies
abbrev pub PaintTested : State → Painting → Result Target Refusal → Type 0
PaintTested s p (Ok target) = PaintAt s p target.position target.place
PaintTested s p (Err e) = paint_refusal s p ≡ Some e
