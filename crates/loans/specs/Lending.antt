-- What lending a piece answers and leaves.
use Rattle.std.specs.Prelude.{ℕ, ◌+◌, Bool, cond, not, ◌&&◌, List, [], ◌∷◌, ◌++◌, length, Some, None, Option, ◌==◌, nat_le}
use Rattle.std.specs.List.{list_any}
use Rattle.refusal.specs.declared.Refusal.{Refusal}
use Rattle.refusal.specs.declared.Refusal.TheVariants.{NoSuchPiece, PieceOut, TooManyLoans, NumbersUsedUp}
use Rattle.dds.specs.declared.area.Area.{Area}
use Rattle.dds.specs.declared.piece.Piece.{Piece}
use Rattle.dds.specs.Places.{exists_in, area_in}
use Rattle.loans.specs.declared.loan.Loan.{Loan}
use Rattle.loans.specs.Books.{Book}

-- two pieces are the same where element, level and slice are
abbrev pub same_piece : Piece → Piece → Bool
same_piece p q = p.element == q.element && (p.level == q.level && p.slice == q.slice)

-- some loan of the list has the piece
abbrev pub piece_is_out : List Loan → Piece → Bool
piece_is_out ls p = list_any (λ (l : Loan). same_piece l.piece p) ls

-- the first refusal that applies: no such piece, the piece is out, 32 loans are out, 65,535 numbers were given
abbrev pub loan_refusal : Book → Piece → Option Refusal
loan_refusal b p =
    cond (not (exists_in b.layout.table p)) (Some NoSuchPiece)
    (cond (piece_is_out b.outs p) (Some PieceOut)
    (cond (nat_le 32 (length b.outs)) (Some TooManyLoans)
    (cond (nat_le 65535 b.granted) (Some NumbersUsedUp) None)))

-- a loan as it is granted: nothing of it was painted
abbrev pub granting : ℕ → Piece → ℕ → Area → Loan
granting n p who a = record { number = n; borrower = who; piece = p; area = a; strokes = 0 }

-- one loan more, with the next number
abbrev pub with_loan : Book → Piece → ℕ → Book
with_loan b p who =
    record b { outs = b.outs ++ granting (b.granted + 1) p who (area_in b.layout.table p) ∷ []; granted = b.granted + 1 }
