-- Calls, answers and changes as text.
use Rattle.std.specs.Prelude.{ℕ, List, [], ◌++◌, length, Some, None, Ok, Err, Option, Result, codes, decimal}
use Rattle.refusal.specs.declared.Refusal.{Refusal}
use Rattle.refusal.specs.Meanings.{refusal_text}
use Rattle.dds.specs.declared.piece.Piece.{Piece}
use Rattle.dds.specs.Texts.{piece_text}
use Rattle.loans.specs.Rules.{Request}
use Rattle.loans.specs.Rules.Request.{lend, paint, undo, keep, cancel}
use Rattle.painters.specs.declared.Painter.{Painter}
use Rattle.trace.specs.declared.traced.TracedChange.{TracedChange}

-- a call in words
abbrev pub call_text : Request → List ℕ
call_text (lend p who) = codes "loan of piece " ++ (piece_text p ++ (codes " to borrower " ++ decimal who))
call_text (paint p) =
    codes "paint in loan " ++ (decimal p.loan ++ (codes " by borrower " ++ (decimal p.borrower
    ++ (codes ", row " ++ (decimal p.row ++ (codes ", first " ++ (decimal p.first
    ++ (codes ", " ++ (decimal (length p.laid) ++ codes " bytes")))))))))
call_text (undo n who) = codes "undo in loan " ++ (decimal n ++ (codes " by borrower " ++ decimal who))
call_text (keep n) = codes "keep of loan " ++ decimal n
call_text (cancel n) = codes "cancel of loan " ++ decimal n

-- what the number of an answer counts
abbrev pub counted_by : Request → List ℕ
counted_by (lend p who) = codes "loan"
counted_by (paint p) = codes "undoable"
counted_by (undo n who) = codes "undoable"
counted_by (keep n) = codes "out"
counted_by (cancel n) = codes "out"

-- an answer to a call in words
abbrev pub answer_text : Request → Result ℕ Refusal → List ℕ
answer_text d (Ok n) = counted_by d ++ (codes " " ++ decimal n)
answer_text d (Err e) = refusal_text e

-- the owner of a byte, behind what it is said of
abbrev pub owned_text : Option (Piece × ℕ) → List ℕ
owned_text None = []
owned_text (Some byte) = codes ", piece " ++ (piece_text byte.0 ++ (codes " offset " ++ decimal byte.1))

-- who painted a byte, behind what it is said of
abbrev pub painted_text : Option Painter → List ℕ
painted_text None = []
painted_text (Some who) =
    codes ", by borrower " ++ (decimal who.borrower ++ (codes " in loan " ++ decimal who.loan))

-- a change with its first byte's owner and painter
abbrev pub change_text : TracedChange → List ℕ
change_text t =
    decimal t.change.length ++ (codes " bytes from place " ++ (decimal t.change.place ++ (codes " on"
    ++ (owned_text t.owner ++ painted_text t.painter))))
