-- Whose the changed bytes are, and who painted them.
use Rattle.std.specs.Prelude.{◌≡◌, ℕ, ◌-◌, min, List, map, length, Some, None, Ok, Err, Option, Result}
use Rattle.refusal.specs.declared.Refusal.{Refusal}
use Rattle.dds.specs.declared.piece.Piece.{Piece}
use Rattle.dds.specs.Places.{WhoseIs}
use Rattle.loans.specs.declared.call.Call.{Call}
use Rattle.loans.specs.declared.job.Job.{Job}
use Rattle.loans.specs.Rules.{request_of}
use Rattle.painters.specs.Tracing.{Traced, IsNewest}
use Rattle.trace.specs.declared.change.Change.{Change}
use Rattle.trace.specs.declared.traced.TracedChange.{TracedChange}

-- a change with its first byte's owner and painter
pub record TracedSo (job : Job) (calls : List Call) (answers : List (Result ℕ Refusal))
    (c : Change) (t : TracedChange) : Type 0 where
  -- the change itself
  pub change : t.change ≡ c
  -- whose its first byte is, as the job's layout has it
  pub owner : WhoseIs job.layout c.place (Ok t.owner)
  -- who painted it, after a run of the calls
  pub painter : Traced job.layout (map request_of calls) answers c.place t.painter
  -- and by whatever calls and answers
  pub exact : IsNewest job.layout.table calls answers c.place
      (min (length calls) (length answers)) t.painter

-- refused where the layout refuses the place of the first byte
abbrev pub ChangeTraced : Job → List Call → List (Result ℕ Refusal) → Change
    → Result TracedChange Refusal → Type 0
ChangeTraced job calls answers c (Ok t) = TracedSo job calls answers c t
ChangeTraced job calls answers c (Err e) = WhoseIs job.layout c.place (Err e)

-- the piece of a byte's owner; the first piece where it is nobody's, or past the file's end
abbrev pub piece_or_first : Result (Option (Piece × ℕ)) Refusal → Piece
piece_or_first (Ok (Some byte)) = byte.0
piece_or_first (Ok None) = record { element = 0; level = 0; slice = 0 }
piece_or_first (Err e) = record { element = 0; level = 0; slice = 0 }

-- the piece that has the last byte of a file of that length
abbrev pub LastPiece : Job → ℕ → Piece → Type 0
LastPiece job length p =
    (owner : Result (Option (Piece × ℕ)) Refusal)
    × WhoseIs job.layout (length - 1) owner × (p ≡ piece_or_first owner)
