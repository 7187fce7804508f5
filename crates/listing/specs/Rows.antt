-- What is told of a piece, and of a byte.
use Rattle.std.specs.Prelude.{◌≡◌, ℕ, Ok, Err, Result, slice_index_or}
use Rattle.refusal.specs.declared.Refusal.{Refusal}
use Rattle.dds.specs.declared.layout.Layout.{Layout}
use Rattle.dds.specs.declared.piece.Piece.{Piece}
use Rattle.listing.specs.declared.owner.Owner.{Owner}
use Rattle.listing.specs.declared.row.Row.{Row}
use Rattle.dds.specs.Places.{WhereIs, WhoseIs}
use Rattle.dds.specs.Tables.{blank}

-- a row has its piece, the sides of the piece's level and the piece's area
abbrev pub RowOf : Layout → Piece → Result Row Refusal → Type 0
RowOf layout p (Ok row) =
    (row.piece ≡ p) × (row.width ≡ (slice_index_or layout.table.levels p.level blank).width)
    × (row.height ≡ (slice_index_or layout.table.levels p.level blank).height) × WhereIs layout p (Ok row.area)
RowOf layout p (Err e) = WhereIs layout p (Err e)

-- a byte's owner is what dds answers of it
abbrev pub OwnerAt : Layout → ℕ → Result Owner Refusal → Type 0
OwnerAt layout place (Ok owner) = WhoseIs layout place (Ok owner.0)
OwnerAt layout place (Err e) = WhoseIs layout place (Err e)
