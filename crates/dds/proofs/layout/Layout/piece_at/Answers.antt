use Rattle.std.proofs.Common.{◌-◌, ◌/◌, ◌%◌, Ok, Some, None, inl, inr, sym, subst, arith}
use Rattle.dds.specs.declared.layout.Layout.{Layout}
use Rattle.dds.specs.declared.piece.Piece.{Piece}
use Rattle.dds.specs.Places.{WhoseIs}
use Rattle.dds.specs.steps.Spots.{SpotOf}
use Rattle.dds.proofs.Placing.{tiled}
use Rattle.dds.proofs.Spotting.{owner_at, nobody_at}
use Rattle.dds.proofs.layout.Layout.piece_at.Goals as goal
use Rattle.dds.proofs.layout.Layout.piece_at.Goals.{then-place-self-2-via-then-place-self-2, then-place-self-2-via-else-place-self-2+then-place-self-3}

pub returns-then-place-self-clause-tiled : goal.returns-then-place-self-clause-tiled
returns-then-place-self-clause-tiled c = tiled c.args.self.now

pub returns-then-place-self-2 : goal.returns-then-place-self-2
returns-then-place-self-2 c =
    let s = c.self.inside.laid in
    let nobody : WhoseIs s c.args.place (Ok None) = (
      omega arith,
      nobody_at s.table s.sound c.args.place
          (elim c.then-place-self-2.branch [
            | then-place-self-2-via-then-place-self-2 w ↦ inl w.if-place-self-2.true
            | then-place-self-2-via-else-place-self-2+then-place-self-3 w ↦ inr w.if-place-self-3.true
          ]),
    ) in
    record {
      value = subst (λ (y : Layout). WhoseIs y c.args.place (Ok None)) c.self.view_is nobody;
      tiled = tiled c.args.self.now;
    }

pub returns : goal.returns
returns c =
    let s = c.self.inside.laid in
    let spot = c.spot_at-spot.result in
    let inner = c.args.place - s.table.pixel_begin in
    let is_spot = subst (λ (y : Layout). SpotOf y.table (inner % s.table.stride) spot) (sym c.self.view_is) c.spot_at-spot.ensures in
    let piece : Piece = record { element = inner / s.table.stride; level = spot.level; slice = spot.slice } in
    let owner : WhoseIs s c.args.place (Ok (Some (piece, spot.offset))) =
    (omega arith, owner_at s.table s.sound c.args.place spot c.if-place-self-2.false c.if-place-self-3.false is_spot) in
    record {
      value = subst (λ (y : Layout). WhoseIs y c.args.place (Ok (Some (piece, spot.offset)))) c.self.view_is owner;
      tiled = tiled c.args.self.now;
    }
