use Rattle.std.proofs.Common.{◌/◌, ◌<◌, ◌≤◌, subst}
use Rattle.dds.specs.declared.layout.Layout.{Layout}
use Rattle.dds.proofs.Numbering.{per_some, piece_found, piece_none, rest_below}
use Rattle.dds.proofs.layout.Layout.piece_number.Goals as goal

pub nonzero_rem-number : goal.nonzero_rem-number
nonzero_rem-number c = per_some c.args.self.now c.pieces_per_element-pieces.result c.pieces_per_element-pieces.ensures

pub returns-then-element-self : goal.returns-then-element-self
returns-then-element-self c =
    piece_none c.args.self.now c.pieces_per_element-pieces.result c.pieces_per_element-pieces.ensures c.args.number
    (subst (λ (y : Layout). y.table.elements ≤ c.args.number / c.pieces_per_element-pieces.result) c.self.view_is c.if-element-self.true)

pub returns-in_err-level : goal.returns-in_err-level
returns-in_err-level c =
    absurd (rest_below c.args.self.now c.pieces_per_element-pieces.result c.pieces_per_element-pieces.ensures c.args.number c.in_err-level.ensures)

pub returns : goal.returns
returns c =
    let s = c.in_ok-level.ensures in
    piece_found c.args.self.now c.pieces_per_element-pieces.result c.pieces_per_element-pieces.ensures
    c.args.number c.in_ok-level.level c.in_ok-level.slice
    (subst (λ (y : Layout). c.args.number / c.pieces_per_element-pieces.result < y.table.elements) c.self.view_is c.if-element-self.false) s.0 s.1 s.2
