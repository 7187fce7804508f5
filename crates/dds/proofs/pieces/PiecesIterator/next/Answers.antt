use Rattle.std.proofs.Common.{◌≡◌, ◌+◌, ◌<◌, ◌∷◌, drop, length, Option, ap, add-one, sym, ◌∙◌, subst, rules}
use Rattle.std.specs.Iterator.{YieldsFirst}
use Rattle.dds.specs.declared.piece.Piece.{Piece}
use Rattle.dds.specs.Counts.{names_in, pieces_left}
use Rattle.dds.specs.Layouts.{pieces_in}
use Rattle.dds.specs.Sound.{plan_in}
use Rattle.dds.proofs.Numbering.{numbered_left, numbered_past, pieces_length, pieces_few}
use Rattle.dds.proofs.pieces.PiecesIterator.next.Goals as goal

-- what is left begins with the piece of that number, which is among the pieces
first : (c : goal.In_ok-piece) → (pieces_left c.args.self.now ≡ c.in_ok-piece.piece ∷ drop (c.args.self.now.next + 1) (names_in c.args.self.now.layout.now))
    × (c.args.self.now.next < length (pieces_in c.args.self.now.layout.now))
first c =
    let s = c.args.self.now in
    let l = numbered_left (pieces_in s.layout.now) s.next c.in_ok-piece.piece (sym c.piece_number.ensures ∙ c.in_ok-piece.was) in
    (l.0 ∙ ap (λ n. c.in_ok-piece.piece ∷ drop n (names_in s.layout.now)) (sym (add-one s.next)), l.1)

pub returns-in_err-piece-clause-steps : goal.returns-in_err-piece-clause-steps
returns-in_err-piece-clause-steps c =
    let s = c.args.self.now in
    let e = numbered_past (pieces_in s.layout.now) s.next (sym c.piece_number.ensures ∙ c.in_err-piece.was) in
    subst (λ (r : Option Piece). YieldsFirst pieces_left s r s) (sym c.from_residual.ensures) (e, e)

pub overflow_add-self : goal.overflow_add-self
overflow_add-self c =
    let s = c.args.self.now in
    let few = (first c).1 in
    let long = pieces_length (plan_in s.layout.now.table) in
    let bytes = pieces_few s.layout.now in
    search rules

pub returns-clause-steps : goal.returns-clause-steps
returns-clause-steps c = (first c.before).0

pub returns-clause-goes : goal.returns-clause-goes
returns-clause-goes c = let e = ap length (first c.before).0 in search rules
