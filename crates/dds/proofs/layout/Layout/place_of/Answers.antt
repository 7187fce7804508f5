use Rattle.std.proofs.Common.{◌<◌, subst}
use Rattle.std.proofs.lemmas.Option.{MatchOption-at_some}
use Rattle.dds.specs.declared.layout.Layout.{Layout}
use Rattle.dds.proofs.Placing.{Found, found_fits, found_area, found_where, tiled}
use Rattle.dds.proofs.layout.Layout.place_of.Goals as goal

pub returns-in_err-level-clause-tiled : goal.returns-in_err-level-clause-tiled
returns-in_err-level-clause-tiled c = tiled c.args.self.now

pub returns-then-piece-self-clause-tiled : goal.returns-then-piece-self-clause-tiled
returns-then-piece-self-clause-tiled c = tiled c.args.self.now

pub place_in-requires : goal.place_in-requires
place_in-requires c =
    let found = MatchOption-at_some _ _ c.in_ok-level.level c.in_ok-level.ensures.ok_part c.level.ensures in
    found_fits {layout = c.args.self.now}
    (record {
      some = found.0;
      level = found.1;
      element = subst (λ (y : Layout). c.args.piece.element < y.table.elements) c.self.view_is c.if-piece-self.false;
      slice = c.if-piece-level.false;
    })

pub returns : goal.returns
returns c =
    let found = MatchOption-at_some _ _ c.in_ok-level.level c.in_ok-level.ensures.ok_part c.level.ensures in
    let f : Found c.args.self.now c.in_ok-level.level c.args.piece = record {
      some = found.0;
      level = found.1;
      element = subst (λ (y : Layout). c.args.piece.element < y.table.elements) c.self.view_is c.if-piece-self.false;
      slice = c.if-piece-level.false;
    } in
    record {
      value = found_area f c.place_in.result c.piece_length.result c.place_in.ensures c.piece_length.ensures;
      exact = found_where f c.place_in.result c.piece_length.result c.place_in.ensures c.piece_length.ensures;
      tiled = tiled c.args.self.now;
    }
