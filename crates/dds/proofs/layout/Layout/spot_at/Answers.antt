use Rattle.std.proofs.Common.{◌+◌, ◌-◌, ◌/◌, ◌%◌, ◌<◌, ◌≤◌, get_or, sym, subst}
use Rattle.dds.specs.declared.layout.Layout.{Layout}
use Rattle.dds.specs.declared.spot.Spot.{Spot}
use Rattle.dds.specs.steps.Spots.{SpotOf}
use Rattle.dds.specs.Tables.{blank}
use Rattle.dds.proofs.Spotting.{spotted}
use Rattle.dds.proofs.layout.Layout.spot_at.Goals as goal

pub returns : goal.returns
returns c =
    let l = c.self.inside.laid in
    let n = c.level_holding-number.result in
    let o = c.args.offset in
    let holding = c.level_holding-number.ensures in
    let held =
    subst (λ (y : Layout). (n < y.table.level_count) × (o < y.table.stride) × ((get_or y.table.levels n blank).begin ≤ o)
    × (n + 1 < y.table.level_count → o < (get_or y.table.levels (n + 1) blank).begin))
    (sym c.self.view_is) (holding.within, c.requires.within, holding.begun, holding.last) in
    let length = c.piece_length-length.result in
    let rest = o - (get_or l.table.levels n blank).begin in
    let spot : Spot = record { level = n; slice = rest / length; offset = rest % length } in
    subst (λ (y : Layout). SpotOf y.table o spot) c.self.view_is
    (spotted l.table l.sound n o length held.0 held.1 held.2 held.3 c.piece_length-length.ensures)
