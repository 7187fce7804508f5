use Rattle.std.proofs.Common.{sym, subst, arith, rules, replicate}
use Rattle.std.proofs.lemmas.List.{length-take-le}
use Rattle.dds.specs.Tables.{InRange}
use Rattle.dds.proofs.Shaped.{shaped}
use Rattle.dds.proofs.Opened.{steps_of, walk_sliced, walk_fits, made}
use Rattle.dds.proofs.opening.table_of.Goals as goal

pub slice_bounds-levels-end : goal.slice_bounds-levels-end
slice_bounds-levels-end g c =
    let few = (shaped c.args.header.now c.args.shape c.requires).few_levels in
    let count = c.levels-level_count.ensures in
    omega arith

pub slice_bounds-filled-end : goal.slice_bounds-filled-end
slice_bounds-filled-end g c =
    let few = (shaped c.args.header.now c.args.shape c.requires).few_levels in
    let count = c.levels-level_count.ensures in
    sym (length-take-le _ (replicate 15 c.default-levels.result) (omega arith))

pub fill_levels-stride-requires-clause-sides : goal.fill_levels-stride-requires-clause-sides
fill_levels-stride-requires-clause-sides g c =
    subst (λ d. InRange (record { width = c.args.header.now.width; height = c.args.header.now.height; depth = d })) (sym c.depth.ensures)
    (shaped c.args.header.now c.args.shape c.requires).sides

pub element_step-pixel_end-requires-clause-sliced : goal.element_step-pixel_end-requires-clause-sliced
element_step-pixel_end-requires-clause-sliced g c =
    let steps = steps_of c.args.header.now c.args.shape (g.F.Family.row_bytes c.args.family.now) (g.F.Family.rows c.args.family.now) _
    c.default-levels.result c.requires c.depth.ensures c.levels-level_count.ensures c.pixel_begin-pixel_begin.ensures
    c.elements-elements.ensures c.default-levels.ensures c.fill_levels-stride.ensures.count c.fill_levels-stride.ensures.chain in
    walk_sliced steps

pub element_step-pixel_end-requires-clause-fits : goal.element_step-pixel_end-requires-clause-fits
element_step-pixel_end-requires-clause-fits g c =
    let steps = steps_of c.args.header.now c.args.shape (g.F.Family.row_bytes c.args.family.now) (g.F.Family.rows c.args.family.now) _
    c.default-levels.result c.requires c.depth.ensures c.levels-level_count.ensures c.pixel_begin-pixel_begin.ensures
    c.elements-elements.ensures c.default-levels.ensures c.fill_levels-stride.ensures.count c.fill_levels-stride.ensures.chain in
    walk_fits steps (g.met.F.Family.bounded c.args.family.now)

pub overflow_cast-result : goal.overflow_cast-result
overflow_cast-result g c =
    let few = (shaped c.args.header.now c.args.shape c.requires).few_elements in
    let e = c.elements-elements.ensures in
    search rules

pub returns : goal.returns
returns g c =
    let steps = steps_of c.args.header.now c.args.shape (g.F.Family.row_bytes c.args.family.now) (g.F.Family.rows c.args.family.now) _
    c.default-levels.result c.requires c.depth.ensures c.levels-level_count.ensures c.pixel_begin-pixel_begin.ensures
    c.elements-elements.ensures c.default-levels.ensures c.fill_levels-stride.ensures.count c.fill_levels-stride.ensures.chain in
    made steps c.args.length c.element_step-pixel_end.result c.element_step-pixel_end.ensures
