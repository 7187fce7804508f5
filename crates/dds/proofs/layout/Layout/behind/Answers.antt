use Rattle.std.proofs.Common.{refl, sym, arith}
use Rattle.std.specs.Prelude.{Ok, Err}
use Rattle.refusal.specs.declared.Refusal.TheVariants.{WrongEnd}
use Rattle.dds.specs.Readings.{reading_in}
use Rattle.dds.proofs.Answered.{header_is, opened}
use Rattle.dds.proofs.Shaped.{shaped}
use Rattle.dds.proofs.Tabled.{table_sound, table_fits_file, table_fits_none}
use Rattle.dds.proofs.layout.Layout.behind.Goals as goal

pub returns-then-table-head : goal.returns-then-table-head
returns-then-table-head g c =
    let shape_is = sym c.in_ok-shape.ensures in
    let ok = shaped c.args.header.now c.in_ok-shape.shape shape_is in
    opened (reading_in c.args.head) _ _ c.args.header.now c.in_ok-shape.shape c.requires shape_is c.args.source (Err WrongEnd)
    (refl, table_fits_none _ _ _ _ _ _ c.table_of-table.ensures ok (λ e. omega (arith, e, c.if-table-head.true)))

pub invariant_of-result : goal.invariant_of-result
invariant_of-result g c =
    let ok = shaped c.args.header.now c.in_ok-shape.shape (sym c.in_ok-shape.ensures) in
    let few = (header_is (reading_in c.args.head) c.args.header.now c.requires).1 in
    record {
      sound = table_sound _ _ _ _ _ _ c.table_of-table.ensures ok (g.met.F.Family.bounded c.args.family.now) few (omega (arith, c.if-table-head.false));
    }

pub returns : goal.returns
returns g c =
    let shape_is = sym c.in_ok-shape.ensures in
    let ok = shaped c.args.header.now c.in_ok-shape.shape shape_is in
    let is = c.table_of-table.ensures in
    opened (reading_in c.args.head) _ _ c.args.header.now c.in_ok-shape.shape c.requires shape_is c.args.source (Ok _)
    (table_fits_file _ _ _ _ _ _ is ok (omega (arith, c.if-table-head.false)), is, refl)
