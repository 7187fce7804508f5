use Rattle.std.proofs.Common.{◌≡◌, ℕ, ◌<◌, suc, length, ap, ◌∙◌, add-one, arith}
use Rattle.formats.specs.Extents.{extent_of}
use Rattle.dds.specs.declared.sides.Sides.{Sides}
use Rattle.dds.specs.Levels.{side_at}
use Rattle.dds.specs.Plans.{size_at, begin_at}
use Rattle.dds.specs.LevelEnds.{level_end}
use Rattle.dds.specs.Tables.{InRange, level_at, level_with, blank}
use Rattle.dds.proofs.Begins.{sides_at, level_is, begin_few, sides_step}
use Rattle.dds.proofs.Written.{one_more}
use Rattle.dds.proofs.filling.fill_levels.Goals as goal

-- the level that a turn writes is the level by the rules
wrote : (row_bytes rows : ℕ → ℕ → ℕ) (first sides : Sides) (start k : ℕ) → InRange first → sides ≡ sides_at first k
    → start ≡ begin_at (side_at first.depth) (size_at row_bytes rows first.width first.height) k
    → level_with (extent_of row_bytes rows sides.width sides.height) sides start ≡ level_at row_bytes rows first k
wrote row_bytes rows first sides start k r s b =
    ap (λ (x : Sides). level_with (extent_of row_bytes rows x.width x.height) x start) s
    ∙ ap (λ n. level_with (extent_of row_bytes rows (side_at first.width k) (side_at first.height k)) (sides_at first k) n) b
    ∙ level_is row_bytes rows first r k

pub end-begin-requires : goal.end-begin-requires
end-begin-requires g c =
    let e = c.level_of.ensures
    ∙ wrote (g.F.Family.row_bytes c.args.family.now) (g.F.Family.rows c.args.family.now) c.args.first c.loop-level.sides c.loop-level.begin c.loop-level.level-index
    c.requires.sides c.loop-level.invariant.0 c.loop-level.invariant.1 in
    let f = begin_few (g.F.Family.row_bytes c.args.family.now) (g.F.Family.rows c.args.family.now) (g.met.F.Family.bounded c.args.family.now) c.args.first c.requires.sides (suc c.loop-level.level-index) in
    let l = ap level_end e in
    let few : c.loop-level.level-index < 15 = omega (arith, c.loop-level-test.true, c.requires.few) in
    omega arith

pub loop-level-preserved : goal.loop-level-preserved
loop-level-preserved g c =
    let e = c.level_of.ensures
    ∙ wrote (g.F.Family.row_bytes c.args.family.now) (g.F.Family.rows c.args.family.now) c.args.first c.loop-level.sides c.loop-level.begin c.loop-level.level-index
    c.requires.sides c.loop-level.invariant.0 c.loop-level.invariant.1 in (
      c.halved-sides.ensures ∙ sides_step c.args.first c.loop-level.sides c.loop-level.level-index c.loop-level.invariant.0,
      rw add-one (c.end-begin.ensures ∙ ap level_end e),
      one_more (level_at (g.F.Family.row_bytes c.args.family.now) (g.F.Family.rows c.args.family.now) c.args.first) blank
          c.level_of.result c.loop-level.level-items c.loop-level.level-index (omega (arith, c.loop-level-test.true, c.loop-level.auto.level-items)) e c.loop-level.invariant.2,
    )

pub returns-clause-chain : goal.returns-clause-chain
returns-clause-chain g c =
    let all : c.loop-level.level-index ≡ length c.loop-level.level-items =
    omega (arith, c.loop-level-test.false, c.loop-level.auto.level-items, c.loop-level.auto.level-index-end) in
    record {
      level = λ k h. c.loop-level.invariant.2 k (omega arith);
      bytes =
          c.loop-level.invariant.1
          ∙ ap (begin_at (side_at c.args.first.depth) (size_at (g.F.Family.row_bytes c.args.family.now) (g.F.Family.rows c.args.family.now) c.args.first.width c.args.first.height)) all;
    }
