-- The word of the leaf has the cells of the number.
use Rattle.std.proofs.Common.{◌≡◌, ◌^◌, ◌∙◌, ap, subst, arith}
use Rattle.rel_model.specs.Cells.{Cells}
use Rattle.rel_model.specs.Worker.{GivesQuad}
use Rattle.run_model.specs.SharedFiles.{cells_told}
use Rattle.k2_file.proofs.WriteHeights.{side-small}
use Rattle.k2_parts.specs.Told.{quadrants_told}
use Rattle.k2_read.proofs.Leaves.{leaf-cells}
use Rattle.k2_read.proofs.leaf.built_leaf.Goals as goal

pub with_part-word-requires-clause-side : goal.with_part-word-requires-clause-side
with_part-word-requires-clause-side g c =
    let s = side-small c.bottom.result (omega (arith, c.bottom.ensures, g.met.E.Quads.least_limit)) in omega (arith, s, c.small_side-side.ensures)

pub with_part-word-requires-clause-row : goal.with_part-word-requires-clause-row
with_part-word-requires-clause-row g c = let s = side-small c.args.height c.requires.low in omega (arith, s)

pub with_part-word-requires-clause-col : goal.with_part-word-requires-clause-col
with_part-word-requires-clause-col g c = let s = side-small c.args.height c.requires.low in omega (arith, s)

pub returns : goal.returns
returns g c =
    let quads = quadrants_told c.args.quads.now in
    let least = g.E.Core.least in
    let w = g.E.Core.worker c.block.new.self in
    let side : c.small_side-side.result ≡ 2 ^ least = c.small_side-side.ensures ∙ ap (λ n. 2 ^ n) c.bottom.ensures in
    let e = c.in_ok-leaf.ensures in
    record {
      value = subst (λ (f : Cells). GivesQuad w least f c.in_ok-leaf.leaf)
          (leaf-cells (2 ^ least) c.small_side-side.result c.with_part-word.result (cells_told quads c.args.height c.args.number) side c.requires.inside c.with_part-word.ensures.cells)
          e.value;
      keeps = e.keeps;
      room = e.room;
      cause = e.cause;
    }
