-- The word of the leaf has the cells of the submatrix.
use Rattle.std.proofs.Common.{◌≡◌, ◌^◌, ◌∙◌, true, ap, subst, arith}
use Rattle.std.specs.Prelude.{IfOk}
use Rattle.rel_model.specs.Cells.{Cells}
use Rattle.rel_model.specs.Worker.{GivesQuad}
use Rattle.k2_file.specs.Told.{bits_in}
use Rattle.k2_file.specs.Rests.{rests_at, cells_of_part}
use Rattle.k2_file.proofs.WriteHeights.{side-small}
use Rattle.k2_file.proofs.ReadLeaves.{word-cells}
use Rattle.k2_file.proofs.build.built_leaf.Goals as goal

pub with_part-word-requires-clause-side : goal.with_part-word-requires-clause-side
with_part-word-requires-clause-side g c =
    let s = side-small c.bottom.result (omega (arith, c.bottom.ensures, g.met.E.Quads.least_limit)) in omega (arith, s, c.small_side-side.ensures)

pub with_part-word-requires-clause-row : goal.with_part-word-requires-clause-row
with_part-word-requires-clause-row g c = let s = side-small c.args.height c.requires.low in omega (arith, s)

pub with_part-word-requires-clause-col : goal.with_part-word-requires-clause-col
with_part-word-requires-clause-col g c = let s = side-small c.args.height c.requires.low in omega (arith, s)

pub returns-clause-value : goal.returns-clause-value
returns-clause-value g c =
    let rests = rests_at (bits_in c.args.parts.now.tree) (bits_in c.args.parts.now.cells) c.args.places.now in
    let least = g.E.Core.least in
    let side : c.small_side-side.result ≡ 2 ^ least = c.small_side-side.ensures ∙ ap (λ n. 2 ^ n) c.bottom.ensures in
    subst (λ (f : Cells). IfOk c.block.result (GivesQuad (g.E.Core.worker c.block.new.self) least f))
    (word-cells (2 ^ least) c.small_side-side.result c.with_part-word.result (cells_of_part true rests) side c.with_part-word.ensures.cells)
    c.block.ensures.value
