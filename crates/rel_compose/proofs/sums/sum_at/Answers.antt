use Rattle.std.proofs.Common.{arith, refl}
use Rattle.rel_model.specs.Quads.{quad_cells}
use Rattle.rel_model.proofs.QuadLaws.{quad_stays, reads_on}
use Rattle.bit_rows.specs.Rows.{rows_cells}
use Rattle.quad_nodes.proofs.Making.{made_as, made_after}
use Rattle.rel_compose.proofs.Summing.{product_later, side_small_8, eight_low, eight_high, eight_small}
use Rattle.rel_compose.specs.Products.{composition}
use Rattle.rel_compose.proofs.Joining.{sum_rows, eight_within}
use Rattle.rel_compose.proofs.sums.sum_at.Goals as goal

pub gather_quad-requires-clause-low : goal.gather_quad-requires-clause-low
gather_quad-requires-clause-low c = eight_low

pub gather_quad-requires-clause-high : goal.gather_quad-requires-clause-high
gather_quad-requires-clause-high c = eight_high

pub gather_quad-requires-clause-row_in : goal.gather_quad-requires-clause-row_in
gather_quad-requires-clause-row_in c = eight_small

pub gather_quad-requires-clause-col_in : goal.gather_quad-requires-clause-col_in
gather_quad-requires-clause-col_in c = eight_small

pub returns : goal.returns
returns c =
    let s0 = c.args.nodes.now in
    let s1 = c.spill_quad.new.nodes in
    let e = c.gather_quad.ensures in
    made_after (reads_on _ _ _ c.spill_quad.ensures.reads c.add_products.ensures.reads) (made_as refl
    (sum_rows c.args.row c.args.col (rows_cells c.no_rows-z.result) (rows_cells c.spill_quad.new.z) (rows_cells c.add_products.new.z) (quad_cells s0 c.args.x) (composition s0 c.args.a c.args.b) (composition s1 c.args.a c.args.b)
    (eight_within s0 c.args.x c.requires.eight) c.no_rows-z.ensures.cells c.spill_quad.ensures.cells c.add_products.ensures.cells
    (product_later 0 s0 s1 c.args.a c.args.b c.spill_quad.ensures.reads.keeps c.requires.a_stands c.requires.b_stands)) e)

-- the addend is spilled first
pub spill_quad-requires-clause-row_in : goal.spill_quad-requires-clause-row_in
spill_quad-requires-clause-row_in c = let l = side_small_8 c.args.x.height c.requires.eight in omega arith

pub spill_quad-requires-clause-col_in : goal.spill_quad-requires-clause-col_in
spill_quad-requires-clause-col_in c = let l = side_small_8 c.args.x.height c.requires.eight in omega arith

pub add_products-requires-clause-a_stands : goal.add_products-requires-clause-a_stands
add_products-requires-clause-a_stands c = quad_stays 0 c.args.nodes.now c.spill_quad.new.nodes c.args.a c.spill_quad.ensures.reads.keeps c.requires.a_stands

pub add_products-requires-clause-b_stands : goal.add_products-requires-clause-b_stands
add_products-requires-clause-b_stands c = quad_stays 0 c.args.nodes.now c.spill_quad.new.nodes c.args.b c.spill_quad.ensures.reads.keeps c.requires.b_stands
