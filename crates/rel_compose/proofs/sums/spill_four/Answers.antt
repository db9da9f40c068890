use Rattle.std.proofs.Common.{ap, arith, ◌∙◌}
use Rattle.rel_model.specs.Cells.{Cells, cells_union}
use Rattle.rel_model.proofs.QuadLaws.{quad_cells-stay}
use Rattle.bit_rows.specs.Rows.{rows_cells}
use Rattle.bit_rows.specs.Places.{placed}
use Rattle.rel_compose.proofs.Reading.{two_reads, three_reads, four_reads, stays}
use Rattle.rel_compose.proofs.Summing.{side_small_8}
use Rattle.rel_compose.proofs.sums.spill_four.Goals as goal

pub spill_quad-requires-clause-row_in : goal.spill_quad-requires-clause-row_in
spill_quad-requires-clause-row_in c = let l = side_small_8 c.args.four.nw.height c.requires.stand.nw_height in omega arith

pub spill_quad-requires-clause-col_in : goal.spill_quad-requires-clause-col_in
spill_quad-requires-clause-col_in c = let l = side_small_8 c.args.four.nw.height c.requires.stand.nw_height in omega arith

pub spill_quad-requires-2-clause-row_in : goal.spill_quad-requires-2-clause-row_in
spill_quad-requires-2-clause-row_in c = let l = side_small_8 c.args.four.ne.height c.requires.stand.ne_height in omega arith

pub spill_quad-requires-2-clause-col_in : goal.spill_quad-requires-2-clause-col_in
spill_quad-requires-2-clause-col_in c = let l = side_small_8 c.args.four.ne.height c.requires.stand.ne_height in omega arith

pub spill_quad-requires-2-clause-stands : goal.spill_quad-requires-2-clause-stands
spill_quad-requires-2-clause-stands c = stays c.spill_quad.ensures.reads c.requires.stand.ne

pub spill_quad-requires-3-clause-row_in : goal.spill_quad-requires-3-clause-row_in
spill_quad-requires-3-clause-row_in c = let l = side_small_8 c.args.four.sw.height c.requires.stand.sw_height in omega arith

pub spill_quad-requires-3-clause-col_in : goal.spill_quad-requires-3-clause-col_in
spill_quad-requires-3-clause-col_in c = let l = side_small_8 c.args.four.sw.height c.requires.stand.sw_height in omega arith

pub spill_quad-requires-3-clause-stands : goal.spill_quad-requires-3-clause-stands
spill_quad-requires-3-clause-stands c = stays (two_reads c.spill_quad.ensures.reads c.spill_quad-2.ensures.reads) c.requires.stand.sw

pub spill_quad-requires-4-clause-row_in : goal.spill_quad-requires-4-clause-row_in
spill_quad-requires-4-clause-row_in c = let l = side_small_8 c.args.four.se.height c.requires.stand.se_height in omega arith

pub spill_quad-requires-4-clause-col_in : goal.spill_quad-requires-4-clause-col_in
spill_quad-requires-4-clause-col_in c = let l = side_small_8 c.args.four.se.height c.requires.stand.se_height in omega arith

pub spill_quad-requires-4-clause-stands : goal.spill_quad-requires-4-clause-stands
spill_quad-requires-4-clause-stands c = stays (three_reads c.spill_quad.ensures.reads c.spill_quad-2.ensures.reads c.spill_quad-3.ensures.reads) c.requires.stand.se

pub returns-clause-cells : goal.returns-clause-cells
returns-clause-cells c =
    let s0 = c.args.nodes.now in
    let t = c.requires.stand in
    let k1 = c.spill_quad.ensures.reads in
    let k2 = two_reads k1 c.spill_quad-2.ensures.reads in
    let k3 = two_reads k2 c.spill_quad-3.ensures.reads in
    record {
      nw = c.spill_quad.ensures.cells;
      ne = c.spill_quad-2.ensures.cells ∙ ap (λ (g : Cells). cells_union (rows_cells c.args.z.now.ne) (placed 0 0 g)) (quad_cells-stay 0 s0 c.spill_quad.new.nodes c.args.four.ne k1.keeps t.ne);
      sw = c.spill_quad-3.ensures.cells ∙ ap (λ (g : Cells). cells_union (rows_cells c.args.z.now.sw) (placed 0 0 g)) (quad_cells-stay 0 s0 c.spill_quad-2.new.nodes c.args.four.sw k2.keeps t.sw);
      se = c.spill_quad-4.ensures.cells ∙ ap (λ (g : Cells). cells_union (rows_cells c.args.z.now.se) (placed 0 0 g)) (quad_cells-stay 0 s0 c.spill_quad-3.new.nodes c.args.four.se k3.keeps t.se);
    }

pub returns-clause-reads : goal.returns-clause-reads
returns-clause-reads c = four_reads c.spill_quad.ensures.reads c.spill_quad-2.ensures.reads c.spill_quad-3.ensures.reads c.spill_quad-4.ensures.reads
