use Rattle.std.proofs.Common.{◌≤◌, sym, subst, ap, arith}
use Rattle.bit_rows.specs.Rows.{rows_cells}
use Rattle.rel_model.specs.Equations.{side_of}
use Rattle.rel_model.specs.Quads.{quad_cells}
use Rattle.rel_model.proofs.QuadLaws.{keeps_on, keeps_itself, quad_stays}
use Rattle.row_quads.proofs.Reading.{reads_four}
use Rattle.row_quads.proofs.Adding.{none_times, quads_added}
use Rattle.row_quads.proofs.squares.add_four_products.Goals as goal

-- nothing to add
pub returns-then-are_empty-clause-cells : goal.returns-then-are_empty-clause-cells
returns-then-are_empty-clause-cells c =
    let s0 = c.args.nodes.now in
    let i = c.bottom.ensures.work in
    let t = c.requires.stand in
    let x = c.are_empty.ensures.first c.if-are_empty.true in
    let y = c.are_empty.ensures.second c.if-are_empty.true in
    let z = c.args.z.now in
    record {
      nw = none_times s0 c.args.column.0 (side_of c.args.column.0.height) (quad_cells s0 c.args.row.0) (rows_cells z.nw) i t.upper x;
      ne = none_times s0 c.args.column.0 (side_of c.args.column.0.height) (quad_cells s0 c.args.row.1) (rows_cells z.ne) i t.upper x;
      sw = none_times s0 c.args.column.1 (side_of c.args.column.1.height) (quad_cells s0 c.args.row.0) (rows_cells z.sw) i t.lower y;
      se = none_times s0 c.args.column.1 (side_of c.args.column.1.height) (quad_cells s0 c.args.row.1) (rows_cells z.se) i t.lower y;
    }

-- the second quad is spilled
pub spill_quad-requires-2-clause-stands : goal.spill_quad-requires-2-clause-stands
spill_quad-requires-2-clause-stands c = quad_stays 0 c.args.nodes.now c.spill_quad.new.nodes c.args.column.1 c.spill_quad.ensures.reads.keeps c.requires.stand.lower

pub returns-clause-cells : goal.returns-clause-cells
returns-clause-cells c =
    let s0 = c.args.nodes.now in
    let s1 = c.spill_quad.new.nodes in
    let s2 = c.spill_quad-2.new.nodes in
    let s3 = c.add_times.new.nodes in
    let k1 = c.spill_quad.ensures.reads.keeps in
    let k2 = keeps_on 0 0 s0 s1 s2 k1 c.spill_quad-2.ensures.reads.keeps in
    let k3 = keeps_on 0 0 s0 s2 s3 k2 c.add_times.ensures.reads.keeps in
    let k0 = keeps_itself s0 0 k1.before in
    let t = c.requires.stand in
    let x = rows_cells c.spill_quad.new.z in
    let y = rows_cells c.spill_quad-2.new.z in
    let m = c.requires.small in
    let l : side_of c.args.column.1.height ≤ 256 = subst (λ h. side_of h ≤ 256) (sym t.lower_height) m in
    record {
      nw = quads_added s0 s0 s2 c.args.column.0 c.args.row.0 _ (rows_cells c.no_rows-upper.result) x (rows_cells c.args.z.now.nw) (rows_cells c.add_times.new.north) m c.spill_quad.ensures.len t.upper t.west k0 k2 c.no_rows-upper.ensures.cells c.spill_quad.ensures.cells c.add_times.ensures.above;
      ne = quads_added s0 s0 s3 c.args.column.0 c.args.row.1 _ (rows_cells c.no_rows-upper.result) x (rows_cells c.args.z.now.ne) (rows_cells c.add_times-2.new.north) m c.spill_quad.ensures.len t.upper t.east k0 k3 c.no_rows-upper.ensures.cells c.spill_quad.ensures.cells c.add_times-2.ensures.above;
      sw = quads_added s0 s1 s2 c.args.column.1 c.args.row.0 _ (rows_cells c.no_rows-lower.result) y (rows_cells c.args.z.now.sw) (rows_cells c.add_times.new.south) l c.spill_quad-2.ensures.len t.lower t.west k1 k2 c.no_rows-lower.ensures.cells c.spill_quad-2.ensures.cells c.add_times.ensures.below;
      se = quads_added s0 s1 s3 c.args.column.1 c.args.row.1 _ (rows_cells c.no_rows-lower.result) y (rows_cells c.args.z.now.se) (rows_cells c.add_times-2.new.south) l c.spill_quad-2.ensures.len t.lower t.east k1 k3 c.no_rows-lower.ensures.cells c.spill_quad-2.ensures.cells c.add_times-2.ensures.below;
    }

pub add_times-requires-clause-stands : goal.add_times-requires-clause-stands
add_times-requires-clause-stands c =
    let s0 = c.args.nodes.now in
    let k2 = keeps_on 0 0 s0 c.spill_quad.new.nodes c.spill_quad-2.new.nodes c.spill_quad.ensures.reads.keeps c.spill_quad-2.ensures.reads.keeps in
    quad_stays 0 s0 c.spill_quad-2.new.nodes c.args.row.0 k2 c.requires.stand.west

pub add_times-requires-2-clause-stands : goal.add_times-requires-2-clause-stands
add_times-requires-2-clause-stands c =
    let s0 = c.args.nodes.now in
    let k2 = keeps_on 0 0 s0 c.spill_quad.new.nodes c.spill_quad-2.new.nodes c.spill_quad.ensures.reads.keeps c.spill_quad-2.ensures.reads.keeps in
    let k3 = keeps_on 0 0 s0 c.spill_quad-2.new.nodes c.add_times.new.nodes k2 c.add_times.ensures.reads.keeps in
    quad_stays 0 s0 c.add_times.new.nodes c.args.row.1 k3 c.requires.stand.east

pub returns-clause-reads : goal.returns-clause-reads
returns-clause-reads c = reads_four c.spill_quad.ensures.reads c.spill_quad-2.ensures.reads c.add_times.ensures.reads c.add_times-2.ensures.reads

pub add_times-requires-clause-upper_len : goal.add_times-requires-clause-upper_len
add_times-requires-clause-upper_len c = c.spill_quad.ensures.len

pub add_times-requires-clause-lower_len : goal.add_times-requires-clause-lower_len
add_times-requires-clause-lower_len c = c.spill_quad-2.ensures.len

pub add_times-requires-2-clause-upper_len : goal.add_times-requires-2-clause-upper_len
add_times-requires-2-clause-upper_len c = c.spill_quad.ensures.len

pub add_times-requires-2-clause-lower_len : goal.add_times-requires-2-clause-lower_len
add_times-requires-2-clause-lower_len c = c.spill_quad-2.ensures.len

pub spill_quad-requires-2-clause-row_in : goal.spill_quad-requires-2-clause-row_in
spill_quad-requires-2-clause-row_in c = let e = ap side_of c.requires.stand.lower_height in omega (arith, e, c.requires.small)

pub spill_quad-requires-2-clause-col_in : goal.spill_quad-requires-2-clause-col_in
spill_quad-requires-2-clause-col_in c = let e = ap side_of c.requires.stand.lower_height in omega (arith, e, c.requires.small)
