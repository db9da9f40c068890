use Rattle.std.proofs.Common.{arith, sym, ◌∙◌}
use Rattle.rel_model.specs.Quads.{ReadsQuads}
use Rattle.rel_compose.specs.Products.{composition, summed}
use Rattle.rel_compose.proofs.Reading.{two_reads, three_reads, stays}
use Rattle.rel_compose.proofs.Summing.{over_8}
use Rattle.rel_compose.proofs.FourParts.{Four, AllMade, first_fails, second_fails, third_fails, fourth_fails, all_made, whole_made}
use Rattle.rel_compose.proofs.Joining.{gathered, four_gathered, four_sum_parts, quarters_small}
use Rattle.rel_compose.proofs.sums.four_sums_at.Goals.{After-add_to_squares, In_ok-se}
use Rattle.rel_compose.proofs.sums.four_sums_at.Goals as goal

-- ---- the addend and the product
read_first : (c : After-add_to_squares) → ReadsQuads c.args.nodes.now c.add_to_squares.new.nodes
read_first c = three_reads c.quarters-four.ensures.reads c.spill_four.ensures.reads c.add_to_squares.ensures.reads

four : (c : After-add_to_squares) → Four c.add_to_squares.new.nodes (gathered (summed c.args.nodes.now c.args.x 9 c.args.row c.args.col (composition c.args.nodes.now c.args.a c.args.b)) c.add_to_squares.new.z)
four c =
    four_gathered c.add_to_squares.new.z
    (four_sum_parts c.args.row c.args.col (record { nw = c.no_rows.result; ne = c.no_rows-2.result; sw = c.no_rows-3.result; se = c.no_rows-4.result }) c.spill_four.new.z c.add_to_squares.new.z c.requires.nine
    (record { stands = c.requires.x_stands; over = (let e = c.requires.nine in over_8 c.args.x.height (omega arith)); four = c.quarters-four.ensures.quarters; reads = c.quarters-four.ensures.reads }) c.spill_four.ensures.reads c.add_to_squares.ensures.reads
    c.requires.a_stands c.requires.b_stands c.no_rows.ensures.cells c.no_rows-2.ensures.cells c.no_rows-3.ensures.cells c.no_rows-4.ensures.cells c.spill_four.ensures.cells c.add_to_squares.ensures.cells)

pub returns-in_err-nw : goal.returns-in_err-nw
returns-in_err-nw c =
    let at = (goal.at.returns-in_err-nw c).After-add_to_squares in
    first_fails (read_first at) (four at) c.from_residual.result c.from_residual.ensures.0 c.in_err-nw.ensures

pub returns-in_err-ne : goal.returns-in_err-ne
returns-in_err-ne c =
    let at = (goal.at.returns-in_err-ne c).After-add_to_squares in
    second_fails (read_first at) (four at) c.from_residual-in_err-ne.result c.from_residual-in_err-ne.ensures.0 c.in_ok-nw.ensures c.in_err-ne.ensures

pub returns-in_err-sw : goal.returns-in_err-sw
returns-in_err-sw c =
    let at = (goal.at.returns-in_err-sw c).After-add_to_squares in
    third_fails (read_first at) (four at) c.from_residual-in_err-sw.result c.from_residual-in_err-sw.ensures.0 c.in_ok-nw.ensures c.in_ok-ne.ensures c.in_err-sw.ensures

pub returns-in_err-se : goal.returns-in_err-se
returns-in_err-se c =
    let at = (goal.at.returns-in_err-se c).After-add_to_squares in
    fourth_fails (read_first at) (four at) c.from_residual-in_err-se.result c.from_residual-in_err-se.ensures.0 c.in_ok-nw.ensures c.in_ok-ne.ensures c.in_ok-sw.ensures c.in_err-se.ensures

-- ---- the corner
made : (c : In_ok-se) → Four c.add_to_squares.new.nodes (gathered (summed c.args.nodes.now c.args.x 9 c.args.row c.args.col (composition c.args.nodes.now c.args.a c.args.b)) c.add_to_squares.new.z)
    → AllMade (gathered (summed c.args.nodes.now c.args.x 9 c.args.row c.args.col (composition c.args.nodes.now c.args.a c.args.b)) c.add_to_squares.new.z) c.in_ok-nw.nw c.in_ok-ne.ne c.in_ok-sw.sw c.in_ok-se.se
    c.add_to_squares.new.nodes c.gather_quad-4.new.nodes
made c q = all_made q c.in_ok-nw.ensures c.in_ok-ne.ensures c.in_ok-sw.ensures c.in_ok-se.ensures

pub corner-requires : goal.corner-requires
corner-requires c =
    let at = goal.at.corner-requires c in
    let m = (made at.In_ok-se (four at.After-add_to_squares)).are in
    let x = m.1.1.1.0.same_height in
    let h = c.requires.x_stands.high in
    let e = c.requires.nine in
    record {
      nw_stands = m.1.1.1.0.stands;
      ne_stands = m.1.1.0.stands;
      sw_stands = m.1.0.stands;
      se_stands = m.0.stands;
      ne_height = m.1.1.0.same_height ∙ sym x;
      sw_height = m.1.0.same_height ∙ sym x;
      se_height = m.0.same_height ∙ sym x;
      below = omega arith;
    }

pub returns : goal.returns
returns c =
    let at = goal.at.returns c in
    let q = four at.After-add_to_squares in
    let e = c.corner.ensures in
    whole_made (read_first at.After-add_to_squares) q (made at.In_ok-se q) (record { value = e.value; stood = e.stood; keeps = e.keeps; counts = e.counts })

-- ---- what the calls ask for
pub quarters-four-requires-clause-over : goal.quarters-four-requires-clause-over
quarters-four-requires-clause-over c = let e = c.requires.nine in over_8 c.args.x.height (omega arith)

pub spill_four-requires-clause-stand : goal.spill_four-requires-clause-stand
spill_four-requires-clause-stand c = quarters_small c.args.nodes.now c.quarters-four.new.self c.args.x c.quarters-four.result c.requires.nine c.quarters-four.ensures.quarters

pub add_to_squares-requires-clause-a_stands : goal.add_to_squares-requires-clause-a_stands
add_to_squares-requires-clause-a_stands c = stays (two_reads c.quarters-four.ensures.reads c.spill_four.ensures.reads) c.requires.a_stands

pub add_to_squares-requires-clause-b_stands : goal.add_to_squares-requires-clause-b_stands
add_to_squares-requires-clause-b_stands c = stays (two_reads c.quarters-four.ensures.reads c.spill_four.ensures.reads) c.requires.b_stands
