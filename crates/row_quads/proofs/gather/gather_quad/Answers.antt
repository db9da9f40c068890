use Rattle.std.proofs.Common.{◌≤◌, ◌-◌, refl, arith}
use Rattle.rel_model.specs.Trees.{bottom_height}
use Rattle.rel_model.proofs.QuadLaws.{reads_itself}
use Rattle.bit_rows.specs.Rows.{rows_cells}
use Rattle.quad_nodes.proofs.Making.{made_as, made_is}
use Rattle.tree_blocks.specs.Order.{blocks_count}
use Rattle.tree_blocks.proofs.Counting.{count_most}
use Rattle.row_quads.proofs.Placing.{side_of_by_8, clear_value}
use Rattle.row_quads.proofs.Cutting.{height_of_side}
use Rattle.row_quads.proofs.gather.gather_quad.Goals as goal

-- ---- a square with no cell
pub is_clear-requires-clause-row_in : goal.is_clear-requires-clause-row_in
is_clear-requires-clause-row_in c = let h = c.side_of_height-side.ensures in let r = c.requires.row_in in omega arith

pub is_clear-requires-clause-col_in : goal.is_clear-requires-clause-col_in
is_clear-requires-clause-col_in c = let h = c.side_of_height-side.ensures in let r = c.requires.col_in in omega arith

pub is_clear-requires-clause-side_on : goal.is_clear-requires-clause-side_on
is_clear-requires-clause-side_on c = let h = c.side_of_height-side.ensures in let s = side_of_by_8 c.args.height in omega arith

pub returns-then-is_clear : goal.returns-then-is_clear
returns-then-is_clear c =
    let i = c.bottom.ensures.work in
    made_is (reads_itself c.args.nodes.now i)
    (clear_value c.args.nodes.now c.args.height c.args.row c.args.col c.side_of_height-side.result (rows_cells c.args.z.now) c.empty.result i c.requires.low c.requires.high c.side_of_height-side.ensures (c.is_clear.ensures c.if-is_clear.true) c.empty.ensures)

-- ---- the blocks of a square
pub cut_square-requires-clause-room : goal.cut_square-requires-clause-room
cut_square-requires-clause-room c =
    let high : c.args.height ≤ 8 = height_of_side c.args.height (let r = c.requires.row_in in omega arith) in
    let x = count_most c.args.height (blocks_count (c.args.height - bottom_height)) high refl in
    omega (arith, x)

pub gather_blocks-requires-clause-high : goal.gather_blocks-requires-clause-high
gather_blocks-requires-clause-high c = height_of_side c.args.height (let r = c.requires.row_in in omega arith)

pub gather_blocks-requires-clause-blocks : goal.gather_blocks-requires-clause-blocks
gather_blocks-requires-clause-blocks c =
    let high : c.args.height ≤ 8 = height_of_side c.args.height (let r = c.requires.row_in in omega arith) in
    let x = count_most c.args.height (blocks_count (c.args.height - bottom_height)) high refl in
    let l = c.cut_square.ensures.len in
    omega (arith, x, l)

pub returns : goal.returns
returns c =
    let e = c.gather_blocks.ensures in
    made_as refl c.cut_square.ensures.cells (record { value = e.value; stood = e.stood; keeps = e.keeps; counts = e.counts })
