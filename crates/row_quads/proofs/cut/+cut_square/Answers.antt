use Rattle.std.proofs.Common.{◌≡◌, ◌<◌, ◌+◌, ◌-◌, length, ◌∙◌, arith}
use Rattle.std.proofs.lemmas.Grind.{common_steps}
use Rattle.bit_rows.specs.Rows.{rows_cells}
use Rattle.tree_blocks.proofs.Counting.{room_below}
use Rattle.row_quads.proofs.Placing.{four_fit, side_of-bottom}
use Rattle.row_quads.proofs.Cutting.{at_bottom, over_bottom, place_in, places_in, cut_value, cut_rest, block_value, block_rest}
use Rattle.row_quads.proofs.cut.+cut_square.Goals as goal

-- ---- what calls and places ask
pub block_at-requires-clause-row_in : goal.block_at-requires-clause-row_in
block_at-requires-clause-row_in t c =
    let bottom = at_bottom c.args.height c.requires.low c.if-height-le3.true in
    let s = side_of-bottom c.args.height bottom in
    let r = c.requires.row_in in
    omega arith

pub block_at-requires-clause-col_in : goal.block_at-requires-clause-col_in
block_at-requires-clause-col_in t c =
    let bottom = at_bottom c.args.height c.requires.low c.if-height-le3.true in
    let s = side_of-bottom c.args.height bottom in
    let r = c.requires.col_in in
    omega arith

pub offset_bounds-blocks-k : goal.offset_bounds-blocks-k
offset_bounds-blocks-k t c =
    let bottom = at_bottom c.args.height c.requires.low c.if-height-le3.true in
    let x = place_in c.args.height c.args.k (length c.args.blocks.now) bottom c.requires.room in
    grind (arith, common_steps)

pub bounds-blocks-k : goal.bounds-blocks-k
bounds-blocks-k t c =
    let bottom = at_bottom c.args.height c.requires.low c.if-height-le3.true in
    let x = place_in c.args.height c.args.k (length c.args.blocks.now) bottom c.requires.room in
    omega arith

pub side_of_height-half-requires-clause-low : goal.side_of_height-half-requires-clause-low
side_of_height-half-requires-clause-low t c =
    let over = over_bottom c.args.height c.if-height-le3.false in
    omega arith

pub overflow_mul-k : goal.overflow_mul-k
overflow_mul-k t c =
    let x = places_in c.args.height c.args.k (length c.args.blocks.now) (over_bottom c.args.height c.if-height-le3.false) c.requires.room in
    grind (arith, common_steps)

pub overflow_mul-k-2 : goal.overflow_mul-k-2
overflow_mul-k-2 t c =
    let x = places_in c.args.height c.args.k (length c.args.blocks.now) (over_bottom c.args.height c.if-height-le3.false) c.requires.room in
    grind (arith, common_steps)

pub overflow_add-k : goal.overflow_add-k
overflow_add-k t c =
    let x = places_in c.args.height c.args.k (length c.args.blocks.now) (over_bottom c.args.height c.if-height-le3.false) c.requires.room in
    grind (arith, common_steps)

pub overflow_mul-k-3 : goal.overflow_mul-k-3
overflow_mul-k-3 t c =
    let x = places_in c.args.height c.args.k (length c.args.blocks.now) (over_bottom c.args.height c.if-height-le3.false) c.requires.room in
    grind (arith, common_steps)

pub overflow_add-k-2 : goal.overflow_add-k-2
overflow_add-k-2 t c =
    let x = places_in c.args.height c.args.k (length c.args.blocks.now) (over_bottom c.args.height c.if-height-le3.false) c.requires.room in
    grind (arith, common_steps)

pub overflow_mul-k-4 : goal.overflow_mul-k-4
overflow_mul-k-4 t c =
    let x = places_in c.args.height c.args.k (length c.args.blocks.now) (over_bottom c.args.height c.if-height-le3.false) c.requires.room in
    grind (arith, common_steps)

pub overflow_add-k-3 : goal.overflow_add-k-3
overflow_add-k-3 t c =
    let x = places_in c.args.height c.args.k (length c.args.blocks.now) (over_bottom c.args.height c.if-height-le3.false) c.requires.room in
    grind (arith, common_steps)

-- ---- the four squares
pub cut_square-requires : goal.cut_square-requires
cut_square-requires t c =
    let over = over_bottom c.args.height c.if-height-le3.false in
    let l = c.requires.high in
    let falls : c.args.height - 1 < t = omega arith in
    let one : c.args.height - 1 + 1 ≡ c.args.height = omega arith in
    let f = (four_fit _ _ _ _ _ c.side_of_height-half.result c.args.row c.args.col over one one one one c.side_of_height-half.ensures c.requires.row_in c.requires.col_in c.requires.col_on).nw in
    let x = room_below (c.args.k + 1) c.args.height (length c.args.blocks.now) over c.requires.room in
    (falls, (c.requires.z_len, (omega arith, (omega arith, (f.row_in, (f.col_in, (f.col_on, omega (arith, x))))))))

pub cut_square-requires-2 : goal.cut_square-requires-2
cut_square-requires-2 t c =
    let over = over_bottom c.args.height c.if-height-le3.false in
    let l = c.requires.high in
    let falls : c.args.height - 1 < t = omega arith in
    let one : c.args.height - 1 + 1 ≡ c.args.height = omega arith in
    let f = (four_fit _ _ _ _ _ c.side_of_height-half.result c.args.row c.args.col over one one one one c.side_of_height-half.ensures c.requires.row_in c.requires.col_in c.requires.col_on).ne in
    let x = room_below (c.args.k + 1) c.args.height (length c.args.blocks.now) over c.requires.room in
    let y = c.cut_square.ensures.len in
    (falls, (c.requires.z_len, (omega arith, (omega arith, (f.row_in, (f.col_in, (f.col_on, omega (arith, x, y))))))))

pub cut_square-requires-3 : goal.cut_square-requires-3
cut_square-requires-3 t c =
    let over = over_bottom c.args.height c.if-height-le3.false in
    let l = c.requires.high in
    let falls : c.args.height - 1 < t = omega arith in
    let one : c.args.height - 1 + 1 ≡ c.args.height = omega arith in
    let f = (four_fit _ _ _ _ _ c.side_of_height-half.result c.args.row c.args.col over one one one one c.side_of_height-half.ensures c.requires.row_in c.requires.col_in c.requires.col_on).sw in
    let x = room_below (c.args.k + 1) c.args.height (length c.args.blocks.now) over c.requires.room in
    let y = c.cut_square-2.ensures.len ∙ c.cut_square.ensures.len in
    (falls, (c.requires.z_len, (omega arith, (omega arith, (f.row_in, (f.col_in, (f.col_on, omega (arith, x, y))))))))

pub cut_square-requires-4 : goal.cut_square-requires-4
cut_square-requires-4 t c =
    let over = over_bottom c.args.height c.if-height-le3.false in
    let l = c.requires.high in
    let falls : c.args.height - 1 < t = omega arith in
    let one : c.args.height - 1 + 1 ≡ c.args.height = omega arith in
    let f = (four_fit _ _ _ _ _ c.side_of_height-half.result c.args.row c.args.col over one one one one c.side_of_height-half.ensures c.requires.row_in c.requires.col_in c.requires.col_on).se in
    let x = room_below (c.args.k + 1) c.args.height (length c.args.blocks.now) over c.requires.room in
    let y = c.cut_square-3.ensures.len ∙ c.cut_square-2.ensures.len ∙ c.cut_square.ensures.len in
    (falls, (c.requires.z_len, (omega arith, (omega arith, (f.row_in, (f.col_in, (f.col_on, omega (arith, x, y))))))))

-- ---- what is written
pub returns-then-height-le3-clause-cells : goal.returns-then-height-le3-clause-cells
returns-then-height-le3-clause-cells t c =
    let bottom = at_bottom c.args.height c.requires.low c.if-height-le3.true in
    block_value c.args.height c.args.k c.args.row c.args.col c.block_at.result (rows_cells c.args.z.now) c.args.blocks.now bottom (place_in c.args.height c.args.k (length c.args.blocks.now) bottom c.requires.room) c.block_at.ensures

pub returns-then-height-le3-clause-rest : goal.returns-then-height-le3-clause-rest
returns-then-height-le3-clause-rest t c =
    let bottom = at_bottom c.args.height c.requires.low c.if-height-le3.true in
    block_rest c.args.height c.args.k c.block_at.result c.args.blocks.now bottom

pub returns-clause-cells : goal.returns-clause-cells
returns-clause-cells t c =
    let over = over_bottom c.args.height c.if-height-le3.false in
    cut_value c.args.height c.args.k c.args.row c.args.col c.side_of_height-half.result (rows_cells c.args.z.now) c.cut_square.new.blocks c.cut_square-2.new.blocks c.cut_square-3.new.blocks c.cut_square-4.new.blocks over c.side_of_height-half.ensures
    c.cut_square.ensures.cells c.cut_square-2.ensures.cells c.cut_square-3.ensures.cells c.cut_square-4.ensures.cells c.cut_square-2.ensures.rest c.cut_square-3.ensures.rest c.cut_square-4.ensures.rest

pub returns-clause-rest : goal.returns-clause-rest
returns-clause-rest t c =
    let over = over_bottom c.args.height c.if-height-le3.false in
    cut_rest c.args.height c.args.k c.args.blocks.now c.cut_square.new.blocks c.cut_square-2.new.blocks c.cut_square-3.new.blocks c.cut_square-4.new.blocks over
    c.cut_square.ensures.rest c.cut_square-2.ensures.rest c.cut_square-3.ensures.rest c.cut_square-4.ensures.rest
