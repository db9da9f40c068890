use Rattle.std.proofs.Common.{arith}
use Rattle.fork_quads.proofs.Windowing.{row_sum, col_sum}
use Rattle.fork_quads.proofs.windows.+first_of.Goals as goal

pub overflow_add-result : goal.overflow_add-result
overflow_add-result t c =
    let b = row_sum c.args.height c.args.cuts c.args.number c.place-k.result c.side_of_height-half.result c.picked-down.result c.first_of-row.result.0 c.if-cuts-eq0.false c.requires.deep c.requires.high c.side_of_height-half.ensures
    c.picked-down.ensures c.first_of-row.ensures.row in
    omega arith

pub overflow_add-result-2 : goal.overflow_add-result-2
overflow_add-result-2 t c =
    let b = col_sum c.args.height c.args.cuts c.args.number c.place-k.result c.side_of_height-half.result c.picked-across.result c.first_of-row.result.1 c.if-cuts-eq0.false c.requires.deep c.requires.high c.side_of_height-half.ensures
    c.picked-across.ensures c.first_of-row.ensures.col in
    omega arith
