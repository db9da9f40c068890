use Rattle.std.proofs.Common.{◌<◌, ◌+◌, length, arith}
use Rattle.bit_rows.proofs.Clearing.{columns_none, columns_more, columns_fewer}
use Rattle.bit_rows.proofs.clear.columns_of.Goals as goal

pub rows-init : goal.rows-init
rows-init c = columns_none c.args.z.now c.args.row _

pub rows-preserved : goal.rows-preserved
rows-preserved c =
    let l : c.args.row + c.rows.t < length c.args.z.now = (let t = c.rows-test.true in let r = c.requires in omega arith) in
    columns_more c.args.z.now c.args.row c.rows.t c.rows.all c.joined-all.result _ l c.joined-all.ensures c.rows.invariant

pub returns : goal.returns
returns c = columns_fewer c.args.z.now c.args.row c.rows.t c.args.count c.rows.all (let t = c.rows-test.false in omega arith) c.rows.invariant
