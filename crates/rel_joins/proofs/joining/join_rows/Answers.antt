use Rattle.std.proofs.Common.{get_or, arith}
use Rattle.rel_listing.proofs.Strips.{drop_next}
use Rattle.rel_joins.proofs.Joins.{joining_none, joining_more}
use Rattle.rel_joins.proofs.joining.join_rows.Goals as goal

pub pairs-init : goal.pairs-init
pairs-init c = joining_none c.args.middle c.args.left.now c.args.right.now c.new-joined.result.items c.requires.ends c.new-joined.ensures.items

pub pairs-preserved : goal.pairs-preserved
pairs-preserved c =
    let left = c.args.left.now in
    let few = c.pairs.invariant.few in
    joining_more (get_or left c.pairs.i-index (0, 0)) c.row_of-row.result.now c.pairs.invariant (drop_next left c.pairs.i-index (0, 0) c.pairs-test.true) c.row_of-row.ensures.among c.in-Ok.ensures
    (omega (arith, few, c.if-row-len.false, c.len.ensures))
