use Rattle.std.proofs.Common.{arith}
use Rattle.rel_listing.proofs.RowSteps.{rows_none, rows_more, rows_all}
use Rattle.rel_listing.proofs.rows.list_rows.Goals as goal

pub rows-init : goal.rows-init
rows-init c = rows_none c.args.side c.args.row c.args.words.now c.args.pairs.now.items

pub rows-preserved : goal.rows-preserved
rows-preserved c = rows_more c.args.side c.args.row c.rows.i c.args.words.now c.rows.invariant c.in_ok-list_row.ensures

pub returns : goal.returns
returns c = rows_all c.args.side c.args.row c.rows.i c.args.words.now (omega (arith, c.rows-test.false)) c.rows.invariant
