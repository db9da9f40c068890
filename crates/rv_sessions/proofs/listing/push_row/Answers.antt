use Rattle.std.proofs.Common.{arith}
use Rattle.rv_sessions.proofs.ListedPairs.{columns_none, columns_more}
use Rattle.rv_sessions.proofs.listing.push_row.Goals as goal

pub columns-init : goal.columns-init
columns-init c = record {
  within = c.requires;
  pairs = columns_none c.args.shape.rows c.args.shape.cols c.args.row.now.row c.args.pairs.now.items;
  count = omega arith;
}

pub columns-preserved : goal.columns-preserved
columns-preserved c = record {
  within = c.in_ok-push_listed.ensures.within;
  pairs = columns_more c.args.shape.rows c.args.shape.cols c.args.row.now.row c.columns.column-index c.as_slice-column-items.result.now _ c.args.pairs.now.items c.columns.pairs.items
      c.push_listed.new.pairs.items c.columns-test.true c.columns.invariant.pairs c.in_ok-push_listed.ensures.pair;
  count = omega (arith, c.columns.invariant.count, c.in_ok-push_listed.ensures.count);
}
