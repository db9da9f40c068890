use Rattle.std.proofs.Common.{sym, ap, subst, [], length, arith}
use Rattle.lang_model.specs.State.{lists}
use Rattle.rv_sessions.specs.Listed.{IsListed}
use Rattle.rel_model.specs.Listed.{AreWithin}
use Rattle.rv_sessions.proofs.ListedPairs.{rows_none, rows_more, count_more}
use Rattle.rv_sessions.proofs.listing.listed_pairs.Goals as goal

pub rows-init : goal.rows-init
rows-init c = record {
  within = subst (AreWithin c.args.shape.rows c.args.shape.cols) (sym c.new-pairs.ensures.items) tt;
  pairs = subst (λ ps. IsListed c.args.shape.rows c.args.shape.cols ps (lists [])) (sym c.new-pairs.ensures.items) (rows_none c.args.shape.rows c.args.shape.cols);
  count = omega (arith, ap length c.new-pairs.ensures.items);
}

pub rows-preserved : goal.rows-preserved
rows-preserved c = record {
  within = c.in_ok-push_row.ensures.within;
  pairs = rows_more c.args.shape.rows c.args.shape.cols c.rows.row-index c.args.list.now c.row-item.result c.rows.pairs.items c.push_row.new.pairs.items c.rows-test.true c.row-item.is c.rows.invariant.pairs c.in_ok-push_row.ensures.pairs;
  count = omega (arith, c.rows.invariant.count, c.in_ok-push_row.ensures.count, count_more c.rows.row-index c.args.list.now c.row-item.result c.rows-test.true c.row-item.is);
}
