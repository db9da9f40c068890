use Rattle.std.proofs.Common.{refl, arith}
use Rattle.rel_joins.proofs.Starts.{index_none, index_more, index_all}
use Rattle.rel_joins.proofs.index.index_of.Goals as goal

pub pairs-init : goal.pairs-init
pairs-init c = index_none c.args.pairs.now c.new-starts.result.items c.new-starts.ensures.items

pub pairs-preserved : goal.pairs-preserved
pairs-preserved c = index_more c.requires c.pairs.invariant c.in_ok-fill.ensures.fills c.in_ok-fill.ensures.over refl (omega (arith, c.pairs-test.true))

pub returns : goal.returns
returns c = index_all c.pairs.invariant (omega (arith, c.pairs-test.false)) c.in_ok-fill-2.ensures.fills c.in_ok-fill-2.ensures.over
