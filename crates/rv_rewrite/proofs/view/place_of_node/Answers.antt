use Rattle.std.proofs.Common.{arith}
use Rattle.rv_rewrite.proofs.Parts.{place_at, no_place_at}
use Rattle.rv_rewrite.proofs.view.place_of_node.Goals as goal

pub returns-in-empty : goal.returns-in-empty
returns-in-empty c = no_place_at c.args.expr.now c.in-Chain.first c.in-Chain.rest c.in-Chain.is c.as_slice.result.now c.as_slice.ensures.value (omega arith)

pub returns-in-len1-up : goal.returns-in-len1-up
returns-in-len1-up c = place_at c.args.expr.now c.in-Chain.first c.in-Chain.rest c.in-Chain.is c.as_slice.result.now c.as_slice.ensures.value c.link-item.result (omega arith) c.link-item.is
