use Rattle.rel_compose.proofs.Finding.{composed_block}
use Rattle.rel_compose.proofs.product.leaf.Goals as goal

pub returns-clause-stood : goal.returns-clause-stood
returns-clause-stood c =
    composed_block c.args.nodes.now c.bits-first.new.self c.bits-second.new.self c.block.new.self c.args.a c.args.b c.bits-first.result c.bits-second.result c.block_compose.result c.block.result
    c.requires.b_stands c.bits-first.ensures.reads c.bits-second.ensures.reads c.bits-first.ensures.cells c.bits-second.ensures.cells c.block_compose.ensures c.block.ensures.stood
