use Rattle.tree_blocks.proofs.Opening.{opened_more, stands_yet}
use Rattle.tree_blocks.proofs.spill.open_level.Goals as goal

pub open_name-requires-clause-stands : goal.open_name-requires-clause-stands
open_name-requires-clause-stands c = stands_yet c.args.turned c.args.nodes.now c.names.nodes c.args.height c.args.names.now c.names.names c.args.count c.names.done c.requires.stands c.names-test.true c.names.invariant

pub names-preserved : goal.names-preserved
names-preserved c = opened_more c.args.turned c.args.nodes.now c.names.nodes c.open_name.new.nodes c.args.height c.args.names.now c.names.names c.open_name.new.names c.args.count c.names.done c.requires.stands c.names-test.true c.names.invariant
    c.open_name.ensures.len c.open_name.ensures.opened c.open_name.ensures.lower c.open_name.ensures.upper c.open_name.ensures.reads
