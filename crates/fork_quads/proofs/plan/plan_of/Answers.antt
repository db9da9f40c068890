use Rattle.fork_quads.proofs.Forking.{keeps_sees, can_seen}
use Rattle.fork_quads.proofs.plan.plan_of.Goals as goal

pub by_sums-requires : goal.by_sums-requires
by_sums-requires c = can_seen c.args.nodes.now c.is_heavy.new.nodes c.args.job (keeps_sees 0 c.args.nodes.now c.is_heavy.new.nodes c.is_heavy.ensures.reads.keeps) c.requires
