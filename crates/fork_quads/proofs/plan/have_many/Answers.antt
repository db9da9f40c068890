use Rattle.rel_model.proofs.QuadLaws.{quad_stays}
use Rattle.fork_quads.proofs.plan.have_many.Goals as goal

pub has_many-requires-2 : goal.has_many-requires-2
has_many-requires-2 c = record { stands = quad_stays 0 c.args.nodes.now c.has_many.new.nodes c.args.b c.has_many.ensures.reads.keeps c.requires.b_stands }
