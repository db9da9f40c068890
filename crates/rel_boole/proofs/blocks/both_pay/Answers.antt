use Rattle.rel_model.proofs.QuadLaws.{quad_stays}
use Rattle.rel_boole.proofs.blocks.both_pay.Goals as goal

pub blocks_pay-requires-2 : goal.blocks_pay-requires-2
blocks_pay-requires-2 c = record { stands = quad_stays 0 c.args.nodes.now c.blocks_pay.new.nodes c.args.b c.blocks_pay.ensures.reads.keeps c.requires.b_stands }
