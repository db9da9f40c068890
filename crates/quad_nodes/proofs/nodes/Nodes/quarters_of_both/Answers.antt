use Rattle.rel_model.proofs.QuadLaws.{quad_stays, quarters-stay, quarters-before}
use Rattle.quad_nodes.proofs.nodes.Nodes.quarters_of_both.Goals as goal

pub quarters_ahead-second-requires-clause-stands : goal.quarters_ahead-second-requires-clause-stands
quarters_ahead-second-requires-clause-stands c = quad_stays 0 c.args.self.now c.quarters_ahead-first.new.self c.args.b c.quarters_ahead-first.ensures.reads.keeps c.requires.b_stands

pub returns-clause-first : goal.returns-clause-first
returns-clause-first c = quarters-stay 0 c.args.self.now c.quarters_ahead-first.new.self c.quarters_ahead-second.new.self c.args.a c.quarters_ahead-first.result c.quarters_ahead-second.ensures.reads.keeps c.quarters_ahead-first.ensures.quarters

pub returns-clause-second : goal.returns-clause-second
returns-clause-second c = quarters-before 0 c.args.self.now c.quarters_ahead-first.new.self c.quarters_ahead-second.new.self c.args.b c.quarters_ahead-second.result c.quarters_ahead-first.ensures.reads.keeps c.requires.b_stands c.quarters_ahead-second.ensures.quarters
