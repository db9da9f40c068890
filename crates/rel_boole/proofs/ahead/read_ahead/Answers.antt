use Rattle.rel_model.proofs.QuadLaws.{keeps_on, quad_stays}
use Rattle.rel_boole.proofs.ahead.read_ahead.Goals as goal

pub read_ahead-requires-2 : goal.read_ahead-requires-2
read_ahead-requires-2 c = record { stands = quad_stays 0 c.args.nodes.now c.read_ahead.new.self c.args.b c.read_ahead.ensures.reads.keeps c.requires.b_stands }

pub look_ahead-requires-clause-a_stands : goal.look_ahead-requires-clause-a_stands
look_ahead-requires-clause-a_stands c =
    let k = keeps_on 0 0 c.args.nodes.now c.read_ahead.new.self c.read_ahead-2.new.self c.read_ahead.ensures.reads.keeps c.read_ahead-2.ensures.reads.keeps in
    quad_stays 0 c.args.nodes.now c.read_ahead-2.new.self c.args.a k c.requires.a_stands

pub look_ahead-requires-clause-b_stands : goal.look_ahead-requires-clause-b_stands
look_ahead-requires-clause-b_stands c =
    let k = keeps_on 0 0 c.args.nodes.now c.read_ahead.new.self c.read_ahead-2.new.self c.read_ahead.ensures.reads.keeps c.read_ahead-2.ensures.reads.keeps in
    quad_stays 0 c.args.nodes.now c.read_ahead-2.new.self c.args.b k c.requires.b_stands
