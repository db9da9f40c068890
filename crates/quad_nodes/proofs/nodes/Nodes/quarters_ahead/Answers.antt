use Rattle.rel_model.proofs.QuadLaws.{keeps_on, quad_stays, quarters-stay}
use Rattle.quad_nodes.proofs.nodes.Nodes.quarters_ahead.Goals as goal

pub read_ahead-requires-2 : goal.read_ahead-requires-2
read_ahead-requires-2 c = record { stands = quad_stays 0 c.quarters-four.new.self c.read_ahead.new.self c.quarters-four.result.ne c.read_ahead.ensures.reads.keeps c.quarters-four.ensures.quarters.ne }

pub read_ahead-requires-3 : goal.read_ahead-requires-3
read_ahead-requires-3 c =
    let k = keeps_on 0 0 c.quarters-four.new.self c.read_ahead.new.self c.read_ahead-2.new.self c.read_ahead.ensures.reads.keeps c.read_ahead-2.ensures.reads.keeps in
    record { stands = quad_stays 0 c.quarters-four.new.self c.read_ahead-2.new.self c.quarters-four.result.sw k c.quarters-four.ensures.quarters.sw }

pub read_ahead-requires-4 : goal.read_ahead-requires-4
read_ahead-requires-4 c =
    let k = keeps_on 0 0 c.quarters-four.new.self c.read_ahead.new.self c.read_ahead-2.new.self c.read_ahead.ensures.reads.keeps c.read_ahead-2.ensures.reads.keeps in
    let l = keeps_on 0 0 c.quarters-four.new.self c.read_ahead-2.new.self c.read_ahead-3.new.self k c.read_ahead-3.ensures.reads.keeps in
    record { stands = quad_stays 0 c.quarters-four.new.self c.read_ahead-3.new.self c.quarters-four.result.se l c.quarters-four.ensures.quarters.se }

pub returns-clause-quarters : goal.returns-clause-quarters
returns-clause-quarters c =
    let k = keeps_on 0 0 c.quarters-four.new.self c.read_ahead.new.self c.read_ahead-2.new.self c.read_ahead.ensures.reads.keeps c.read_ahead-2.ensures.reads.keeps in
    let l = keeps_on 0 0 c.quarters-four.new.self c.read_ahead-2.new.self c.read_ahead-3.new.self k c.read_ahead-3.ensures.reads.keeps in
    let m = keeps_on 0 0 c.quarters-four.new.self c.read_ahead-3.new.self c.read_ahead-4.new.self l c.read_ahead-4.ensures.reads.keeps in
    quarters-stay 0 c.args.self.now c.quarters-four.new.self c.read_ahead-4.new.self c.args.q c.quarters-four.result m c.quarters-four.ensures.quarters
