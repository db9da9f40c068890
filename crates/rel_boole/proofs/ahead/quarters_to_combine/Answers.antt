use Rattle.rel_model.proofs.QuadLaws.{quad_stays, quarters-stay, quarters-before, reads_on}
use Rattle.rel_boole.proofs.Combining.{HaveQuarters, still_have}
use Rattle.rel_boole.proofs.ahead.quarters_to_combine.Goals.{After-quarters-of_b}
use Rattle.rel_boole.proofs.ahead.quarters_to_combine.Goals as goal

have : (c : After-quarters-of_b) → HaveQuarters c.args.nodes.now c.quarters-of_b.new.self c.args.a c.args.b c.quarters-of_a.result c.quarters-of_b.result
have c = record {
  a_stands = c.requires.a_stands;
  b_stands = c.requires.b_stands;
  one_height = c.requires.one_height;
  first = quarters-stay 0 c.args.nodes.now c.quarters-of_a.new.self c.quarters-of_b.new.self c.args.a c.quarters-of_a.result c.quarters-of_b.ensures.reads.keeps c.quarters-of_a.ensures.quarters;
  second = quarters-before 0 c.args.nodes.now c.quarters-of_a.new.self c.quarters-of_b.new.self c.args.b c.quarters-of_b.result c.quarters-of_a.ensures.reads.keeps c.requires.b_stands c.quarters-of_b.ensures.quarters;
  reads = reads_on _ _ _ c.quarters-of_a.ensures.reads c.quarters-of_b.ensures.reads;
}

pub quarters-of_b-requires-clause-stands : goal.quarters-of_b-requires-clause-stands
quarters-of_b-requires-clause-stands c = quad_stays 0 c.args.nodes.now c.quarters-of_a.new.self c.args.b c.quarters-of_a.ensures.reads.keeps c.requires.b_stands

pub read_ahead-requires-clause-a_stands : goal.read_ahead-requires-clause-a_stands
read_ahead-requires-clause-a_stands c = (have (goal.at.read_ahead-requires-clause-a_stands c).After-quarters-of_b).first.nw

pub read_ahead-requires-2-clause-a_stands : goal.read_ahead-requires-2-clause-a_stands
read_ahead-requires-2-clause-a_stands c = (still_have (have (goal.at.read_ahead-requires-2-clause-a_stands c).After-quarters-of_b) c.read_ahead.ensures.reads).first.ne

pub read_ahead-requires-2-clause-b_stands : goal.read_ahead-requires-2-clause-b_stands
read_ahead-requires-2-clause-b_stands c = (still_have (have (goal.at.read_ahead-requires-2-clause-b_stands c).After-quarters-of_b) c.read_ahead.ensures.reads).second.ne

pub read_ahead-requires-3-clause-a_stands : goal.read_ahead-requires-3-clause-a_stands
read_ahead-requires-3-clause-a_stands c = (still_have (have (goal.at.read_ahead-requires-3-clause-a_stands c).After-quarters-of_b) (reads_on _ _ _ c.read_ahead.ensures.reads c.read_ahead-2.ensures.reads)).first.sw

pub read_ahead-requires-3-clause-b_stands : goal.read_ahead-requires-3-clause-b_stands
read_ahead-requires-3-clause-b_stands c = (still_have (have (goal.at.read_ahead-requires-3-clause-b_stands c).After-quarters-of_b) (reads_on _ _ _ c.read_ahead.ensures.reads c.read_ahead-2.ensures.reads)).second.sw

pub read_ahead-requires-4-clause-a_stands : goal.read_ahead-requires-4-clause-a_stands
read_ahead-requires-4-clause-a_stands c = (still_have (have (goal.at.read_ahead-requires-4-clause-a_stands c).After-quarters-of_b) (reads_on _ _ _ (reads_on _ _ _ c.read_ahead.ensures.reads c.read_ahead-2.ensures.reads) c.read_ahead-3.ensures.reads)).first.se

pub read_ahead-requires-4-clause-b_stands : goal.read_ahead-requires-4-clause-b_stands
read_ahead-requires-4-clause-b_stands c = (still_have (have (goal.at.read_ahead-requires-4-clause-b_stands c).After-quarters-of_b) (reads_on _ _ _ (reads_on _ _ _ c.read_ahead.ensures.reads c.read_ahead-2.ensures.reads) c.read_ahead-3.ensures.reads)).second.se

pub returns-clause-first : goal.returns-clause-first
returns-clause-first c = (still_have (have (goal.at.returns-clause-first c).After-quarters-of_b) (reads_on _ _ _ (reads_on _ _ _ (reads_on _ _ _ c.read_ahead.ensures.reads c.read_ahead-2.ensures.reads) c.read_ahead-3.ensures.reads) c.read_ahead-4.ensures.reads)).first

pub returns-clause-second : goal.returns-clause-second
returns-clause-second c = (still_have (have (goal.at.returns-clause-second c).After-quarters-of_b) (reads_on _ _ _ (reads_on _ _ _ (reads_on _ _ _ c.read_ahead.ensures.reads c.read_ahead-2.ensures.reads) c.read_ahead-3.ensures.reads) c.read_ahead-4.ensures.reads)).second
