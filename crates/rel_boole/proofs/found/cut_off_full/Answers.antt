use Rattle.rel_model.proofs.QuadLaws.{quad_stays}
use Rattle.rel_boole.proofs.Filled.{found_full}
use Rattle.rel_boole.proofs.found.cut_off_full.Goals as goal

pub is_full-b_full-requires : goal.is_full-b_full-requires
is_full-b_full-requires c = record { stands = quad_stays 0 c.args.nodes.now c.is_full-a_full.new.self c.args.b c.is_full-a_full.ensures.reads.keeps c.requires.b_stands }

pub returns-clause-found : goal.returns-clause-found
returns-clause-found c =
    found_full c.args.nodes.now c.is_full-a_full.new.self c.is_full-b_full.new.self c.args.op c.args.a c.args.b c.is_full-a_full.result c.is_full-b_full.result c.with_full.result
    c.requires.a_stands c.requires.b_stands c.requires.one_height c.is_full-a_full.ensures.reads c.is_full-b_full.ensures.reads
    c.is_full-a_full.ensures.full c.is_full-b_full.ensures.full c.with_full.ensures
