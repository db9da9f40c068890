use Rattle.std.proofs.Common.{◌∙◌, arith}
use Rattle.std.proofs.lemmas.List.{length-set}
use Rattle.rel_model.proofs.QuadLaws.{quad_stays, reads_on}
use Rattle.fork_quads.proofs.plan.+met_at.Goals as goal

pub met_at-requires : goal.met_at-requires
met_at-requires t c =
    let n = c.if-left-eq0.false in
    let d = c.decreases in
    (omega (arith, n, d), (quad_stays 0 c.args.nodes.now c.name_below-name.new.nodes c.args.q c.name_below-name.ensures.reads.keeps c.requires.stands, c.requires.places))

pub met_at-requires-2 : goal.met_at-requires-2
met_at-requires-2 t c =
    let n = c.if-left-eq0.false in
    let d = c.decreases in
    (omega (arith, n, d), (quad_stays 0 c.args.nodes.now c.name_below-name.new.nodes c.args.q c.name_below-name.ensures.reads.keeps c.requires.stands, length-set c.args.seen.now _ _ ∙ c.requires.places))

pub returns-then-name-eq0-clause-reads : goal.returns-then-name-eq0-clause-reads
returns-then-name-eq0-clause-reads t c = reads_on c.args.nodes.now c.name_below-name.new.nodes c.met_at.new.nodes c.name_below-name.ensures.reads c.met_at.ensures.reads

pub returns-clause-reads : goal.returns-clause-reads
returns-clause-reads t c = reads_on c.args.nodes.now c.name_below-name.new.nodes c.met_at-2.new.nodes c.name_below-name.ensures.reads c.met_at-2.ensures.reads
