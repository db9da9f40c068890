use Rattle.std.proofs.Common.{◌<◌, ◌-◌, ◌^◌, ◌∙◌, suc, sym, ap, rules, arith}
use Rattle.rel_model.specs.Trees.{bottom_height}
use Rattle.rel_model.specs.Equations.{depth_of}
use Rattle.rel_model.proofs.QuadLaws.{known, reads_on}
use Rattle.quad_nodes.proofs.Halving.{halves_stand}
use Rattle.quad_nodes.proofs.Filling.{all_of, full_block, side_of-bottom, full_by_quarter, stands_below, only_full_block, full_halves, full_quarters_are}
use Rattle.quad_nodes.proofs.nodes.Nodes.+is_full.Goals as goal

pub returns-then-q-bottom-clause-full : goal.returns-then-q-bottom-clause-full
returns-then-q-bottom-clause-full t c = λ e. sym c.bits.ensures.cells ∙ full_block c.bits.result e ∙ ap all_of (sym (side_of-bottom c.args.q.height (c.if-q-bottom.true ∙ c.bottom.ensures.height)))

pub halves-west-requires : goal.halves-west-requires
halves-west-requires t c =
    let over : bottom_height < c.args.q.height = (let e = c.bottom.ensures.height in let l = c.requires.stands.low in let n = c.if-q-bottom.false in omega arith) in
    let h = halves_stand c.args.self.now c.halves-north.new.self c.args.q c.halves-north.result.0 c.halves-north.result.1 c.requires.stands over c.halves-north.ensures.halves in
    known c.halves-north.new.self.view (suc (depth_of (c.args.q.height - 1))) c.halves-north.result.0 h.first

pub is_full-requires : goal.is_full-requires
is_full-requires t c =
    let over : bottom_height < c.args.q.height = (let e = c.bottom.ensures.height in let l = c.requires.stands.low in let n = c.if-q-bottom.false in omega arith) in
    (omega arith, stands_below c.args.self.now c.halves-north.new.self c.halves-west.new.self c.args.q c.halves-north.result.0 c.halves-north.result.1 c.halves-west.result.0 c.halves-west.result.1 c.requires.stands over c.halves-north.ensures.halves c.halves-west.ensures.halves)

pub returns-clause-full : goal.returns-clause-full
returns-clause-full t c =
    let over : bottom_height < c.args.q.height = (let e = c.bottom.ensures.height in let l = c.requires.stands.low in let n = c.if-q-bottom.false in omega arith) in
    λ e. full_by_quarter c.args.self.now c.halves-north.new.self c.halves-west.new.self c.args.q c.halves-north.result.0 c.halves-north.result.1 c.halves-west.result.0 c.halves-west.result.1 c.requires.stands over
    c.halves-north.ensures.halves c.if-north-south.false c.halves-west.ensures.halves c.if-west-east.false (c.is_full.ensures.full e)

pub returns-then-q-bottom-clause-only_full : goal.returns-then-q-bottom-clause-only_full
returns-then-q-bottom-clause-only_full t c e =
    let l : c.bits.result < 2 ^ 64 = search rules in
    only_full_block c.bits.result l (c.bits.ensures.cells ∙ e ∙ ap all_of (side_of-bottom c.args.q.height (c.if-q-bottom.true ∙ c.bottom.ensures.height)))

pub returns-then-north-south-clause-only_full : goal.returns-then-north-south-clause-only_full
returns-then-north-south-clause-only_full t c e =
    let over : bottom_height < c.args.q.height = (let e = c.bottom.ensures.height in let l = c.requires.stands.low in let n = c.if-q-bottom.false in omega arith) in
    let f = full_halves c.args.self.now c.halves-north.new.self c.args.q c.halves-north.result.0 c.halves-north.result.1 c.halves-north.ensures.reads.keeps.after c.requires.stands over c.halves-north.ensures.halves e in
    absurd (c.if-north-south.true f.same)

pub returns-then-west-east-clause-only_full : goal.returns-then-west-east-clause-only_full
returns-then-west-east-clause-only_full t c e =
    let over : bottom_height < c.args.q.height = (let e = c.bottom.ensures.height in let l = c.requires.stands.low in let n = c.if-q-bottom.false in omega arith) in
    let f = full_quarters_are c.args.self.now c.halves-north.new.self c.halves-west.new.self c.args.q c.halves-north.result.0 c.halves-north.result.1 c.halves-west.result.0 c.halves-west.result.1
    c.halves-north.ensures.reads.keeps.after c.halves-west.ensures.reads.keeps.after c.requires.stands over c.halves-north.ensures.halves c.halves-west.ensures.halves e in
    absurd (c.if-west-east.true f.same)

pub returns-clause-only_full : goal.returns-clause-only_full
returns-clause-only_full t c e =
    let over : bottom_height < c.args.q.height = (let e = c.bottom.ensures.height in let l = c.requires.stands.low in let n = c.if-q-bottom.false in omega arith) in
    let f = full_quarters_are c.args.self.now c.halves-north.new.self c.halves-west.new.self c.args.q c.halves-north.result.0 c.halves-north.result.1 c.halves-west.result.0 c.halves-west.result.1
    c.halves-north.ensures.reads.keeps.after c.halves-west.ensures.reads.keeps.after c.requires.stands over c.halves-north.ensures.halves c.halves-west.ensures.halves e in
    c.is_full.ensures.only_full f.full

pub returns-then-west-east-clause-reads : goal.returns-then-west-east-clause-reads
returns-then-west-east-clause-reads t c = reads_on c.args.self.now c.halves-north.new.self c.halves-west.new.self c.halves-north.ensures.reads c.halves-west.ensures.reads

pub returns-clause-reads : goal.returns-clause-reads
returns-clause-reads t c =
    let k = reads_on c.args.self.now c.halves-north.new.self c.halves-west.new.self c.halves-north.ensures.reads c.halves-west.ensures.reads in
    reads_on c.args.self.now c.halves-west.new.self c.is_full.new.self k c.is_full.ensures.reads
