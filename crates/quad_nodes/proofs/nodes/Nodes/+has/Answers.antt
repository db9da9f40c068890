use Rattle.std.proofs.Common.{◌≡◌, ◌<◌, ◌-◌, ◌∙◌, ℕ, true, ltb, suc, subst, sym, arith}
use Rattle.rel_model.specs.Trees.{bottom_height, stands}
use Rattle.rel_model.specs.Equations.{depth_of}
use Rattle.rel_model.proofs.QuadLaws.{known, reads_on}
use Rattle.quad_nodes.proofs.Halving.{halves_stand}
use Rattle.quad_nodes.proofs.Squaring.{picked_holds, place_is}
use Rattle.quad_nodes.proofs.nodes.Nodes.+has.Goals as goal

pub halves-west-requires : goal.halves-west-requires
halves-west-requires t c =
    let over : bottom_height < c.args.q.height = (let e = c.bottom.ensures.height in let l = c.requires.stands.low in let n = c.if-q-bottom.false in omega arith) in
    let h = halves_stand c.args.self.now c.halves-north.new.self c.args.q c.halves-north.result.0 c.halves-north.result.1 c.requires.stands over c.halves-north.ensures.halves in
    let P : ℕ → Type 0 = λ x. stands c.halves-north.new.self.view.words (suc (depth_of (c.args.q.height - 1))) x ≡ true in
    known c.halves-north.new.self.view (suc (depth_of (c.args.q.height - 1))) c.half_at-wide.result.0
    (subst P (sym c.half_at-wide.ensures.name) (picked_holds P (ltb c.args.i c.side_of_height-half.result) c.halves-north.result.0 c.halves-north.result.1 h.first h.second))

pub has-requires : goal.has-requires
has-requires t c =
    let over : bottom_height < c.args.q.height = (let e = c.bottom.ensures.height in let l = c.requires.stands.low in let n = c.if-q-bottom.false in omega arith) in
    let p = place_is c.args.self.now c.halves-north.new.self c.halves-west.new.self c.args.q c.args.i c.args.j c.side_of_height-half.result c.halves-north.result.0 c.halves-north.result.1
    c.half_at-wide.result.0 c.half_at-wide.result.1 c.halves-west.result.0 c.halves-west.result.1 c.half_at-name.result.0 c.half_at-name.result.1 c.requires.stands over c.requires.row c.requires.col c.side_of_height-half.ensures
    c.halves-north.ensures.halves c.half_at-wide.ensures.name c.half_at-wide.ensures.place c.halves-west.ensures.halves c.half_at-name.ensures.name c.half_at-name.ensures.place in
    (omega arith, (p.standing, (p.row_in, p.col_in)))

pub returns-clause-value : goal.returns-clause-value
returns-clause-value t c =
    let over : bottom_height < c.args.q.height = (let e = c.bottom.ensures.height in let l = c.requires.stands.low in let n = c.if-q-bottom.false in omega arith) in
    let p = place_is c.args.self.now c.halves-north.new.self c.halves-west.new.self c.args.q c.args.i c.args.j c.side_of_height-half.result c.halves-north.result.0 c.halves-north.result.1
    c.half_at-wide.result.0 c.half_at-wide.result.1 c.halves-west.result.0 c.halves-west.result.1 c.half_at-name.result.0 c.half_at-name.result.1 c.requires.stands over c.requires.row c.requires.col c.side_of_height-half.ensures
    c.halves-north.ensures.halves c.half_at-wide.ensures.name c.half_at-wide.ensures.place c.halves-west.ensures.halves c.half_at-name.ensures.name c.half_at-name.ensures.place in
    c.has.ensures.value ∙ sym p.same

pub returns-clause-reads : goal.returns-clause-reads
returns-clause-reads t c =
    let k = reads_on c.args.self.now c.halves-north.new.self c.halves-west.new.self c.halves-north.ensures.reads c.halves-west.ensures.reads in
    reads_on c.args.self.now c.halves-west.new.self c.has.new.self k c.has.ensures.reads
