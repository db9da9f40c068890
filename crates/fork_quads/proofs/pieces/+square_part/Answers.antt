use Rattle.memo_laws.specs.Looking.{operator_of}
use Rattle.fork_quads.proofs.Parts.{square_step, part-none}
use Rattle.fork_quads.proofs.PartProducts.{square_made, value_as, no_cuts}
use Rattle.std.proofs.Common.{ℕ, sym, subst, arith}
use Rattle.rel_model.specs.Quads.{KeepsQuads}
use Rattle.fork_quads.proofs.Joining.{work_room-square}
use Rattle.fork_quads.proofs.pieces.+square_part.Goals as goal

pub returns : goal.returns
returns t c =
    let s = square_step (operator_of c.args.op) c.args.nodes.now c.quarters_of_both.new.self c.args.a c.args.b c.picked-left.result c.picked-right.result c.quarters_of_both.result.0 c.quarters_of_both.result.1 c.args.cuts c.args.number c.place-k.result c.source_of.result
    c.requires.no_product c.requires.one_height c.if-cuts-eq0.false c.requires.deep c.quarters_of_both.ensures.first c.quarters_of_both.ensures.second c.place-k.ensures c.source_of.ensures c.picked-left.ensures c.picked-right.ensures in
    let e = c.square_part.ensures in
    let m = square_made {r = c.square_part.result} c.quarters_of_both.ensures.reads s e.value e.stood e.keeps e.counts in
    record { value = m.value; stood = m.stood; keeps = m.keeps; counts = m.counts }

pub returns-then-cuts-eq0-clause-value : goal.returns-then-cuts-eq0-clause-value
returns-then-cuts-eq0-clause-value t c = value_as c.compute_sequential.new.nodes _ _ _ _ c.compute_sequential.result (no_cuts c.args.a.height c.args.cuts c.if-cuts-eq0.true) (sym (part-none c.args.a.height c.args.cuts c.args.number _ c.if-cuts-eq0.true)) c.compute_sequential.ensures.value

pub returns-then-cuts-eq0-clause-keeps : goal.returns-then-cuts-eq0-clause-keeps
returns-then-cuts-eq0-clause-keeps t c =
    subst (λ (n : ℕ). KeepsQuads n c.args.nodes.now c.compute_sequential.new.nodes) (work_room-square (operator_of c.args.op) c.args.halving.times c.args.a.height c.args.cuts c.requires.no_product c.if-cuts-eq0.true) c.compute_sequential.ensures.keeps

pub square_part-requires : goal.square_part-requires
square_part-requires t c =
    let s = square_step (operator_of c.args.op) c.args.nodes.now c.quarters_of_both.new.self c.args.a c.args.b c.picked-left.result c.picked-right.result c.quarters_of_both.result.0 c.quarters_of_both.result.1 c.args.cuts c.args.number c.place-k.result c.source_of.result
    c.requires.no_product c.requires.one_height c.if-cuts-eq0.false c.requires.deep c.quarters_of_both.ensures.first c.quarters_of_both.ensures.second c.place-k.ensures c.source_of.ensures c.picked-left.ensures c.picked-right.ensures in
    let n = c.if-cuts-eq0.false in
    let d = c.decreases in
    (omega (arith, n, d), (s.left_stands, (s.right_stands, (s.one_height, (c.requires.no_product, (s.deep, c.requires.few))))))
