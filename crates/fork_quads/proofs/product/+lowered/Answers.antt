use Rattle.std.proofs.Common.{◌≡◌, ◌≤◌, sym, subst, arith}
use Rattle.rel_model.specs.Cells.{Cells}
use Rattle.rel_model.specs.Equations.{side_of}
use Rattle.rel_model.specs.Quads.{IsQuad, quad_cells}
use Rattle.rel_model.specs.Quarters.{LiesWithin}
use Rattle.fork_quads.proofs.Products.{nw_cells}
use Rattle.fork_quads.proofs.product.+lowered.Goals as goal

-- the north-west quarter has the set
same_cells : (t : _) (c : goal.After-lowered-arg-1 t) → quad_cells c.quarters.new.self c.quarters.result.nw ≡ quad_cells c.args.nodes.now c.args.q
same_cells t c =
    let q = c.quarters.ensures.quarters in
    let h : c.args.height ≤ c.quarters.result.nw.height = (let e = q.nw_height in let l = c.requires.high in let n = c.if-q-height.false in omega arith) in
    nw_cells c.args.nodes.now c.quarters.new.self c.args.q c.quarters.result c.args.height q c.requires.low h c.requires.within

pub lowered-requires : goal.lowered-requires
lowered-requires t c =
    let q = c.quarters.ensures.quarters in
    let e = q.nw_height in
    let l = c.requires.high in
    let n = c.if-q-height.false in
    (omega arith, (q.nw, (c.requires.low, (omega arith, subst (LiesWithin (side_of c.args.height) (side_of c.args.height)) (sym (same_cells t c)) c.requires.within))))

pub returns-clause-value : goal.returns-clause-value
returns-clause-value t c =
    let q = c.quarters.ensures.quarters in
    let h : c.args.height ≤ c.quarters.result.nw.height = (let e = q.nw_height in let l = c.requires.high in let n = c.if-q-height.false in omega arith) in
    subst (λ (f : Cells). IsQuad c.lowered.new.nodes c.args.height f c.lowered.result)
    (nw_cells c.args.nodes.now c.quarters.new.self c.args.q c.quarters.result c.args.height q c.requires.low h c.requires.within) c.lowered.ensures.value
