use Rattle.std.proofs.Common.{◌≡◌, ◌≤◌, ◌*◌, ◌^◌, ◌∙◌, ℕ, List, sym, ap, subst, arith, length}
use Rattle.rel_model.specs.declared.Quad.{Quad}
use Rattle.rel_model.specs.Algebra.{HasType}
use Rattle.rel_model.specs.Quarters.{LiesWithin}
use Rattle.rel_model.specs.Relation.{Relation, relation_of}
use Rattle.rel_model.specs.Cells.{Cells}
use Rattle.rel_model.specs.Worker.{set_of, quad_set, GivesQuad, Gives}
use Rattle.rel_model.proofs.Heights.{height_over-rows}
use Rattle.rel_steps.proofs.Given.{gives_quad_set}
use Rattle.rel_joins.specs.Columns.{closed_cells, AreTiles}
use Rattle.rel_joins.proofs.Wholes.{written, tiles_stand, tiles_are, closed_lies, whole_value, closed_relation, ordered_room}
use Rattle.rel_joins.proofs.ordered.close_in_order.Given.{Over}
use Rattle.rel_joins.proofs.ordered.close_in_order.Goals.{In-Ok-raised}
use Rattle.rel_joins.proofs.ordered.close_in_order.Goals as goal

pub returns-in-Err-clause-room : goal.returns-in-Err-clause-room
returns-in-Err-clause-room g c =
    let a = c.args in
    let o = ordered_room c.requires.ready (g.met.Q.Core.row_limit a.q.now a.r c.requires.standing) in
    omega (arith, o, c.in-Err.ensures.room)

pub raised-requires-clause-squares : goal.raised-requires-clause-squares
raised-requires-clause-squares g c =
    let a = c.args in
    let now = written c.args.ordered.squares.len c.cut_all.new.squares _ c.deref-2.result.now c.deref-2.ensures.value (omega (arith, c.cut_all.ensures.len, c.deref_mut-2.ensures.len)) in
    tiles_stand (closed_cells a.r.rows a.pairs.now) (subst (λ (xs : List Quad). AreTiles (g.Q.Core.worker c.cut_all.new.q) (closed_cells a.r.rows a.pairs.now) a.ordered.blocks (a.ordered.blocks * a.ordered.blocks) xs) (sym now) c.in-Ok.ensures.tiles)
    (ap length now ∙ c.in-Ok.ensures.len ∙ ap length c.deref_mut-2.ensures.value ∙ c.requires.ready.all)

-- the quad has the cells of the closure
given : (g : Over) (c : In-Ok-raised g) → GivesQuad (g.Q.Core.worker c.raised.new.q) c.args.ordered.height (closed_cells c.args.r.rows c.args.pairs.now) c.in-Ok-raised.quad
given g c =
    let a = c.args in
    let n = a.r.rows in
    let ready = c.requires.ready in
    let f = closed_cells n a.pairs.now in
    let v = closed_lies n a.pairs.now c.requires.ends c.requires.sorted in
    let now = written c.args.ordered.squares.len c.cut_all.new.squares _ c.deref-2.result.now c.deref-2.ensures.value (omega (arith, c.cut_all.ensures.len, c.deref_mut-2.ensures.len)) in
    let tiles = subst (λ (xs : List Quad). AreTiles (g.Q.Core.worker c.cut_all.new.q) f a.ordered.blocks (a.ordered.blocks * a.ordered.blocks) xs) (sym now) c.in-Ok.ensures.tiles in
    let covers = height_over-rows g.Q.Core.least n n (g.met.Q.Core.row_limit a.q.now a.r c.requires.standing) in
    let high : n ≤ 2 ^ a.ordered.height = subst (λ (h : ℕ). n ≤ 2 ^ h) (sym ready.same_height) covers in
    whole_value (tiles_are (g.Q.Core.worker c.cut_all.new.q) f n a.ordered.blocks c.deref-2.result.now tiles v ready.covered) v high c.in-Ok-raised.ensures.value

pub rel-requires-clause-within : goal.rel-requires-clause-within
rel-requires-clause-within g c =
    let a = c.args in
    let p = given g (goal.at.rel-requires-clause-within g c).In-Ok-raised in
    let f = closed_cells a.r.rows a.pairs.now in
    subst (λ (n : ℕ). LiesWithin a.r.rows n (quad_set (g.Q.Core.worker c.raised.new.q) c.in-Ok-raised.quad)) c.requires.square
    (subst (λ (x : Cells). LiesWithin a.r.rows a.r.rows x) (sym (gives_quad_set (g.Q.Core.worker c.raised.new.q) a.ordered.height f c.in-Ok-raised.quad p)) (closed_lies a.r.rows a.pairs.now c.requires.ends c.requires.sorted))

pub returns-in-Ok-raised-clause-value : goal.returns-in-Ok-raised-clause-value
returns-in-Ok-raised-clause-value g c =
    let a = c.args in
    let core = g.met.Q.Core in
    let u = g.Q.Core.worker a.q.now in
    let w = g.Q.Core.worker c.raised.new.q in
    let f = closed_cells a.r.rows a.pairs.now in
    let p = given g (goal.at.returns-in-Ok-raised-clause-value g c).In-Ok-raised in
    let is : HasType a.r.rows a.r.rows (set_of u a.r) = record { valid = core.valid a.q.now a.r c.requires.standing; row_size = core.row_size a.q.now a.r c.requires.standing; col_size = core.col_size a.q.now a.r c.requires.standing ∙ sym c.requires.square } in
    let same : relation_of a.r.rows a.r.cols (quad_set w c.in-Ok-raised.quad) ≡ _ = ap (λ (n : ℕ). relation_of a.r.rows n (quad_set w c.in-Ok-raised.quad)) (sym c.requires.square)
    ∙ closed_relation a.r.rows (set_of u a.r) a.pairs.now (quad_set w c.in-Ok-raised.quad) is c.requires.is (gives_quad_set w a.ordered.height f c.in-Ok-raised.quad p) in
    subst (λ (x : Relation). Gives w a.r.rows a.r.cols x c.rel.result) same c.rel.ensures

pub returns-in-Ok-raised-clause-room : goal.returns-in-Ok-raised-clause-room
returns-in-Ok-raised-clause-room g c =
    let a = c.args in
    let o = ordered_room c.requires.ready (g.met.Q.Core.row_limit a.q.now a.r c.requires.standing) in
    omega (arith, o, c.in-Ok.ensures.room, c.in-Ok-raised.ensures.room)

pub returns-clause-room : goal.returns-clause-room
returns-clause-room g c =
    let a = c.args in
    let o = ordered_room c.requires.ready (g.met.Q.Core.row_limit a.q.now a.r c.requires.standing) in
    omega (arith, o, c.in-Ok.ensures.room, c.in-Err-raised.ensures.room)
