use Rattle.std.proofs.Common.{◌≢◌, ◌<◌, ◌^◌, Ok, refl, sym, subst, rules, arith}
use Rattle.rel_model.specs.Quads.{Keeper, IsKeeper, IsQuad, KeepsQuads, Counts}
use Rattle.rel_model.specs.Trees.{bottom_height}
use Rattle.quad_nodes.proofs.Halving.{empty_block, block_is}
use Rattle.rel_model.specs.Cells.{block_cells}
use Rattle.rel_model.specs.declared.Quad.{Quad}
use Rattle.rel_model.proofs.QuadLaws.{reads_itself}
use Rattle.quad_nodes.specs.Finding.{FindsQuad}
use Rattle.quad_nodes.proofs.Finding.{found_is, block_found, block_missed, counts_failed}
use Rattle.quad_nodes.proofs.nodes.Nodes.block.Goals as goal

pub returns-then-bits-eq0-clause-value : goal.returns-then-bits-eq0-clause-value
unfolding bottom_height
returns-then-bits-eq0-clause-value c =
    subst (λ (q : Quad). IsQuad c.args.self.now bottom_height (block_cells c.args.bits) q) (sym c.empty.ensures) (empty_block c.args.self.now c.args.bits (subst IsKeeper c.self.view_is c.self.invariant) c.if-bits-eq0.true)

pub returns-clause-value : goal.returns-clause-value
unfolding bottom_height
returns-clause-value c =
    let v : Keeper = record { table = c.self.inside.table.now; view = c.self.inside.seat; misses = c.self.inside.seat.refused } in
    let w : Keeper = record { table = c.self.inside.table.now; view = c.intern_block.new.seat; misses = c.intern_block.new.seat.refused } in
    let h : c.args.bits ≢ 0 = omega arith in
    block_is v w c.args.bits c.in_ok-name.name h c.in_ok-name.ensures.interns

pub returns-then-bits-eq0-clause-stood : goal.returns-then-bits-eq0-clause-stood
unfolding bottom_height
returns-then-bits-eq0-clause-stood c =
    let i = subst IsKeeper c.self.view_is c.self.invariant in
    let e : IsQuad c.args.self.now bottom_height (block_cells c.args.bits) c.empty.result = subst (λ (q : Quad). IsQuad c.args.self.now bottom_height (block_cells c.args.bits) q) (sym c.empty.ensures) (empty_block c.args.self.now c.args.bits i c.if-bits-eq0.true) in
    found_is c.args.self.now c.args.self.now bottom_height (block_cells c.args.bits) c.empty.result (reads_itself c.args.self.now i) e

pub returns-clause-stood : goal.returns-clause-stood
unfolding bottom_height
returns-clause-stood c =
    let v : Keeper = record { table = c.self.inside.table.now; view = c.self.inside.seat; misses = c.self.inside.seat.refused } in
    let w : Keeper = record { table = c.self.inside.table.now; view = c.intern_block.new.seat; misses = c.intern_block.new.seat.refused } in
    let h : c.args.bits ≢ 0 = omega arith in
    let l : c.args.bits < 2 ^ 64 = search rules in
    let k : KeepsQuads 1 v w = search rules in
    let q : Quad = record { height = bottom_height; name = c.in_ok-name.name } in
    subst (λ (x : Keeper). FindsQuad x w bottom_height (block_cells c.args.bits) (Ok q)) c.self.view_is (block_found v w c.args.bits c.in_ok-name.name h l k (c.in_ok-name.ensures.interns.granted refl) c.in_ok-name.ensures.interns)

pub returns-in_err-name-clause-stood : goal.returns-in_err-name-clause-stood
unfolding bottom_height
returns-in_err-name-clause-stood c =
    let h : c.args.bits ≢ 0 = omega arith in
    let l : c.args.bits < 2 ^ 64 = search rules in
    rw (← c.self.view_is) (block_missed _ _ c.intern_block.new.seat c.args.bits _ _ h l c.self.invariant.of.canonical c.intern_block.ensures.of.canonical c.in_err-name.ensures.interns)

pub returns-in_err-name-clause-counts : goal.returns-in_err-name-clause-counts
returns-in_err-name-clause-counts c =
    let v : Keeper = record { table = c.self.inside.table.now; view = c.self.inside.seat; misses = c.self.inside.seat.refused } in
    let w : Keeper = record { table = c.self.inside.table.now; view = c.intern_block.new.seat; misses = c.intern_block.new.seat.refused } in
    subst (λ (x : Keeper). Counts x w c.from_residual.result) c.self.view_is (counts_failed v v w c.from_residual.result refl c.from_residual.ensures.0 (c.in_err-name.ensures.interns.refused refl))

pub returns-clause-nothing : goal.returns-clause-nothing
returns-clause-nothing c = λ e. absurd (c.if-bits-eq0.false e)

pub returns-in_err-name-clause-nothing : goal.returns-in_err-name-clause-nothing
returns-in_err-name-clause-nothing c = λ e. absurd (c.if-bits-eq0.false e)
