use Rattle.std.proofs.Common.{◌≢◌, ◌<◌, ◌+◌, ◌^◌, refl, subst, rules, arith}
use Rattle.rel_model.specs.Quads.{Keeper, IsKeeper, KeepsQuads, Counts}
use Rattle.quad_nodes.specs.Finding.{FindsPair}
use Rattle.quad_nodes.proofs.Finding.{pair_found, pair_found-none, pair_is, refusals_count}
use Rattle.quad_nodes.proofs.nodes.Nodes.pair.Goals as goal

pub returns-then-right-eq0-clause-stood : goal.returns-then-right-eq0-clause-stood
returns-then-right-eq0-clause-stood c = pair_found-none c.args.self.now c.args.left c.args.right c.if-left-eq0.true c.if-right-eq0.true (subst IsKeeper c.self.view_is c.self.invariant)

pub returns-clause-value : goal.returns-clause-value
returns-clause-value c =
    let v : Keeper = record { table = c.self.inside.table.now; view = c.self.inside.seat; misses = c.self.inside.seat.refused } in
    let w : Keeper = record { table = c.self.inside.table.now; view = c.intern.new.seat; misses = c.intern.new.seat.refused } in
    let h : c.args.left + c.args.right ≢ 0 = omega arith in
    let l : c.args.right < 2 ^ 32 = search rules in
    let k : KeepsQuads 1 v w = search rules in
    rw (← c.self.view_is) (pair_is v w c.args.left c.args.right c.intern.result l h k c.intern.ensures.interns)

pub returns-clause-stood : goal.returns-clause-stood
returns-clause-stood c =
    let v : Keeper = record { table = c.self.inside.table.now; view = c.self.inside.seat; misses = c.self.inside.seat.refused } in
    let w : Keeper = record { table = c.self.inside.table.now; view = c.intern.new.seat; misses = c.intern.new.seat.refused } in
    let h : c.args.left + c.args.right ≢ 0 = omega arith in
    let k : KeepsQuads 1 v w = search rules in
    let n : Counts v w c.intern.result = refusals_count v w _ c.intern.result refl refl c.intern.ensures.interns in
    subst (λ (x : Keeper). FindsPair x w c.args.left c.args.right c.intern.result) c.self.view_is (pair_found v w c.args.left c.args.right c.intern.result h k n c.intern.ensures.interns)

pub returns-clause-counts : goal.returns-clause-counts
returns-clause-counts c =
    let v : Keeper = record { table = c.self.inside.table.now; view = c.self.inside.seat; misses = c.self.inside.seat.refused } in
    let w : Keeper = record { table = c.self.inside.table.now; view = c.intern.new.seat; misses = c.intern.new.seat.refused } in
    subst (λ (x : Keeper). Counts x w c.intern.result) c.self.view_is (refusals_count v w _ c.intern.result refl refl c.intern.ensures.interns)

pub returns-clause-nothing : goal.returns-clause-nothing
returns-clause-nothing c = λ a b.
    let h : c.args.left + c.args.right ≢ 0 = omega arith in
    absurd (h (omega (arith, a, b)))
