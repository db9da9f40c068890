use Rattle.std.proofs.Common.{sym, subst, arith}
use Rattle.rel_model.specs.Quads.{QuadStands}
use Rattle.fork_quads.proofs.Parts.{nth-all}
use Rattle.fork_quads.proofs.plan.+name_below.Goals as goal

pub name_below-requires : goal.name_below-requires
name_below-requires t c =
    let q = c.quarters-four.ensures.quarters in
    let n = c.if-depth-eq0.false in
    let d = c.decreases in
    (omega (arith, n, d), subst (QuadStands c.quarters-four.new.self) (sym c.picked-next.ensures) (nth-all (QuadStands c.quarters-four.new.self) _ _ _ _ _ q.nw q.ne q.sw q.se))
