use Rattle.std.proofs.lemmas.Bool.{not-true, not-false}
use Rattle.k2_parts.proofs.Visiting.{one_more, told_out, told_some, told_all}
use Rattle.k2_parts.proofs.visits.first_out_of_order.Goals as goal
use Rattle.k2_parts.proofs.visits.first_out_of_order.Goals.{else-not-noted-via-then-not-noted+else-noted-quads, else-not-noted-via-else-not-noted}

pub roots-preserved : goal.roots-preserved
roots-preserved c =
    one_more c.args.quads.now c.requires.sound c.args.roots.now c.roots.noted c.visit-noted.result c.roots.root-index c.root-item.result c.roots.invariant c.roots-test.true c.root-item.is
    c.visit-noted.ensures.visits c.visit-noted.ensures.low c.visit-noted.ensures.high

pub returns-then-noted-quads : goal.returns-then-noted-quads
returns-then-noted-quads c =
    told_all c.args.quads.now c.requires.sound c.args.roots.now c.roots.noted c.roots.root-index c.roots.invariant c.roots-test.false
    (not-true _ c.if-not-noted.true) c.if-noted-quads.true

pub returns-else-not-noted : goal.returns-else-not-noted
returns-else-not-noted c = elim c.else-not-noted.branch [
  | else-not-noted-via-then-not-noted+else-noted-quads w ↦
      told_some c.args.quads.now c.requires.sound c.args.roots.now c.roots.noted c.roots.root-index c.roots.invariant c.roots-test.false
      (not-true _ w.if-not-noted.true) w.if-noted-quads.false
  | else-not-noted-via-else-not-noted w ↦
      told_out c.args.quads.now c.requires.sound c.args.roots.now c.roots.noted c.roots.root-index c.roots.invariant c.roots-test.false
      (not-false _ w.if-not-noted.false)
]
