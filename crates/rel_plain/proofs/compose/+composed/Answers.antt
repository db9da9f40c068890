use Rattle.rel_plain.proofs.Composing.{composed_single}
use Rattle.rel_plain.proofs.compose.+composed.Goals as goal

pub returns-then-left-eq1 : goal.returns-then-left-eq1
returns-then-left-eq1 t c = composed_single c.args.left.now c.args.right.now c.new-row.result.items c.push_through.new.out.items (0, 0) c.requires c.if-left-eq1.true c.new-row.ensures.items c.in_ok-push_through.ensures
