use Rattle.std.proofs.Common.{refl, false}
use Rattle.rv_print.proofs.Marking.{marks-more}
use Rattle.rv_print.proofs.rows.push_none.Goals as goal

pub cells-preserved : goal.cells-preserved
cells-preserved c = marks-more (λ j. false) c.cells.counter 46 c.args.out.now.items c.cells.out.items c.push.new.self.items refl c.in_ok-push.ensures.items c.cells.invariant
