use Rattle.rv_eval.specs.Names.{state_of}
use Rattle.rv_sessions.specs.Blocking.{ValuedSoFar}
use Rattle.rv_sessions.proofs.block.block_values.Given as goal

abbrev pub invariant-lets : goal.invariant-lets
invariant-lets g l =
    let w = g.E.Core.worker in
    ValuedSoFar g.E.Core.least l.task.checked.now l.task.turns l.lets (state_of (w l.fn.engine) l.fn.names.items) (w l.fn.engine) (w l.engine) l.names.items l.gifts.items l.one-index
