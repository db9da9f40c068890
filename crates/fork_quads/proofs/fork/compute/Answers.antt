use Rattle.memo_laws.specs.Looking.{operator_of}
use Rattle.rel_model.proofs.QuadLaws.{keeps_most}
use Rattle.fork_quads.proofs.Joining.{work_room-fork}
use Rattle.fork_quads.proofs.fork.compute.Goals as goal

pub returns-then-cuts-eq0-clause-keeps : goal.returns-then-cuts-eq0-clause-keeps
returns-then-cuts-eq0-clause-keeps g c = keeps_most _ _ c.args.nodes.now c.compute_sequential.new.nodes (work_room-fork (operator_of c.args.op) c.args.halving.times c.args.a.height) c.compute_sequential.ensures.keeps

pub returns : goal.returns
returns g c = let e = c.compute_noted.ensures in record { value = e.value; stood = e.stood; keeps = e.keeps; misses = e.misses }
