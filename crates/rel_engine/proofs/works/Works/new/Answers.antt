use Rattle.fork_quads.specs.Crew.{worker_of}
use Rattle.rel_engine.proofs.works.Works.new.Goals as goal

pub invariant_of-result : goal.invariant_of-result
invariant_of-result g c = record { all = c.none.ensures (worker_of c.args.crew) }
