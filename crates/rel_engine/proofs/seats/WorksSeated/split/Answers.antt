use Rattle.fork_quads.specs.Crew.{worker_of}
use Rattle.rel_engine.proofs.Keeping.{held}
use Rattle.rel_engine.proofs.seats.WorksSeated.split.Goals as goal

pub invariant_of-self : goal.invariant_of-self
invariant_of-self g c = held _ _ _ c.split.ensures.holds c.self.invariant

pub invariant_of-result : goal.invariant_of-result
invariant_of-result g c = record { all = c.none.ensures (worker_of c.split.result) }
