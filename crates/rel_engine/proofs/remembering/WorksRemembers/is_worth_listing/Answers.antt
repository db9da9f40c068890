use Rattle.fork_quads.specs.Crew.{worker_of}
use Rattle.rel_engine.proofs.remembering.WorksRemembers.is_worth_listing.Goals as goal

pub invariant_of-self : goal.invariant_of-self
invariant_of-self g c = record { all = c.is_worth_listing.ensures (worker_of c.self.inside.crew) c.self.invariant.all }
