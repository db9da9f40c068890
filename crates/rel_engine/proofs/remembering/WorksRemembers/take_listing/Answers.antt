use Rattle.std.proofs.Common.{◌≡◌, subst}
use Rattle.std.specs.Prelude.{IfSome}
use Rattle.rel_model.specs.Worker.{set_of}
use Rattle.fork_quads.specs.Crew.{worker_of}
use Rattle.rel_engine.proofs.remembering.WorksRemembers.take_listing.Goals as goal

pub invariant_of-self : goal.invariant_of-self
invariant_of-self g c = record { all = c.take_listing.ensures.rest (worker_of c.self.inside.crew) c.self.invariant.all }

pub returns-clause-pairs : goal.returns-clause-pairs
returns-clause-pairs g c =
    let pairs = c.take_listing.ensures.pairs (worker_of c.self.inside.crew) c.self.invariant.all in
    subst (λ k. IfSome c.take_listing.result (λ v. v.items ≡ (set_of (worker_of k) c.args.r).pairs)) c.self.view_is pairs
