use Rattle.std.proofs.Common.{◌≡◌, sym, subst}
use Rattle.rel_model.specs.Worker.{Stands, set_of}
use Rattle.fork_quads.specs.Crew.{worker_of}
use Rattle.rel_engine.proofs.remembering.WorksRemembers.keep_listing.Goals as goal

pub invariant_of-self : goal.invariant_of-self
invariant_of-self g c =
    let standing = subst (λ k. Stands (worker_of k) c.args.r) (sym c.self.view_is) c.requires.standing in
    let pairs = subst (λ k. c.args.pairs.items ≡ (set_of (worker_of k) c.args.r).pairs) (sym c.self.view_is) c.requires.pairs in
    record { all = c.keep_listing.ensures.all (worker_of c.self.inside.crew) c.self.invariant.all standing pairs }
