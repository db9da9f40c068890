use Rattle.std.proofs.Common.{sym, subst}
use Rattle.rel_model.specs.Worker.{Stands}
use Rattle.fork_quads.specs.Crew.{worker_of}
use Rattle.rel_slices.specs.Remembering.{IsTransposeOf}
use Rattle.rel_engine.proofs.remembering.WorksRemembers.note_transposed.Goals as goal

pub invariant_of-self : goal.invariant_of-self
invariant_of-self g c =
    let standing = subst (λ k. Stands (worker_of k) c.args.r) (sym c.self.view_is) c.requires.standing in
    let means = subst (λ k. IsTransposeOf (worker_of k) c.args.r c.args.transposed) (sym c.self.view_is) c.requires.means in
    record { all = c.note_transposed.ensures (worker_of c.self.inside.crew) c.self.invariant.all standing means }
