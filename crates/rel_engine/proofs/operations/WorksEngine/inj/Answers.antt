use Rattle.rel_engine.proofs.Keeping.{kept}
use Rattle.rel_engine.proofs.operations.WorksEngine.inj.Goals as goal

pub invariant_of-self : goal.invariant_of-self
invariant_of-self g c = kept _ _ _ c.inj.ensures.keeps c.self.invariant
