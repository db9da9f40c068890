use Rattle.rel_engine.proofs.Keeping.{kept}
use Rattle.rel_engine.proofs.operations.WorksEngine.dom.Goals as goal

pub invariant_of-self : goal.invariant_of-self
invariant_of-self g c = kept _ _ _ c.dom.ensures.keeps c.self.invariant
