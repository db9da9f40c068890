use Rattle.rel_engine.proofs.Keeping.{kept}
use Rattle.rel_engine.proofs.operations.WorksEngine.trans_counted.Goals as goal

pub invariant_of-self : goal.invariant_of-self
invariant_of-self g c = kept _ _ _ c.trans_counted.ensures.keeps c.self.invariant
