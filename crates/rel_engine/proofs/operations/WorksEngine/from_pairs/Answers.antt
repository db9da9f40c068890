use Rattle.rel_engine.proofs.Keeping.{kept}
use Rattle.rel_engine.proofs.operations.WorksEngine.from_pairs.Goals as goal

pub invariant_of-self : goal.invariant_of-self
invariant_of-self g c = kept _ _ _ c.from_pairs.ensures.keeps c.self.invariant
