use Rattle.rel_engine.proofs.Keeping.{kept}
use Rattle.rel_engine.proofs.squares.WorksQuads.read_ahead.Goals as goal

pub invariant_of-self : goal.invariant_of-self
invariant_of-self g c = kept _ _ _ c.read_ahead.ensures.keeps c.self.invariant
