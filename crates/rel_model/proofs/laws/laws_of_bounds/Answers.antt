use Rattle.rel_model.proofs.Ordering.{bound_laws}
use Rattle.rel_model.proofs.laws.laws_of_bounds.Goals as goal

pub returns : goal.returns
returns c = bound_laws
