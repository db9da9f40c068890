use Rattle.rel_model.proofs.Ordering.{extreme_laws}
use Rattle.rel_model.proofs.laws.laws_of_extremes.Goals as goal

pub returns : goal.returns
returns c = extreme_laws
