use Rattle.rel_model.proofs.AlgebraLaws.{compose_laws}
use Rattle.rel_model.proofs.laws.laws_of_composition.Goals as goal

pub returns : goal.returns
returns c = compose_laws
