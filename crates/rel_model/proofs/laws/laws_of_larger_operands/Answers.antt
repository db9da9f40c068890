use Rattle.rel_model.proofs.AlgebraLaws.{monotone_laws}
use Rattle.rel_model.proofs.laws.laws_of_larger_operands.Goals as goal

pub returns : goal.returns
returns c = monotone_laws
