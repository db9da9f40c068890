use Rattle.rel_model.proofs.AlgebraLaws.{transpose_laws}
use Rattle.rel_model.proofs.laws.laws_of_transposition.Goals as goal

pub returns : goal.returns
returns c = transpose_laws
