use Rattle.rel_model.proofs.AlgebraLaws.{residual_laws}
use Rattle.rel_model.proofs.laws.laws_of_residuals.Goals as goal

pub returns : goal.returns
returns c = residual_laws
