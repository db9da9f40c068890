use Rattle.rel_model.proofs.AlgebraLaws.{quotient_by_residuals}
use Rattle.rel_model.proofs.laws.quotient_by_residuals.Goals as goal

pub returns : goal.returns
returns c = quotient_by_residuals
