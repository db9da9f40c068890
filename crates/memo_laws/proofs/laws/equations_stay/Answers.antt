use Rattle.rel_model.proofs.EquationLaws.{true_stays}
use Rattle.memo_laws.proofs.laws.equations_stay.Goals as goal

pub returns : goal.returns
returns c = true_stays
