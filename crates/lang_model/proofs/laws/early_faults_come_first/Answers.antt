use Rattle.lang_model.proofs.Seeing.{comes_unless_early}
use Rattle.lang_model.proofs.laws.early_faults_come_first.Goals as goal

pub returns : goal.returns
returns c = comes_unless_early
