use Rattle.lang_model.proofs.Stepping.{calm_means_the_same}
use Rattle.lang_model.proofs.laws.rewriting_keeps_meanings.Goals as goal

pub returns : goal.returns
returns c = calm_means_the_same
