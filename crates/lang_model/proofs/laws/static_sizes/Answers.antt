use Rattle.lang_model.proofs.Soundness.{static_sizes as law}
use Rattle.lang_model.proofs.laws.static_sizes.Goals as goal

pub returns : goal.returns
returns c = law
