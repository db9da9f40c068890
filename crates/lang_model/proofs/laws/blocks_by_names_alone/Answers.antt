use Rattle.lang_model.proofs.Blocking.{blocks_by_names}
use Rattle.lang_model.proofs.laws.blocks_by_names_alone.Goals as goal

pub returns : goal.returns
returns c = blocks_by_names
