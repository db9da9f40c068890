use Rattle.relview.proofs.Lonely.{alone_is_solo}
use Rattle.relview.proofs.laws.alone_is_solo.Goals as goal

pub returns : goal.returns
returns c = alone_is_solo
