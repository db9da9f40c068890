use Rattle.rv_spell.proofs.SameTrees.{same_except_places}
use Rattle.rv_spell.proofs.law.same_except_places.Goals as goal

pub returns : goal.returns
returns c = same_except_places
