use Rattle.std.proofs.Common.{refl}
use Rattle.rel_model.specs.Trees.{top_height}
use Rattle.rel_model.proofs.laws.one_size_limit.Goals as goal

pub returns-clause-height : goal.returns-clause-height
unfolding top_height
returns-clause-height c = refl

pub returns-clause-side : goal.returns-clause-side
unfolding top_height
returns-clause-side c = refl
