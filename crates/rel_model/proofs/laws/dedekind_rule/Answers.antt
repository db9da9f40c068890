use Rattle.rel_model.proofs.AlgebraLaws.{dedekind_rule}
use Rattle.rel_model.proofs.laws.dedekind_rule.Goals as goal

pub returns : goal.returns
returns c = dedekind_rule
