use Rattle.rv_eval.proofs.Ills.{ill_where_unknown as law}
use Rattle.rv_eval.proofs.law.ill_where_unknown.Goals as goal

pub returns : goal.returns
returns c = law
