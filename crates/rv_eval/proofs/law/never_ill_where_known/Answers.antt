use Rattle.rv_eval.proofs.Ills.{never_ill_where_known as law}
use Rattle.rv_eval.proofs.law.never_ill_where_known.Goals as goal

pub returns : goal.returns
returns c = law
