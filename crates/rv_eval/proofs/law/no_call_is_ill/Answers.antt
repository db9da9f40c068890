use Rattle.rv_eval.proofs.Calls.{no_call_is_ill as law}
use Rattle.rv_eval.proofs.law.no_call_is_ill.Goals as goal

pub returns : goal.returns
returns c = law
