use Rattle.rv_spell.proofs.OneScript.{one_script_law}
use Rattle.rv_spell.proofs.law.one_script.Goals as goal

pub returns : goal.returns
returns c = one_script_law
