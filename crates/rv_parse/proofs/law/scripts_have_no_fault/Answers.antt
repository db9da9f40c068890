use Rattle.rv_parse.proofs.Parsing.{no_stop}
use Rattle.rv_parse.proofs.law.scripts_have_no_fault.Goals as goal

pub returns : goal.returns
returns c = no_stop
