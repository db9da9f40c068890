use Rattle.std.proofs.Common.{subst}
use Rattle.lang_model.specs.Spelling.{Spells}
use Rattle.rv_tokens.specs.Endings.{ending_of}
use Rattle.rv_parse.specs.Got.{RefusesItems}
use Rattle.rv_parse.proofs.Parsing.{parsed, stopped}
use Rattle.rv_parse.proofs.script.parse.Goals as goal

pub returns-in-Ok-script_of-clause-spelled : goal.returns-in-Ok-script_of-clause-spelled
returns-in-Ok-script_of-clause-spelled c =
    let script = c.in-Ok-script_of.ensures in
    parsed c.args.bytes.now c.in-Ok.tokens.items (ending_of c.in-Ok.end) c.in-Ok-script_of.script c.in-Ok.ensures.0 (subst (Spells c.in-Ok-script_of.script) c.as_slice.ensures.value script.0) script.1

pub returns-in-Ok-clause-fault : goal.returns-in-Ok-clause-fault
returns-in-Ok-clause-fault c =
    let end = ending_of c.in-Ok.end in
    let halt = c.in-Err-script_of.halt in
    stopped c.args.bytes.now c.in-Ok.tokens.items end halt c.fault_of.result c.in-Ok.ensures.0 (subst (λ ts. RefusesItems end ts halt) c.as_slice.ensures.value c.in-Err-script_of.ensures) c.fault_of.ensures.fault
