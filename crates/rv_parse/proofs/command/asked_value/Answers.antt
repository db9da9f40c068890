use Rattle.std.proofs.Common.{arith}
use Rattle.rv_parse.proofs.command.asked_value.Goals as goal

pub returns : goal.returns
returns c =
    let v = c.in_ok-value.ensures in
    record {
      spelled = λ before word. c.asking-command.ensures before c.args.tokens.now c.in_ok-value.rest.now word v.spelled;
      shorter = omega (arith, v.shorter);
      read = v.read;
    }
