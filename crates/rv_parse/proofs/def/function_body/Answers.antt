use Rattle.std.proofs.Common.{arith}
use Rattle.rv_parse.proofs.def.function_body.Goals as goal

pub returns : goal.returns
returns c =
    let body = c.in_ok-body.ensures in
    record {
      spelled = λ before mid head equals. (mid, c.args.tokens.now, head, equals, body.spelled);
      shorter = omega (arith, body.shorter);
      read = body.read;
    }
