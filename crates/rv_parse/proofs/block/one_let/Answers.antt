use Rattle.std.proofs.Common.{◌∷◌, ◌∙◌, ap, arith, length}
use Rattle.lang_model.specs.Spelling.{OrLevel}
use Rattle.lang_model.specs.Stop.{SignPart, ExprPart}
use Rattle.rv_parse.proofs.block.one_let.Goals as goal

pub returns : goal.returns
returns c =
    let name = c.in_ok-name.ensures.read in
    let s = c.in_ok-rest.ensures.read in
    let v = c.in_ok-value.ensures in
    record {
      spelled = λ before b. (c.args.tokens.now, c.in_ok-name.rest.now, c.in_ok-rest.rest.now, b, name.0, (_, s.0), v.spelled);
      shorter = omega (arith, ap length name.0, ap length s.0, v.shorter);
      read = λ behind. name.1 (SignPart 61 ∷ ExprPart OrLevel 0 ∷ behind) ∙ s.1 (ExprPart OrLevel 0 ∷ behind) ∙ v.read behind;
    }
