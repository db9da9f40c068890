use Rattle.std.proofs.Common.{◌∷◌, ◌∙◌, ap, arith, length}
use Rattle.lang_model.specs.Spelling.{OrLevel, assigned}
use Rattle.lang_model.specs.Stop.{ExprPart}
use Rattle.rv_parse.proofs.stmt.set.Goals as goal

pub returns : goal.returns
returns c =
    let s = c.in_ok-rest.ensures.read in
    let v = c.in_ok-value.ensures in
    record {
      spelled = λ before b. assigned c.args.depth c.args.at _ c.in_ok-value.value before c.args.tokens.now c.in_ok-rest.rest.now c.in_ok-value.rest.now (rw c.in_ok-name.ensures b) (_, s.0) v.spelled;
      shorter = omega (arith, ap length s.0, v.shorter);
      read = λ behind. s.1 (ExprPart OrLevel c.args.depth ∷ behind) ∙ v.read behind;
    }
