use Rattle.std.proofs.Common.{◌∷◌, ◌∙◌, ap, arith, length}
use Rattle.lang_model.specs.declared.token.Keyword.TheVariants.{Print as PRINT}
use Rattle.lang_model.specs.Spelling.{OrLevel}
use Rattle.lang_model.specs.Stop.{WordPart, ExprPart}
use Rattle.rv_parse.proofs.command.look.Goals as goal

pub returns : goal.returns
returns c =
    let name = c.in_ok-name.ensures.read in
    let s = c.in_ok-rest.ensures.read in
    let v = c.in_ok-value.ensures in
    record {
      spelled = λ before b. (c.args.tokens.now, c.in_ok-name.rest.now, b, name.0, (c.in_ok-rest.rest.now, (_, s.0), v.spelled));
      shorter = omega (arith, ap length name.0, ap length s.0, v.shorter);
      read = λ behind. name.1 (WordPart PRINT ∷ ExprPart OrLevel 0 ∷ behind) ∙ s.1 (ExprPart OrLevel 0 ∷ behind) ∙ v.read behind;
    }
