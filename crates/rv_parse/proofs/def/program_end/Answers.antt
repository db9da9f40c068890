use Rattle.std.proofs.Common.{◌∷◌, ◌∙◌, arith}
use Rattle.lang_model.specs.declared.token.Keyword.TheVariants.{End as END}
use Rattle.lang_model.specs.Spelling.{OrLevel}
use Rattle.lang_model.specs.Stop.{ExprPart, WordPart}
use Rattle.rv_parse.proofs.def.program_end.Goals as goal

pub returns : goal.returns
returns c =
    let body = c.in_ok-body.ensures in
    let value = c.in_ok-result.ensures in
    let b = body.spelled in
    let v = value.spelled in
    record {
      spelled = (b.0, c.in_ok-body.rest.now, v.0, b.1, b.2, v.1, v.2);
      shorter = omega (arith, body.shorter, value.shorter);
      read = λ behind. body.read (ExprPart OrLevel 0 ∷ WordPart END ∷ behind) ∙ value.read behind;
    }
