use Rattle.std.proofs.Common.{◌∷◌, ◌∙◌, ap, arith, length}
use Rattle.lang_model.specs.declared.token.Keyword.TheVariants.{Return as RETURN}
use Rattle.lang_model.specs.Stop.{WordPart}
use Rattle.rv_parse.proofs.def.program_body.Goals as goal

pub returns : goal.returns
returns c =
    let body = c.in_ok-body.ensures in
    let word = c.in_ok-rest.ensures.read in
    record {
      spelled = (c.in_ok-body.rest.now, body.spelled, (_, word.0));
      shorter = omega (arith, body.shorter, ap length word.0);
      read = λ behind. body.read (WordPart RETURN ∷ behind) ∙ word.1 behind;
    }
