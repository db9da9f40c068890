use Rattle.std.proofs.Common.{◌∷◌, ◌∙◌, ap, arith, length}
use Rattle.lang_model.specs.Spelling.{OrLevel}
use Rattle.lang_model.specs.Stop.{NamePart, SignPart, ExprPart}
use Rattle.rv_parse.proofs.block.first_let.Goals as goal

pub returns : goal.returns
returns c =
    let word = c.in_ok-rest.ensures.read in
    let first = c.in_ok-first.ensures in
    record {
      spelled = first.spelled c.args.tokens.now (_, word.0);
      shorter = omega (arith, ap length word.0, first.shorter);
      read = λ behind. word.1 (NamePart ∷ SignPart 61 ∷ ExprPart OrLevel 0 ∷ behind) ∙ first.read behind;
    }
