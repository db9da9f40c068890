use Rattle.std.proofs.Common.{◌∷◌, ◌∙◌, ap, arith, length}
use Rattle.lang_model.specs.declared.token.Keyword.TheVariants.{Commit as COMMIT}
use Rattle.lang_model.specs.Stop.{WordPart}
use Rattle.rv_parse.proofs.block.block.Goals as goal

pub returns : goal.returns
returns c =
    let list = c.in_ok-list.ensures in
    let commit = c.in_ok-rest.ensures.read in
    record {
      spelled = λ before b. (c.args.tokens.now, c.in_ok-list.rest.now, b, list.spelled, (_, commit.0));
      shorter = omega (arith, list.shorter, ap length commit.0);
      read = λ behind. list.read (WordPart COMMIT ∷ behind) ∙ commit.1 behind;
    }
