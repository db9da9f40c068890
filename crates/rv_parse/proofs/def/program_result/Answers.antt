use Rattle.std.proofs.Common.{◌∷◌, ◌∙◌, sym, ap, subst, arith, length}
use Rattle.lang_model.specs.declared.token.Keyword.TheVariants.{End as END}
use Rattle.lang_model.specs.Spelling.{OrLevel, Spelled}
use Rattle.lang_model.specs.Stop.{WordPart}
use Rattle.rv_parse.proofs.def.program_result.Goals as goal

pub returns : goal.returns
returns c =
    let value = c.in_ok-result.ensures in
    let word = c.in_ok-result-2.ensures in
    record {
      spelled = (c.in_ok-result.rest.now, subst (λ e. Spelled OrLevel 0 e c.args.tokens.now c.in_ok-result.rest.now) (sym word.0) value.spelled, word.1);
      shorter = omega (arith, value.shorter, ap length word.1.1);
      read = λ behind. value.read (WordPart END ∷ behind) ∙ word.2 behind;
    }
