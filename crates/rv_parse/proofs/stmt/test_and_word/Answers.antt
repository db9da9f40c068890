use Rattle.std.proofs.Common.{◌∷◌, ◌∙◌, suc, sym, ap, subst, arith, length}
use Rattle.lang_model.specs.Spelling.{OrLevel, Spelled}
use Rattle.lang_model.specs.Stop.{WordPart}
use Rattle.rv_parse.proofs.stmt.test_and_word.Goals as goal

pub returns : goal.returns
returns c =
    let test = c.in_ok-test.ensures in
    let word = c.in_ok-test-2.ensures in
    record {
      spelled = (c.in_ok-test.rest.now, subst (λ e. Spelled OrLevel (suc c.args.depth) e c.args.tokens.now c.in_ok-test.rest.now) (sym word.0) test.spelled, word.1);
      shorter = omega (arith, test.shorter, ap length word.1.1);
      read = λ behind. test.read (WordPart c.args.keyword ∷ behind) ∙ word.2 behind;
    }
