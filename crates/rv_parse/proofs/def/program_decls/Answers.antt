use Rattle.std.proofs.Common.{◌∷◌, ◌∙◌, ap, arith, length}
use Rattle.lang_model.specs.declared.token.Keyword.TheVariants.{Beg as BEG}
use Rattle.lang_model.specs.Stop.{WordPart}
use Rattle.rv_parse.proofs.def.program_decls.Goals as goal

pub returns : goal.returns
returns c =
    let list = c.in_ok-list.ensures in
    let beg = c.in_ok-rest.ensures.read in
    record {
      spelled = (c.in_ok-list.rest.now, list.spelled, (_, beg.0));
      shorter = omega (arith, list.shorter, ap length beg.0);
      read = λ behind. list.read (WordPart BEG ∷ behind) ∙ beg.1 behind;
    }
