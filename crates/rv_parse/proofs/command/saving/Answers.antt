use Rattle.std.proofs.Common.{◌∷◌, ◌∙◌, ap, arith, length}
use Rattle.lang_model.specs.Stop.{FilePart}
use Rattle.rv_parse.proofs.command.saving.Goals as goal

pub returns : goal.returns
returns c =
    let v = c.in_ok-value.ensures in
    let file = c.in_ok-file-2.ensures.read in
    record {
      spelled = λ before b. (c.in_ok-value.rest.now, (c.args.tokens.now, b, v.spelled), file.0);
      shorter = omega (arith, v.shorter, ap length file.0.1);
      read = λ behind. c.in_default.ensures.value _ (FilePart ∷ behind) ∙ v.read (FilePart ∷ behind) ∙ file.1 behind;
    }
