use Rattle.std.proofs.Common.{◌∷◌, ◌∙◌, ap, arith, length}
use Rattle.lang_model.specs.Stop.{FilePart}
use Rattle.rv_parse.proofs.command.loading.Goals as goal

pub returns : goal.returns
returns c =
    let name = c.in_ok-name.ensures.read in
    let file = c.in_ok-file-2.ensures.read in
    record {
      spelled = λ before b. (c.in_ok-name.rest.now, (c.args.tokens.now, b, (_, name.0)), file.0);
      shorter = omega (arith, ap length name.0, ap length file.0.1);
      read = λ behind. c.in_default.ensures.name _ (FilePart ∷ behind) ∙ name.1 (FilePart ∷ behind) ∙ file.1 behind;
    }
