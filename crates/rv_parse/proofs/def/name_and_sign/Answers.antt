use Rattle.std.proofs.Common.{◌∷◌, ◌∙◌, ap, arith, length}
use Rattle.lang_model.specs.Stop.{SignPart}
use Rattle.rv_parse.proofs.def.name_and_sign.Goals as goal

pub returns : goal.returns
returns c =
    let name = c.in_ok-name.ensures.read in
    let s = c.in_ok-rest.ensures.read in
    record {
      spelled = (c.in_ok-name.rest.now, (_, name.0), (_, s.0));
      shorter = omega (arith, ap length name.0, ap length s.0);
      read = λ behind. name.1 (SignPart c.args.byte ∷ behind) ∙ s.1 behind;
    }
