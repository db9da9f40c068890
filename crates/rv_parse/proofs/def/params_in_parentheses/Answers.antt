use Rattle.std.proofs.Common.{◌∷◌, ◌∙◌, ap, arith, length}
use Rattle.lang_model.specs.Limits.{more_limit}
use Rattle.lang_model.specs.Stop.{NamePart, MoreParams, SignPart}
use Rattle.rv_parse.proofs.def.params_in_parentheses.Goals as goal

pub returns : goal.returns
returns c =
    let o = c.in_ok-rest.ensures.read in
    let list = c.in_ok-list.ensures in
    let s = c.in_ok-rest-2.ensures.read in
    record {
      spelled = (c.in_ok-rest.rest.now, c.in_ok-list.rest.now, (_, o.0), list.spelled, (_, s.0));
      shorter = omega (arith, ap length o.0, list.shorter, ap length s.0);
      read = λ behind. o.1 (NamePart ∷ MoreParams more_limit ∷ SignPart 41 ∷ behind) ∙ list.read (SignPart 41 ∷ behind) ∙ s.1 behind;
    }
