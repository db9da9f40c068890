use Rattle.std.proofs.Common.{◌∷◌, ◌∙◌, ap, arith, length}
use Rattle.lang_model.specs.Spelling.{injected}
use Rattle.lang_model.specs.Stop.{NamePart, SignPart}
use Rattle.rv_parse.proofs.forms.with_domain.Goals as goal

pub returns : goal.returns
returns c =
    let o = c.in_ok-rest.ensures.read in
    let n = c.in_ok-domain.ensures.read in
    let s = c.in_ok-rest-2.ensures.read in
    record {
      spelled = λ before t. injected c.args.depth c.args.at c.args.base c.in_ok-domain.domain before c.args.tokens.now c.in_ok-rest.rest.now c.in_ok-domain.rest.now c.in_ok-rest-2.rest.now o.1 c.requires.form t (_, o.0) (_, n.0) (_, s.0);
      shorter = omega (arith, ap length o.0, ap length n.0, ap length s.0);
      read = λ behind. o.2 (NamePart ∷ SignPart 41 ∷ behind) ∙ n.1 (SignPart 41 ∷ behind) ∙ s.1 behind;
    }
