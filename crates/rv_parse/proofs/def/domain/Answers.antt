use Rattle.std.proofs.Common.{◌∷◌, ◌∙◌, ap, arith, length}
use Rattle.lang_model.specs.Stop.{SignPart, NamePart}
use Rattle.rv_parse.proofs.def.domain.Goals as goal

pub returns : goal.returns
returns c =
    let o = c.in_ok-sum.ensures in
    let left = c.in_ok-left.ensures in
    let right = c.in_ok-right.ensures in
    let l = left.spelled in
    let r = right.spelled in
    record {
      spelled = λ before mid name equals. (mid, c.args.tokens.now, o.0, c.in_ok-sum.rest.now, l.0, c.in_ok-left.rest.now, r.0, name, equals, o.1, o.2, l.1, l.2, r.1, r.2);
      shorter = omega (arith, ap length o.1.1, ap length o.2.1, left.shorter, right.shorter);
      read = λ behind. o.3 behind ∙ left.read (NamePart ∷ SignPart 41 ∷ behind) ∙ right.read behind;
    }
