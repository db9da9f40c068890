use Rattle.std.proofs.Common.{◌∷◌, ◌∙◌, ap, arith, length}
use Rattle.lang_model.specs.Stop.{NumberPart, SignPart, RowsPart}
use Rattle.rv_parse.proofs.rows.relation.Goals as goal

pub returns : goal.returns
returns c =
    let name = c.in_ok-name.ensures.read in
    let m = c.in_ok-sizes.ensures in
    let list = c.in_ok-list.ensures in
    let s = m.spelled in
    let l = list.spelled in
    record {
      spelled = λ before b. (c.in_ok-name.rest.now, s.0, c.in_ok-sizes.rest.now, l.0, l.1, (c.args.tokens.now, b, (_, name.0)), s.1, s.2, l.2, l.3, l.4);
      shorter = omega (arith, ap length name.0, m.shorter, list.shorter);
      read = λ behind. name.1 (NumberPart ∷ NumberPart ∷ SignPart 123 ∷ RowsPart ∷ SignPart 125 ∷ behind) ∙ m.read (SignPart 123 ∷ RowsPart ∷ SignPart 125 ∷ behind) ∙ list.read behind;
    }
