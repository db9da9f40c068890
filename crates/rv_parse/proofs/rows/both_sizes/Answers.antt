use Rattle.std.proofs.Common.{◌∷◌, ◌∙◌, ap, arith, length}
use Rattle.lang_model.specs.Stop.{NumberPart}
use Rattle.rv_parse.proofs.rows.both_sizes.Goals as goal

pub returns : goal.returns
returns c =
    let m = c.in_ok-rows.ensures.read in
    let n = c.in_ok-cols.ensures.read in
    record {
      spelled = (c.in_ok-rows.rest.now, m.0, n.0);
      shorter = omega (arith, ap length m.0, ap length n.0);
      read = λ behind. m.1 (NumberPart ∷ behind) ∙ n.1 behind;
    }
