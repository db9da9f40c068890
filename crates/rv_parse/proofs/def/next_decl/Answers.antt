use Rattle.std.proofs.Common.{◌∷◌, ◌∙◌, ap, arith, length}
use Rattle.lang_model.specs.Stop.{MeaningPart}
use Rattle.rv_parse.proofs.Defs.{enter_meaning}
use Rattle.rv_parse.proofs.def.next_decl.Goals as goal

pub returns-in_ok-decl-in-Some : goal.returns-in_ok-decl-in-Some
returns-in_ok-decl-in-Some c =
    let name = c.in_ok-name.ensures.read in
    let decl = c.in_ok-decl-in-Some.ensures in
    record {
      spelled = decl.spelled c.args.tokens.now c.in_ok-name.rest.now name.0 (_, c.in-Some.ensures);
      shorter = omega (arith, ap length name.0, ap length c.in-Some.ensures, decl.shorter);
      read = λ behind. name.1 (MeaningPart ∷ behind) ∙ enter_meaning _ c.in_ok-name.rest.now c.in-Some.behind.now _ behind c.in-Some.ensures ∙ decl.read behind;
    }
