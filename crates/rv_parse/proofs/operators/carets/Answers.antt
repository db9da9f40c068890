use Rattle.std.proofs.Common.{◌∙◌, ap, subst, sym, arith, add-one, length}
use Rattle.lang_model.specs.Taken.{Carets}
use Rattle.rv_parse.proofs.Spelling.{carets_push}
use Rattle.rv_parse.proofs.Optional.{enter_carets}
use Rattle.rv_parse.proofs.operators.carets.Goals as goal

pub carets-preserved : goal.carets-preserved
carets-preserved c = record {
  spelled = subst (λ n. Carets n c.args.tokens.now c.in-Some.behind.now) (sym (add-one c.carets.count)) (carets_push c.carets.count c.args.tokens.now c.carets.rest.now c.in-Some.behind.now c.carets.invariant.spelled (_, c.in-Some.ensures));
  counted = omega (arith, ap length c.in-Some.ensures, c.carets.invariant.counted);
  read = λ e behind. c.carets.invariant.read e behind ∙ enter_carets _ c.carets.rest.now c.in-Some.behind.now e behind c.in-Some.ensures;
}
