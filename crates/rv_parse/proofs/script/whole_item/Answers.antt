use Rattle.std.proofs.Common.{◌∷◌, [], ◌∙◌, sym, ap, subst, arith, length}
use Rattle.lang_model.specs.Spelling.{SpellsItem}
use Rattle.lang_model.specs.Stop.{ItemsPart}
use Rattle.rv_parse.proofs.script.whole_item.Goals as goal

pub returns : goal.returns
returns c =
    let item = c.in_ok-item.ensures in
    let stop = c.in_ok-item-2.ensures in
    record {
      mid = c.in_ok-item.rest.now;
      spelled = subst (λ x. SpellsItem x c.args.tokens.now c.in_ok-item.rest.now) (sym stop.0) item.spelled;
      stop = stop.1;
      shorter = omega (arith, item.shorter, ap length stop.1.1);
      read = item.read ∙ stop.2 (ItemsPart ∷ []);
    }
