use Rattle.std.proofs.Common.{◌∷◌, ◌++◌, ◌∙◌, [], refl, ap, arith, length}
use Rattle.lang_model.specs.Spelling.{no_let, last_sign}
use Rattle.lang_model.specs.Stop.{MoreLets}
use Rattle.rv_parse.proofs.Blocks.{drop_more_lets, enter_more_lets, drop_lets, enter_lets, lets_first, lets_step_on, lets_all}
use Rattle.rv_parse.proofs.block.lets.Goals as goal

pub lets-init : goal.lets-init
lets-init c =
    let x = c.in_ok-first.first in
    let first = c.in_ok-first.ensures in
    record {
      spelled = λ ls z m. lets_first x _ ls c.args.tokens.now c.in_ok-first.behind.now z (c.in_ok-push.ensures.items ∙ ap (λ xs. xs ++ x ∷ []) c.new-lets.ensures.items) first.spelled m;
      shorter = first.shorter;
      read = λ behind. first.read (MoreLets ∷ behind);
    }

pub returns-in_default-behind_word : goal.returns-in_default-behind_word
returns-in_default-behind_word c =
    let i = c.lets.invariant in
    let sign = c.in-Some.ensures in
    record {
      spelled = lets_all c.lets.lets.items c.args.tokens.now c.lets.rest.now c.in-Some.after.now i.spelled (last_sign c.lets.rest.now c.in-Some.after.now (_, sign));
      shorter = omega (arith, ap length sign, i.shorter);
      read = λ behind. i.read behind ∙ enter_more_lets _ c.lets.rest.now c.in-Some.after.now _ behind sign ∙ drop_lets c.in-Some.after.now _ behind c.in_default-behind_word.ensures;
    }

pub lets-preserved : goal.lets-preserved
lets-preserved c =
    let i = c.lets.invariant in
    let sign = c.in-Some.ensures in
    let word = c.in-Some-behind_word.ensures in
    let next = c.in_ok-next.ensures in
    record {
      spelled = λ ls z m. lets_step_on c.in_ok-next.next c.lets.lets.items _ ls c.args.tokens.now c.lets.rest.now c.in-Some.after.now c.in_ok-next.behind.now z c.in_ok-push-2.ensures.items (_, sign) (next.spelled c.in-Some.after.now (_, word)) i.spelled m;
      shorter = omega (arith, next.shorter, ap length word, ap length sign, i.shorter);
      read = λ behind.
          i.read behind ∙ enter_more_lets _ c.lets.rest.now c.in-Some.after.now _ behind sign ∙ enter_lets _ c.in-Some.after.now c.in-Some-behind_word.behind.now _ behind word ∙ next.read (MoreLets ∷ behind);
    }

pub returns : goal.returns
returns c =
    let i = c.lets.invariant in
    record {
      spelled = lets_all c.lets.lets.items c.args.tokens.now c.lets.rest.now c.lets.rest.now i.spelled (no_let c.lets.rest.now c.lets.rest.now refl);
      shorter = i.shorter;
      read = λ behind. i.read behind ∙ drop_more_lets c.lets.rest.now _ behind c.in_default.ensures;
    }
