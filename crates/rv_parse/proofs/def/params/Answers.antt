use Rattle.std.proofs.Common.{◌≡◌, ◌<◌, ◌-◌, ◌∷◌, ◌++◌, [], ◌∙◌, ℕ, List, length, sym, ap, subst, suc, arith, length-append}
use Rattle.std.proofs.lemmas.Result.{err_from_is_err_and}
use Rattle.lang_model.specs.Spelling.{SpellsParams}
use Rattle.lang_model.specs.Stop.{MoreParams, stop_of}
use Rattle.rv_tokens.specs.Endings.{ending_of}
use Rattle.rv_parse.proofs.Defs.{enter_params, drop_params, params_full, names_step, params_step, names_all}
use Rattle.rv_parse.proofs.def.params.Goals as goal

pub returns-in_default : goal.returns-in_default
returns-in_default c =
    let i = c.more.invariant in
    record {
      spelled = subst (λ xs. SpellsParams xs c.args.tokens.now c.more.rest.now) (sym i.all) (i.mid, i.head, i.few, names_all i.more i.mid c.more.rest.now i.tail);
      shorter = i.shorter;
      read = λ behind. i.read behind ∙ drop_params (15 - length i.more) c.more.rest.now _ behind c.in_default.ensures;
    }

pub returns-in_err-next : goal.returns-in_err-next
returns-in_err-next c =
    let p = err_from_is_err_and c.from_residual-in_err-next.result c.from_residual-in_err-next.ensures.1 in
    let i = c.more.invariant in
    let left : 15 - length i.more ≡ suc (14 - length i.more) = omega (arith, c.more-test.true, c.len.ensures, ap (length {A = List ℕ}) i.all) in
    rw (p.1, p.2) (λ n behind. i.read behind ∙ ap (λ k. stop_of (MoreParams k ∷ behind) c.more.rest.now (ending_of c.args.end)) left
    ∙ enter_params (14 - length i.more) _ c.more.rest.now c.in-Some.behind.now _ behind c.in-Some.ensures ∙ c.in_err-next.ensures.read n (MoreParams (14 - length i.more) ∷ behind))

pub more-preserved : goal.more-preserved
more-preserved c =
    let i = c.more.invariant in
    let x = c.in_ok-next.next in
    let next = c.in_ok-next.ensures.read in
    let room : length i.more < 15 = omega (arith, c.more-test.true, c.len.ensures, ap (length {A = List ℕ}) i.all) in
    record {
      first = i.first;
      more = i.more ++ x ∷ [];
      all = c.in_ok-push-2.ensures.items ∙ ap (λ xs. xs ++ x ∷ []) i.all;
      mid = i.mid;
      head = i.head;
      few = omega (arith, room, length-append i.more (x ∷ []));
      tail = λ ns z s. names_step x i.more ns i.mid c.more.rest.now c.in-Some.behind.now c.in_ok-next.behind.now z (_, c.in-Some.ensures) (_, next.0) i.tail s;
      shorter = omega (arith, ap length next.0, ap length c.in-Some.ensures, i.shorter);
      read = λ behind. i.read behind ∙ params_step x i.more _ c.more.rest.now c.in-Some.behind.now c.in_ok-next.behind.now _ behind room c.in-Some.ensures next.1;
    }

pub returns : goal.returns
returns c =
    let i = c.more.invariant in
    record {
      spelled = subst (λ xs. SpellsParams xs c.args.tokens.now c.more.rest.now) (sym i.all) (i.mid, i.head, i.few, names_all i.more i.mid c.more.rest.now i.tail);
      shorter = i.shorter;
      read = λ behind. i.read behind ∙ params_full (15 - length i.more) c.more.rest.now _ behind (omega (arith, c.more-test.false, c.len.ensures, ap (length {A = List ℕ}) i.all));
    }
