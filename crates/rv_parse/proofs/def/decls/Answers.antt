use Rattle.std.proofs.Common.{◌∷◌, ◌++◌, [], ◌∙◌, sym, ap, subst, arith, length}
use Rattle.lang_model.specs.Spelling.{SpellsDecls}
use Rattle.lang_model.specs.Stop.{MoreDecls}
use Rattle.rv_parse.proofs.Defs.{drop_decls, enter_decls, decls_step, decls_all}
use Rattle.rv_parse.proofs.def.decls.Goals as goal

pub decls-preserved : goal.decls-preserved
decls-preserved c =
    let i = c.decls.invariant in
    let x = c.in_ok-next.next in
    let next = c.in_ok-next.ensures in
    record {
      first = i.first;
      more = i.more ++ x ∷ [];
      all = c.in_ok-push-2.ensures.items ∙ ap (λ xs. xs ++ x ∷ []) i.all;
      mid = i.mid;
      head = i.head;
      tail = λ ds z s. decls_step x i.more ds i.mid c.decls.rest.now c.in-Some.behind.now c.in_ok-next.behind.now z (_, c.in-Some.ensures) next.spelled i.tail s;
      shorter = omega (arith, next.shorter, ap length c.in-Some.ensures, i.shorter);
      read = λ behind. i.read behind ∙ enter_decls _ c.decls.rest.now c.in-Some.behind.now _ behind c.in-Some.ensures ∙ next.read (MoreDecls ∷ behind);
    }

pub returns : goal.returns
returns c =
    let i = c.decls.invariant in
    record {
      spelled = λ before b. subst (λ xs. SpellsDecls xs before c.decls.rest.now) (sym i.all) (c.args.tokens.now, i.mid, b, i.head, decls_all i.more i.mid c.decls.rest.now i.tail);
      shorter = i.shorter;
      read = λ behind. i.read behind ∙ drop_decls c.decls.rest.now _ behind c.in_default.ensures;
    }
