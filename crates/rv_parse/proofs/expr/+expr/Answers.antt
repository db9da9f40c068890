use Rattle.std.proofs.Common.{◌<◌, ◌+◌, ◌-◌, ◌∷◌, ◌++◌, [], ◌∙◌, length, sym, ap, subst, add-one, suc, arith, length-append}
use Rattle.std.proofs.lemmas.Bool.{eqb-true, eqb-false}
use Rattle.std.proofs.lemmas.Result.{err_from_is_err_and}
use Rattle.lang_model.specs.declared.syntax.Expr.{Expr}
use Rattle.lang_model.specs.Spelling.{OrLevel, Spelled, named, called, based, based_twice, paired, enclosed, chained, Linked}
use Rattle.lang_model.specs.Stop.{ExprPart, SignPart, MoreLinks}
use Rattle.rv_parse.specs.Readers.{level_of}
use Rattle.rv_parse.proofs.Optional.{enter_call, drop_call, drop_args, drop_links}
use Rattle.rv_parse.proofs.Exprs.{chain_enters, post_plain, post_turned, post_no_prim, unary_minus, unary_no_operand, unary_by_post, chain_no_first, linked_step, linked_all, chain_no_links, listed_step, args_step, listed_all, args_full}
use Rattle.rv_parse.proofs.expr.+expr.Goals as goal

pub arguments-returns-in_default : goal.arguments-returns-in_default
arguments-returns-in_default t c =
    let i = c.more.invariant in
    let d = suc c.args.depth in
    record {
      first = i.first;
      more = i.more;
      all = i.all;
      mid = i.mid;
      head = i.head;
      tail = listed_all d i.more i.mid c.more.rest.now i.tail;
      shorter = i.shorter;
      read = λ behind. i.read behind ∙ drop_args (15 - length i.more) d c.more.rest.now _ behind c.in_default.ensures;
    }

pub arguments-more-preserved : goal.arguments-more-preserved
arguments-more-preserved t c =
    let i = c.more.invariant in
    let d = suc c.args.depth in
    let x = c.in_ok-next.next in
    let next = c.in_ok-next.ensures in
    let room : length i.more < 15 = omega (arith, c.more-test.true, c.len.ensures, ap (length {A = Expr}) i.all) in
    record {
      first = i.first;
      more = i.more ++ x ∷ [];
      all = c.in_ok-push-2.ensures.items ∙ ap (λ xs. xs ++ x ∷ []) i.all;
      mid = i.mid;
      head = i.head;
      few = omega (arith, room, length-append i.more (x ∷ []));
      tail = λ es rest s. listed_step d x i.more es i.mid c.more.rest.now c.in-Some.behind.now c.in_ok-next.behind.now rest room (_, c.in-Some.ensures) next.spelled i.tail s;
      shorter = omega (arith, next.shorter, ap length c.in-Some.ensures, i.shorter);
      read = λ behind. i.read behind ∙ args_step d x i.more _ c.more.rest.now c.in-Some.behind.now c.in_ok-next.behind.now _ behind room c.in-Some.ensures next;
    }

pub arguments-returns : goal.arguments-returns
arguments-returns t c =
    let i = c.more.invariant in
    let d = suc c.args.depth in
    record {
      first = i.first;
      more = i.more;
      all = i.all;
      mid = i.mid;
      head = i.head;
      tail = listed_all d i.more i.mid c.more.rest.now i.tail;
      shorter = i.shorter;
      read = λ behind. i.read behind ∙ args_full d (15 - length i.more) c.more.rest.now _ behind (omega (arith, c.more-test.false, c.len.ensures, ap (length {A = Expr}) i.all));
    }

pub chain-returns-in_err-first : goal.chain-returns-in_err-first
chain-returns-in_err-first t c =
    let p = err_from_is_err_and c.from_residual.result c.from_residual.ensures.1 in
    rw (p.1, p.2) (chain_no_first _ c.args.level c.args.depth c.args.tokens.now c.in_err-first.field-0.0 c.in_err-first.ensures)

pub chain-links-init : goal.chain-links-init
chain-links-init t c =
    let l = level_of c.args.level in
    let first = c.in_ok-first.ensures in
    record {
      first = first.spelled;
      spelled = λ xs rest s. subst (λ ys. Linked l c.args.depth (ys ++ xs) c.in_ok-first.behind.now rest) (sym c.new-links.ensures.items) s;
      shorter = first.shorter;
      read = λ behind. chain_enters c.args.level c.args.depth c.args.tokens.now _ behind ∙ first.read (MoreLinks l c.args.depth ∷ behind);
    }

pub chain-links-preserved : goal.chain-links-preserved
chain-links-preserved t c =
    let l = level_of c.args.level in
    let d = c.args.depth in
    let right = c.in_ok-right.ensures in
    record {
      first = c.links.invariant.first;
      spelled = λ xs rest s. linked_step l d (record { at = c.in-Some.at; op = c.in-Some.op; right = c.in_ok-right.right }) c.links.links.items _ xs c.in_ok-first.behind.now c.links.rest.now c.in-Some.behind.now c.in_ok-right.behind.now rest c.in_ok-push.ensures.items c.in-Some.ensures right.spelled c.links.invariant.spelled s;
      shorter = omega (arith, right.shorter, ap length c.in-Some.ensures.takes, c.links.invariant.shorter);
      read = λ behind. c.links.invariant.read behind ∙ c.in-Some.ensures.entered _ d behind ∙ right.read (MoreLinks l d ∷ behind);
    }

pub chain-returns-then-is_empty : goal.chain-returns-then-is_empty
chain-returns-then-is_empty t c =
    let l = level_of c.args.level in
    let d = c.args.depth in
    let start = c.in_ok-first.behind.now in
    record {
      spelled = chain_no_links l d _ c.links.links.items c.args.tokens.now start c.links.rest.now (omega (arith, c.links.links.ok.0, eqb-true _ 0 (sym c.is_empty.ensures ∙ c.if-is_empty.true))) c.links.invariant.first (linked_all l d c.links.links.items start c.links.rest.now c.links.invariant.spelled);
      shorter = c.links.invariant.shorter;
      read = λ behind. c.links.invariant.read behind ∙ drop_links l d c.links.rest.now _ behind c.in_default.ensures;
    }

pub chain-returns : goal.chain-returns
chain-returns t c =
    let l = level_of c.args.level in
    let d = c.args.depth in
    let start = c.in_ok-first.behind.now in
    record {
      spelled = chained l d c.in_ok-first-2.first c.links.links c.args.tokens.now start c.links.rest.now (rw c.in_ok-first-2.ensures.ok c.links.invariant.first) (omega (arith, c.links.links.ok.0, eqb-false _ 0 (sym c.is_empty.ensures ∙ c.if-is_empty.false))) (linked_all l d c.links.links.items start c.links.rest.now c.links.invariant.spelled);
      shorter = c.links.invariant.shorter;
      read = λ behind. c.links.invariant.read behind ∙ drop_links l d c.links.rest.now _ behind c.in_default.ensures;
    }

pub inner_and_sign-returns : goal.inner_and_sign-returns
inner_and_sign-returns t c =
    let x = c.in_ok-expr.ensures in
    let s = c.in_ok-expr-2.ensures in
    record {
      spelled = (c.in_ok-expr.rest.now, subst (λ e. Spelled OrLevel (suc c.args.depth) e c.args.tokens.now c.in_ok-expr.rest.now) (sym s.0) x.spelled, s.1);
      shorter = omega (arith, x.shorter, ap length s.1.1);
      read = λ behind. x.read (SignPart c.args.byte ∷ behind) ∙ s.2 behind;
    }

pub enclosed-returns : goal.enclosed-returns
enclosed-returns t c =
    let x = c.in_ok-expr.ensures in
    let s = x.spelled in
    record {
      spelled = λ before b. enclosed c.args.depth c.in_ok-expr.expr before c.args.tokens.now s.0 c.in_ok-expr.rest.now c.requires.depth (_, b) s.1 s.2;
      shorter = x.shorter;
      read = x.read;
    }

pub named-returns-in_ok-rest-in-Some : goal.named-returns-in_ok-rest-in-Some
named-returns-in_ok-rest-in-Some t c =
    let a = c.in_ok-args-in-Some.ensures in
    let s = c.in_ok-rest-in-Some.ensures.read in
    let d = c.args.depth in
    let few : d < 40 = omega arith in
    record {
      spelled = λ before b. called d c.args.at _ c.in_ok-args-in-Some.args a.first a.more before c.args.tokens.now c.in-Some.behind.now a.mid c.in_ok-args-in-Some.rest.now c.in_ok-rest-in-Some.rest.now few a.all (rw c.in_ok-name.ensures b) (_, c.in-Some.ensures) a.head a.tail (_, s.0);
      shorter = omega (arith, ap length c.in-Some.ensures, a.shorter, ap length s.0);
      read = λ behind. enter_call d _ c.args.tokens.now c.in-Some.behind.now _ behind c.in-Some.ensures few ∙ a.read (SignPart 41 ∷ behind) ∙ s.1 behind;
    }

pub named-returns-in-None : goal.named-returns-in-None
named-returns-in-None t c = record {
  spelled = λ before b. named c.args.depth c.args.at _ before c.args.tokens.now (rw c.in_ok-name.ensures b);
  shorter = omega arith;
  read = λ behind. drop_call c.args.depth c.args.tokens.now _ behind c.in-None.ensures;
}

pub inner_pair-returns : goal.inner_pair-returns
inner_pair-returns t c =
    let d = c.args.depth in
    let x = c.in_ok-left.ensures in
    let y = c.in_ok-right.ensures in
    let l = x.spelled in
    let r = y.spelled in
    record {
      spelled = (l.0, c.in_ok-left.rest.now, r.0, l.1, l.2, r.1, r.2);
      shorter = omega (arith, x.shorter, y.shorter);
      read = λ behind. x.read (ExprPart OrLevel (suc d) ∷ SignPart c.args.byte ∷ behind) ∙ y.read behind;
    }

pub pair-returns : goal.pair-returns
pair-returns t c =
    let d = c.args.depth in
    let x = c.in_ok-left.ensures in
    let s = x.spelled in
    let boxed = c.in_ok-left-2.ensures in
    let left = subst (λ e. Spelled OrLevel (suc d) e c.args.tokens.now s.0) (sym boxed.0) s.3 in
    let right = subst (λ e. Spelled OrLevel (suc d) e s.1 s.2) (sym boxed.1) s.5 in
    record {
      spelled = λ before b. paired d c.args.at c.in_ok-left-2.left c.in_ok-left-2.right before c.args.tokens.now s.0 s.1 s.2 c.in_ok-left.rest.now c.requires.depth b left s.4 right s.6;
      shorter = x.shorter;
      read = x.read;
    }

pub post-returns-in_err-of : goal.post-returns-in_err-of
post-returns-in_err-of t c =
    let p = err_from_is_err_and c.from_residual.result c.from_residual.ensures.1 in
    rw (p.1, p.2) (post_no_prim _ c.args.depth c.args.tokens.now c.in_err-of.field-0.0 c.in_err-of.ensures)

pub post-returns-in_ok-of-in-Some : goal.post-returns-in_ok-of-in-Some
post-returns-in_ok-of-in-Some t c =
    post_turned _ c.args.depth c.carets-more.result.0 c.in-Some.at c.in_ok-of-in-Some.of c.args.tokens.now c.in_ok-of.rest.now c.in-Some.behind.now c.carets-more.result.1.now (rw c.in_ok-of-in-Some.ensures.ok c.in_ok-of.ensures) c.in-Some.ensures c.carets-more.ensures.spelled c.carets-more.ensures.count (c.carets-more.ensures.read _)

pub post-returns-in-None : goal.post-returns-in-None
post-returns-in-None t c = post_plain _ c.args.depth c.in_ok-of.of c.args.tokens.now c.in_ok-of.rest.now c.in_ok-of.ensures c.in-None.ensures

pub unary-returns-in_err-of-in-Some : goal.unary-returns-in_err-of-in-Some
unary-returns-in_err-of-in-Some t c =
    let p = err_from_is_err_and c.from_residual.result c.from_residual.ensures.1 in
    rw (p.1, p.2) (unary_no_operand _ c.args.depth (c.args.depth + 1) c.in-Some.at c.args.tokens.now c.in-Some.behind.now c.in_err-of-in-Some.field-0.0 (add-one c.args.depth) (omega arith) c.in-Some.ensures c.in_err-of-in-Some.ensures)

pub unary-returns-in_ok-of-in-Some-2 : goal.unary-returns-in_ok-of-in-Some-2
unary-returns-in_ok-of-in-Some-2 t c =
    unary_minus _ c.args.depth (c.args.depth + 1) c.in-Some.at c.in_ok-of-in-Some-2.of c.args.tokens.now c.in-Some.behind.now c.in_ok-of-in-Some.rest.now (add-one c.args.depth) (omega arith) c.in-Some.ensures (rw c.in_ok-of-in-Some-2.ensures.ok c.in_ok-of-in-Some.ensures)

pub unary-returns-in-None : goal.unary-returns-in-None
unary-returns-in-None t c = unary_by_post _ c.args.depth c.args.tokens.now c.post.result c.in-None.ensures c.post.ensures

pub with_one-returns : goal.with_one-returns
with_one-returns t c =
    let o = c.in_ok-rest.ensures.read in
    let x = c.in_ok-argument.ensures in
    let s = x.spelled in
    record {
      spelled = λ before b. based c.args.depth c.args.at c.args.base c.in_ok-args.args c.in_ok-argument.argument before c.args.tokens.now c.in_ok-rest.rest.now s.0 c.in_ok-argument.rest.now o.1 c.requires.form c.in_ok-args.ensures b (_, o.0) s.1 s.2;
      shorter = omega (arith, ap length o.0, x.shorter);
      read = λ behind. o.2 (ExprPart OrLevel (suc c.args.depth) ∷ SignPart 41 ∷ behind) ∙ x.read behind;
    }

pub with_two-returns : goal.with_two-returns
with_two-returns t c =
    let d = c.args.depth in
    let o = c.in_ok-rest.ensures.read in
    let x = c.in_ok-first.ensures in
    let s = x.spelled in
    record {
      spelled = λ before b. based_twice d c.args.at c.args.base c.in_ok-args.args c.in_ok-first.first c.in_ok-first.second before c.args.tokens.now c.in_ok-rest.rest.now s.0 s.1 s.2 c.in_ok-first.rest.now o.1 c.requires.form c.in_ok-args.ensures b (_, o.0) s.3 s.4 s.5 s.6;
      shorter = omega (arith, ap length o.0, x.shorter);
      read = λ behind. o.2 (ExprPart OrLevel (suc d) ∷ SignPart 44 ∷ ExprPart OrLevel (suc d) ∷ SignPart 41 ∷ behind) ∙ x.read behind;
    }
