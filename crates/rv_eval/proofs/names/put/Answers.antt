use Rattle.std.proofs.Common.{max, arith, ◌≡◌, ◌≤◌, ◌<◌, ◌∙◌, ◌++◌, ◌∷◌, [], cond, Some, None, true, false, length, get_or, ap, sym, subst}
use Rattle.std.proofs.Math.ListN.{set}
use Rattle.std.proofs.lemmas.List.{take_all}
use Rattle.lang_model.specs.Tokens.{same_text}
use Rattle.rv_eval.specs.Names.{first_of}
use Rattle.rv_eval.specs.Values.{most_named}
use Rattle.rv_eval.proofs.Owing.{most-push, most-set}
use Rattle.rv_eval.proofs.Named.{first_of-push, first_of-none, first_of-set, same_at}
use Rattle.rv_eval.proofs.names.put.Goals as goal

pub returns-then-eq-clause-found : goal.returns-then-eq-clause-found
returns-then-eq-clause-found g c n =
    let ns = c.each.names.items in
    let i = c.each.i in
    let x = c.index.result.now in
    let name = c.args.name.now in
    let h : i < length ns = subst (λ k. i < k) c.each.invariant.1 c.each-test.true in
    let same : same_text (get_or ns i x).0 name ≡ true = ap (λ y. same_text y.0 name) (sym c.index.ensures) ∙ ap (λ y. same_text y name) (sym c.bytes.ensures) ∙ ap (same_text c.bytes.result.now) (sym c.bytes-in-each.ensures) ∙ sym c.if-eq.ensures in
    ap (λ y. first_of (set ns i (y.0, c.args.own)) n) (c.index_mut.ensures.value ∙ same_at ns i c.index_mut.result.now x h) ∙ first_of-set ns i name n c.args.own x h c.each.invariant.0 same
    ∙ ap (λ xs. cond (same_text name n) (Some c.args.own) (first_of xs n)) c.each.invariant.2

pub each-preserved : goal.each-preserved
each-preserved g c =
    let ns = c.each.names.items in
    let i = c.each.i in
    let x = c.index.result.now in
    let name = c.args.name.now in
    let h : i < length ns = subst (λ k. i < k) c.each.invariant.1 c.each-test.true in
    let differs : same_text (get_or ns i x).0 name ≡ false = ap (λ y. same_text y.0 name) (sym c.index.ensures) ∙ ap (λ y. same_text y name) (sym c.bytes.ensures) ∙ ap (same_text c.bytes.result.now) (sym c.bytes-in-each.ensures) ∙ sym c.if-eq.ensures in
    (first_of-none ns i name x h c.each.invariant.0 differs, c.each.invariant.1, c.each.invariant.2)

pub returns-clause-found : goal.returns-clause-found
returns-clause-found g c n =
    let ns = c.each.names.items in
    let all = take_all c.each.i ns (subst (λ k. k ≤ c.each.i) c.each.invariant.1 c.each-test.false) in
    let none : first_of ns c.args.name.now ≡ None = ap (λ xs. first_of xs c.args.name.now) (sym all) ∙ c.each.invariant.0 in
    ap (λ xs. first_of xs n) c.in_ok-push.ensures.items ∙ ap (λ y. first_of (ns ++ (y, c.args.own) ∷ []) n) c.in_ok-copied.ensures ∙ first_of-push ns c.args.name.now n c.args.own none
    ∙ ap (λ xs. cond (same_text c.args.name.now n) (Some c.args.own) (first_of xs n)) c.each.invariant.2

pub returns-then-eq-clause-most : goal.returns-then-eq-clause-most
returns-then-eq-clause-most g c h =
    let ns = c.each.names.items in
    let m : most_named h (set ns c.each.i (c.index_mut.result.now.0, c.args.own)) ≤ max (h c.args.own) (most_named h ns) = most-set (λ n. h n.1) ns c.each.i (c.index_mut.result.now.0, c.args.own) in
    let e = ap (most_named h) c.each.invariant.2 in
    omega (arith, m, e)

pub returns-clause-most : goal.returns-clause-most
returns-clause-most g c h =
    let ns = c.each.names.items in
    let p = ap (most_named h) c.in_ok-push.ensures.items in
    let m : most_named h (ns ++ (c.in_ok-copied.copied, c.args.own) ∷ []) ≤ max (h c.args.own) (most_named h ns) = most-push (λ n. h n.1) ns (c.in_ok-copied.copied, c.args.own) in
    let e = ap (most_named h) c.each.invariant.2 in
    omega (arith, p, m, e)
