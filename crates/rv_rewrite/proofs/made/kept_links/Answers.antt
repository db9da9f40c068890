use Rattle.std.proofs.Common.{◌∙◌, ◌+◌, ◌∷◌, drop, arith, sym, ap}
use Rattle.std.proofs.lemmas.List.{drop_more, drop_all}
use Rattle.lang_model.specs.Trees.{tree_of}
use Rattle.rv_rewrite.proofs.Earlier.{kept_copied, kept_all}
use Rattle.rv_rewrite.proofs.made.kept_links.Goals as goal

pub each-preserved : goal.each-preserved
each-preserved c =
    let all = c.args.links.now in
    let i = c.each.link-index in
    let x = c.link-item.result in
    kept_copied (tree_of c.args.first.now) all c.each.kept.items c.keep.new.kept.items i x
    (drop_more all i x (omega arith) ∙ ap (λ z. z ∷ drop (i + 1) all) (sym c.link-item.is))
    c.in_ok-keep.ensures c.each.invariant

pub returns : goal.returns
returns c =
    let all = c.args.links.now in
    let i = c.each.link-index in
    kept_all (tree_of c.args.first.now) all c.each.kept.items _ (drop_all i all (omega arith)) c.each.invariant
