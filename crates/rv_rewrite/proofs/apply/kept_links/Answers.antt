use Rattle.std.proofs.Common.{◌≡◌, [], sym, subst, arith}
use Rattle.std.proofs.lemmas.Grind.{common_steps}
use Rattle.std.specs.Vec.Iter.{into_iter_items}
use Rattle.lang_model.specs.Trees.{tree_of}
use Rattle.rv_rewrite.proofs.Earlier.{KeptSoFar, kept_one, kept_all}
use Rattle.rv_rewrite.proofs.apply.kept_links.Goals as goal

pub each-preserved : goal.each-preserved
each-preserved c =
    let f = tree_of c.args.first.now in
    let more = into_iter_items c.next.new.self in (
      tt,
      tt,
      subst (λ z. KeptSoFar f c.args.links.items z more) (sym c.in_ok-keep.ensures)
          (kept_one f c.args.links.items c.each.kept.items (into_iter_items c.each.link-iterator) c.in-Some.link more c.in-Some.ensures.steps.0 c.each.invariant.2),
    )

pub returns : goal.returns
returns c =
    let short = c.in-None.ensures.steps.0 in
    let none : into_iter_items c.each.link-iterator ≡ [] = grind (arith, common_steps, short) in
    kept_all (tree_of c.args.first.now) c.args.links.items c.each.kept.items (into_iter_items c.each.link-iterator) none c.each.invariant.2
