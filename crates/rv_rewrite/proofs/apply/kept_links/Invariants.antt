use Rattle.std.specs.Vec.Iter.{into_iter_items}
use Rattle.lang_model.specs.Trees.{tree_of}
use Rattle.rv_rewrite.proofs.Earlier.{KeptSoFar}
use Rattle.rv_rewrite.proofs.apply.kept_links.Given as goal

abbrev pub invariant-each : goal.invariant-each
invariant-each l =
    goal.iterator-each.can_next l.link-iterator × goal.iterator-each.is_finite l.link-iterator
    × KeptSoFar (tree_of l.first) l.fn.links.items l.kept.items (into_iter_items l.link-iterator)
