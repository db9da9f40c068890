use Rattle.std.proofs.Common.{◌≡◌, drop}
use Rattle.lang_model.specs.Trees.{tree_of}
use Rattle.rv_rewrite.specs.Repeated.{is_among}
use Rattle.rv_rewrite.proofs.repeats.is_among.Given as goal

abbrev pub invariant-each : goal.invariant-each
invariant-each l = is_among (tree_of l.first) l.links (tree_of l.right) ≡ is_among (tree_of l.first) (drop l.link-index l.links) (tree_of l.right)
