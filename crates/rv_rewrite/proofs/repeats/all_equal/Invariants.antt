use Rattle.std.proofs.Common.{◌≡◌, drop}
use Rattle.lang_model.specs.Trees.{tree_of}
use Rattle.rv_rewrite.specs.Items.{links_of}
use Rattle.rv_rewrite.specs.Repeated.{all_equal}
use Rattle.rv_rewrite.proofs.repeats.all_equal.Given as goal

abbrev pub invariant-each : goal.invariant-each
invariant-each l = all_equal (tree_of l.first) (links_of l.links) ≡ all_equal (tree_of l.first) (links_of (drop l.link-index l.links))
