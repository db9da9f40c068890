use Rattle.std.proofs.Common.{◌≡◌, ◌∷◌, [], drop, take}
use Rattle.lang_model.specs.Trees.{tree_of}
use Rattle.lang_model.specs.Rewriting.{same_branches}
use Rattle.rv_rewrite.specs.Items.{links_of}
use Rattle.rv_rewrite.specs.Repeated.{without_earlier, operands_behind}
use Rattle.rv_rewrite.proofs.repeats.are_kept.Given as goal

abbrev pub invariant-each : goal.invariant-each
invariant-each l = same_branches (without_earlier (tree_of l.first ∷ []) (links_of l.links)) (links_of l.kept) ≡ same_branches (without_earlier (operands_behind (tree_of l.first ∷ []) (take l.i l.links)) (links_of (drop l.i l.links))) (links_of l.others)
