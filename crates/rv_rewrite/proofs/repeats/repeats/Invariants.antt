use Rattle.std.proofs.Common.{◌≡◌, ◌∷◌, [], drop, take}
use Rattle.lang_model.specs.Trees.{tree_of}
use Rattle.rv_rewrite.specs.Items.{links_of}
use Rattle.rv_rewrite.specs.Repeated.{repeats, operands_behind}
use Rattle.rv_rewrite.proofs.repeats.repeats.Given as goal

abbrev pub invariant-each : goal.invariant-each
invariant-each l = repeats (tree_of l.first ∷ []) (links_of l.links) ≡ repeats (operands_behind (tree_of l.first ∷ []) (take l.i l.links)) (links_of (drop l.i l.links))
