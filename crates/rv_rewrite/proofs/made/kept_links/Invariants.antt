use Rattle.std.proofs.Common.{drop}
use Rattle.lang_model.specs.Trees.{tree_of}
use Rattle.rv_rewrite.proofs.Earlier.{KeptSoFar}
use Rattle.rv_rewrite.proofs.made.kept_links.Given as goal

abbrev pub invariant-each : goal.invariant-each
invariant-each l = KeptSoFar (tree_of l.first) l.links l.kept.items (drop l.link-index l.links)
