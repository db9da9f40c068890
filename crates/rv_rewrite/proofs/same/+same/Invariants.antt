use Rattle.std.proofs.Common.{◌≡◌, drop}
use Rattle.lang_model.specs.Rewriting.{same_trees, same_branches}
use Rattle.rv_rewrite.specs.Items.{args_of, links_of}
use Rattle.rv_rewrite.proofs.same.+same.Given as goal

abbrev pub invariant-same_args-each : goal.invariant-same_args-each
invariant-same_args-each l = same_trees (args_of l.a) (args_of l.b) ≡ same_trees (args_of (drop l.arg-index l.a)) (args_of l.others)

abbrev pub invariant-same_links-each : goal.invariant-same_links-each
invariant-same_links-each l = same_branches (links_of l.a) (links_of l.b) ≡ same_branches (links_of (drop l.link-index l.a)) (links_of l.others)
