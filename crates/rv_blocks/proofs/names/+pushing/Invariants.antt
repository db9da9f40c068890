use Rattle.std.proofs.Common.{◌≡◌, ◌+◌, ◌*◌, ◌++◌, drop}
use Rattle.lang_model.proofs.Weights.{weight, weight_of_args, weight_of_links}
use Rattle.rv_blocks.specs.Naming.{names_of_args, names_of_links}
use Rattle.rv_blocks.proofs.names.+pushing.Given as goal

abbrev pub decreases-push_args : goal.decreases-push_args
decreases-push_args l = 2 * weight_of_args l.args.now + 1

abbrev pub decreases-push_links : goal.decreases-push_links
decreases-push_links l = 2 * weight_of_links l.links.now + 1

abbrev pub decreases-push_names : goal.decreases-push_names
decreases-push_names l = 2 * weight l.expr.now

abbrev pub invariant-push_args-args-2 : goal.invariant-push_args-args-2
invariant-push_args-args-2 l = l.fn.names.items ++ names_of_args l.args ≡ l.names.items ++ names_of_args (drop l.arg-index l.args)

abbrev pub invariant-push_links-links : goal.invariant-push_links-links
invariant-push_links-links l = l.fn.names.items ++ names_of_links l.links ≡ l.names.items ++ names_of_links (drop l.link-index l.links)
