use Rattle.std.proofs.Common.{◌≡◌, ◌+◌, ◌*◌, drop}
use Rattle.rv_eval.specs.Names.{sized}
use Rattle.rv_eval.specs.Lacking.{missing_of_args, missing_of_links}
use Rattle.lang_model.proofs.Weights.{weight, weight_of_args, weight_of_links}
use Rattle.rv_eval.proofs.missing.+looking.Given as goal

abbrev pub decreases-first_missing : goal.decreases-first_missing
decreases-first_missing l = 2 * weight l.expr.now

abbrev pub decreases-first_of_args : goal.decreases-first_of_args
decreases-first_of_args l = 2 * weight_of_args l.args.now + 1

abbrev pub decreases-first_of_links : goal.decreases-first_of_links
decreases-first_of_links l = 2 * weight_of_links l.links.now + 1

abbrev pub invariant-first_of_args-args-2 : goal.invariant-first_of_args-args-2
invariant-first_of_args-args-2 l = missing_of_args (sized l.names) l.args ≡ missing_of_args (sized l.names) (drop l.arg-index l.args)

abbrev pub invariant-first_of_links-links : goal.invariant-first_of_links-links
invariant-first_of_links-links l = missing_of_links (sized l.names) l.links ≡ missing_of_links (sized l.names) (drop l.link-index l.links)
