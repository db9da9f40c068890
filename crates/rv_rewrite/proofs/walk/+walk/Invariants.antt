use Rattle.std.proofs.Common.{drop}
use Rattle.rv_rewrite.proofs.Walked.{ArgsSoFar, LinksSoFar}
use Rattle.rv_rewrite.proofs.walk.+walk.Given as goal

abbrev pub invariant-walk_args-each : goal.invariant-walk_args-each
invariant-walk_args-each l = ArgsSoFar l.kept l.fn.steps.items l.steps.items l.args l.done.items l.all_calm (drop l.arg-index l.args)

abbrev pub invariant-walk_links-each : goal.invariant-walk_links-each
invariant-walk_links-each l = LinksSoFar l.kept l.fn.steps.items l.steps.items l.links l.done.items l.all_calm (drop l.link-index l.links)
