use Rattle.std.proofs.Common.{◌≡◌, drop}
use Rattle.lang_model.specs.Rewriting.{are_calm, are_calm_along}
use Rattle.rv_rewrite.specs.Items.{args_of, links_of}
use Rattle.rv_rewrite.proofs.calm_parts.+calm.Given as goal

abbrev pub invariant-are_calm-each : goal.invariant-are_calm-each
invariant-are_calm-each l = are_calm (args_of l.args) ≡ are_calm (args_of (drop l.arg-index l.args))

abbrev pub invariant-are_calm_along-each : goal.invariant-are_calm_along-each
invariant-are_calm_along-each l = are_calm_along (links_of l.links) ≡ are_calm_along (links_of (drop l.link-index l.links))
