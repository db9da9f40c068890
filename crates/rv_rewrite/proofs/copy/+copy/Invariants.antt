use Rattle.std.proofs.Common.{◌≡◌, drop}
use Rattle.rv_rewrite.specs.Items.{args_of, links_of, args_ahead, links_ahead}
use Rattle.rv_rewrite.proofs.copy.+copy.Given as goal

abbrev pub invariant-copied_args-each : goal.invariant-copied_args-each
invariant-copied_args-each l = args_of l.args ≡ args_ahead l.copies.items (args_of (drop l.arg-index l.args))

abbrev pub invariant-copied_links-each : goal.invariant-copied_links-each
invariant-copied_links-each l = links_of l.links ≡ links_ahead l.copies.items (links_of (drop l.link-index l.links))
