use Rattle.std.proofs.Common.{◌≡◌, drop}
use Rattle.lang_model.specs.Rewriting.{all_links}
use Rattle.rv_rewrite.specs.Items.{links_of}
use Rattle.rv_rewrite.proofs.repeats.all_links.Given as goal

abbrev pub invariant-each : goal.invariant-each
invariant-each l = all_links l.op (links_of l.links) ≡ all_links l.op (links_of (drop l.link-index l.links))
