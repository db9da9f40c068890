use Rattle.std.proofs.Common.{◌≡◌, ◌++◌, drop}
use Rattle.rv_spell.specs.Printed.{printed_more_args, printed_all_args, printed_all_links}
use Rattle.rv_spell.proofs.print.+print.Given as goal

abbrev pub invariant-write_args-more : goal.invariant-write_args-more
invariant-write_args-more l = l.fn.text.items ++ printed_all_args l.args ≡ l.text.items ++ printed_more_args (drop l.arg-index l.rest)

abbrev pub invariant-write_links-links : goal.invariant-write_links-links
invariant-write_links-links l = l.fn.text.items ++ printed_all_links l.loose l.links ≡ l.text.items ++ printed_all_links l.loose (drop l.link-index l.links)
