use Rattle.std.proofs.Common.{◌≡◌, drop}
use Rattle.lang_model.specs.Mean.{domain_named}
use Rattle.rv_types.proofs.typing_steps.find_domain.Given as goal

abbrev pub invariant-each : goal.invariant-each
invariant-each l = domain_named l.decls l.domain ≡ domain_named (drop l.decl-index l.decls) l.domain
