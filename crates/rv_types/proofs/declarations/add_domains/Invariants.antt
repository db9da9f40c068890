use Rattle.std.proofs.Common.{◌≡◌, ◌||◌, ℕ, List, drop}
use Rattle.lang_model.specs.Checking.{among, domains_of}
use Rattle.rv_types.proofs.declarations.add_domains.Given as goal

abbrev pub invariant-each : goal.invariant-each
invariant-each l = (n : List ℕ) → (among (domains_of l.sums l.decls) n || among l.fn.names n) ≡ (among (domains_of l.sums (drop l.decl-index l.decls)) n || among l.names n)
