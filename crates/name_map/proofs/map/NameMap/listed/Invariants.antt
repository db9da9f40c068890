use Rattle.std.proofs.Common.{◌≡◌, ◌++◌}
use Rattle.name_map.proofs.map.NameMap.listed.Given as goal

abbrev pub invariant-names : goal.invariant-names
invariant-names g l = l.all.items ++ l.name-iterator ≡ l.self
