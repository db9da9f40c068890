use Rattle.std.proofs.Common.{◌≡◌, ◌++◌, length}
use Rattle.name_map.proofs.map.NameMap.into_list.Given as goal

abbrev pub invariant-names : goal.invariant-names
invariant-names g l = l.all.items ++ l.map.entries ≡ l.fn.self

abbrev pub decreases-names : goal.decreases-names
decreases-names g l = length l.map.entries
