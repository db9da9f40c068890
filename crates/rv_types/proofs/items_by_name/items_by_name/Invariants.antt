use Rattle.std.proofs.Common.{◌≡◌, ℕ, List, drop}
use Rattle.std.specs.List.{position_from}
use Rattle.std.specs.Option.{option_or}
use Rattle.lang_model.specs.Defining.{defines}
use Rattle.rv_types.specs.Defining.{number_beside}
use Rattle.rv_types.proofs.items_by_name.items_by_name.Given as goal

abbrev pub invariant-each : goal.invariant-each
invariant-each l = (n : List ℕ) → position_from (defines n) 0 l.items ≡ option_or (number_beside l.by_name n) (position_from (defines n) l.number (drop l.number l.items))
