use Rattle.std.proofs.Common.{◌≡◌, ◌||◌, ◌&&◌, ℕ, List, take}
use Rattle.lang_model.specs.Checking.{among}
use Rattle.rv_types.proofs.Sets.{texts}
use Rattle.rv_types.proofs.names.Names.add_shared.Given as goal

abbrev pub invariant-each : goal.invariant-each
invariant-each l = (n : List ℕ) → among l.self n ≡ (among l.fn.self n || (among (texts (take l.name-index l.name-items)) n && among l.second n))
