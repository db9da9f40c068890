use Rattle.std.proofs.Common.{◌≡◌, take}
use Rattle.rv_types.specs.Shaping.{beside}
use Rattle.rv_types.proofs.types_of_names.bind.Given as goal

abbrev pub invariant-each : goal.invariant-each
invariant-each l = l.names.items ≡ beside (take l.i l.params) (take l.i l.given)
