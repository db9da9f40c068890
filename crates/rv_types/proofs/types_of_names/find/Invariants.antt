use Rattle.std.proofs.Common.{◌≡◌, drop}
use Rattle.rv_types.specs.Shaping.{types_of}
use Rattle.rv_types.proofs.types_of_names.find.Given as goal

abbrev pub invariant-each : goal.invariant-each
invariant-each l = types_of l.names l.name ≡ types_of (drop l.pair-index l.names) l.name
