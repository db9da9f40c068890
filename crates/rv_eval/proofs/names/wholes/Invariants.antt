use Rattle.std.proofs.Common.{◌≡◌, map, take}
use Rattle.rv_eval.specs.Values.{whole_pair_of}
use Rattle.rv_eval.proofs.names.wholes.Given as goal

abbrev pub invariant-each : goal.invariant-each
invariant-each l = l.values.items ≡ map whole_pair_of (take l.pair-index l.names)
