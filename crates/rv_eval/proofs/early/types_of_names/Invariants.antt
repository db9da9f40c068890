use Rattle.std.proofs.Common.{◌≡◌, map, take}
use Rattle.rv_eval.specs.Names.{typed_pair_of}
use Rattle.rv_eval.proofs.early.types_of_names.Given as goal

abbrev pub invariant-each : goal.invariant-each
invariant-each l = l.types.items ≡ map typed_pair_of (take l.pair-index l.env)
