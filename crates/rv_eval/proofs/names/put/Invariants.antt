use Rattle.std.proofs.Common.{◌≡◌, None, take, length}
use Rattle.rv_eval.specs.Names.{first_of}
use Rattle.rv_eval.proofs.names.put.Given as goal

abbrev pub invariant-each : goal.invariant-each
invariant-each g l = (first_of (take l.i l.names.items) l.name ≡ None) × (l.count ≡ length l.names.items) × (l.names.items ≡ l.fn.names.items)
