use Rattle.std.proofs.Common.{◌*◌}
use Rattle.bit_rows.proofs.Clearing.{HasNone}
use Rattle.bit_rows.proofs.clear.has_none.Given as goal

abbrev pub invariant-bytes : goal.invariant-bytes
invariant-bytes l = HasNone l.r l.col (8 * l.k)
