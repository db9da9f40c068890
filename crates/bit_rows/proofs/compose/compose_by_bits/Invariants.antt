use Rattle.bit_rows.proofs.Rows.{AreComposed}
use Rattle.bit_rows.proofs.compose.compose_by_bits.Given as goal

abbrev pub invariant-rows : goal.invariant-rows
invariant-rows l = AreComposed l.fn.z l.a l.b l.z l.i
