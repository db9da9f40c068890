use Rattle.bit_rows.proofs.ByTables.{AreWordAdded}
use Rattle.bit_rows.proofs.tables.add_word.Given as goal

abbrev pub invariant-rows : goal.invariant-rows
invariant-rows l = AreWordAdded l.fn.z l.a l.b l.q l.z l.i
