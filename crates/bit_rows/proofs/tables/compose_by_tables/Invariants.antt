use Rattle.bit_rows.proofs.ByTables.{AreWordsAdded}
use Rattle.bit_rows.proofs.tables.compose_by_tables.Given as goal

abbrev pub invariant-words : goal.invariant-words
invariant-words l = AreWordsAdded l.fn.z l.a l.b l.z l.tables l.q
