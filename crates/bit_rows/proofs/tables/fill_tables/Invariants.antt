use Rattle.bit_rows.proofs.ByTables.{AreFilled}
use Rattle.bit_rows.proofs.tables.fill_tables.Given as goal

abbrev pub invariant-entries : goal.invariant-entries
invariant-entries l = AreFilled l.rows l.from l.tables l.e
