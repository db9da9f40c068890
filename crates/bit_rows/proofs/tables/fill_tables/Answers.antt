use Rattle.bit_rows.proofs.ByTables.{filled_none, filled_more, filled_all}
use Rattle.bit_rows.proofs.tables.fill_tables.Goals as goal

pub entries-init : goal.entries-init
entries-init c = filled_none c.args.rows.now c.args.from c.args.tables.now c.requires.tables_len

pub entries-preserved : goal.entries-preserved
entries-preserved c = filled_more c.args.rows.now c.args.from c.entries.tables c.entries.e c.entry.result c.entries-test.true c.entries.invariant c.entry.ensures

pub returns-clause-entries : goal.returns-clause-entries
returns-clause-entries c = filled_all c.args.rows.now c.args.from c.entries.tables c.entries.e c.entries-test.false c.entries.invariant
