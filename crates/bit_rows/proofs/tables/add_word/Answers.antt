use Rattle.std.proofs.Common.{◌*◌}
use Rattle.bit_rows.proofs.ByTables.{word_none, word_more, word_all}
use Rattle.bit_rows.proofs.tables.add_word.Goals as goal

pub rows-init : goal.rows-init
rows-init c = word_none c.args.z.now c.args.a.now c.args.b.now c.args.q c.requires.z_len

pub rows-preserved : goal.rows-preserved
rows-preserved c = word_more c.args.z.now c.args.a.now c.args.b.now c.args.q c.rows.z c.rows.i c.word_of.result c.with_looked_up.result _ _ c.rows-test.true c.requires.a_len c.rows.invariant c.word_of.ensures (c.with_looked_up.ensures c.args.b.now (64 * c.args.q) c.fill_tables.ensures.entries)

pub returns-clause-cells : goal.returns-clause-cells
returns-clause-cells c = word_all c.args.z.now c.args.a.now c.args.b.now c.args.q c.rows.z c.rows.i c.requires.z_len c.requires.a_len c.rows-test.false c.rows.invariant
