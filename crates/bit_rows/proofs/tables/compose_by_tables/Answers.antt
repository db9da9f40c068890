use Rattle.std.proofs.Common.{arith}
use Rattle.bit_rows.proofs.ByTables.{words_none, words_more, words_all}
use Rattle.bit_rows.proofs.tables.compose_by_tables.Goals as goal

pub words-init : goal.words-init
words-init c = words_none c.args.z.now c.args.a.now c.args.b.now c.no_rows-tables.result c.requires.z_len c.no_rows-tables.ensures.len

pub words-preserved : goal.words-preserved
words-preserved c = words_more c.args.z.now c.args.a.now c.args.b.now c.words.z c.add_word.new.z c.words.tables c.add_word.new.tables c.words.q c.add_word.ensures.len c.add_word.ensures.same_len c.words.invariant c.add_word.ensures.cells

pub returns-clause-cells : goal.returns-clause-cells
returns-clause-cells c = words_all c.args.z.now c.args.a.now c.args.b.now c.words.z c.words.tables c.words.q c.requires.b_len (omega arith) c.words.invariant
