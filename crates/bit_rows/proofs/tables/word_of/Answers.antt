use Rattle.std.proofs.Common.{arith}
use Rattle.bit_rows.proofs.ByTables.{word_0, word_1, word_2, word_3}
use Rattle.bit_rows.proofs.tables.word_of.Goals as goal

pub returns-then-q-eq0 : goal.returns-then-q-eq0
returns-then-q-eq0 c = word_0 c.args.row c.args.q (omega arith)

pub returns-then-q-eq1 : goal.returns-then-q-eq1
returns-then-q-eq1 c = word_1 c.args.row c.args.q (omega arith)

pub returns-then-q-eq2 : goal.returns-then-q-eq2
returns-then-q-eq2 c = word_2 c.args.row c.args.q (omega arith)

pub returns : goal.returns
returns c = word_3 c.args.row c.args.q (omega arith)
