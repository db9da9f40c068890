use Rattle.bit_rows.proofs.ByTables.{four_of_word}
use Rattle.bit_rows.proofs.tables.four_of.Goals as goal

pub returns : goal.returns
returns c = four_of_word c.args.w c.args.from
