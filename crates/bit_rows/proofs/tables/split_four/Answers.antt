use Rattle.bit_rows.proofs.ByTables.{split_below}
use Rattle.bit_rows.proofs.tables.split_four.Goals as goal

pub returns-clause-within : goal.returns-clause-within
returns-clause-within c = split_below c.args.m c.split_first-k.result.0 c.split_first-k.result.1 c.requires.small c.split_first-k.ensures
