use Rattle.std.proofs.Common.{◌%◌, refl, sym}
use Rattle.bit_rows.proofs.Clearing.{zero_row}
use Rattle.bit_rows.proofs.ByTables.{entry_none, entry_more}
use Rattle.bit_rows.proofs.tables.entry.Goals as goal

pub returns-then-m-eq0 : goal.returns-then-m-eq0
returns-then-m-eq0 c j = entry_none c.args.rows.now _ _ j _ c.if-m-eq0.true (sym zero_row)

pub returns : goal.returns
returns c = entry_more c.args.rows.now c.args.tables.now c.args.from c.args.e (c.args.e % 16) c.split_four-k.result.0 c.split_four-k.result.1 _ _ _ c.requires.entry_in c.requires.tables_len c.requires.rows_in c.requires.before refl c.split_four-k.ensures.within c.split_four-k.ensures.split c.joined.ensures
