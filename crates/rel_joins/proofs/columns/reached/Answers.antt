use Rattle.std.proofs.Common.{sym}
use Rattle.bit_rows.proofs.Clearing.{zero_row}
use Rattle.rel_joins.proofs.Uniting.{leads_none}
use Rattle.rel_joins.proofs.columns.reached.Goals as goal

pub pairs-init : goal.pairs-init
pairs-init c = leads_none c.args.rows.now c.args.col _ (sym zero_row)
