use Rattle.bit_rows.proofs.Clearing.{window_clear}
use Rattle.bit_rows.proofs.clear.is_clear.Goals as goal

pub returns : goal.returns
returns c e = window_clear c.args.z.now c.args.row c.args.col c.args.side c.columns_of-all.result c.columns_of-all.ensures (c.has_none.ensures e)
