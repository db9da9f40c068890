use Rattle.rel_joins.proofs.Uniting.{column_is}
use Rattle.rel_joins.proofs.columns.one_column.Goals as goal

pub returns : goal.returns
returns c = column_is c.args.k _ c.one_bit.ensures c.one_bit-2.ensures c.one_bit-3.ensures c.one_bit-4.ensures
