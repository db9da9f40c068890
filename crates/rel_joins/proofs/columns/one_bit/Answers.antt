use Rattle.std.proofs.Common.{arith}
use Rattle.rel_joins.proofs.Uniting.{bit_is}
use Rattle.rel_joins.proofs.columns.one_bit.Goals as goal

pub returns : goal.returns
returns c j l = bit_is c.args.k c.args.from j (omega (arith, c.if-k-from.false)) (omega (arith, c.if-k-from-ge64.false))
