use Rattle.std.proofs.Common.{arith}
use Rattle.bit_rows.proofs.Clearing.{none_more}
use Rattle.bit_rows.proofs.clear.has_none.Goals as goal

pub bytes-init : goal.bytes-init
bytes-init c j h = absurd (omega arith)

pub bytes-preserved : goal.bytes-preserved
bytes-preserved c = none_more c.args.r c.args.col c.bytes.k c.byte_at.result c.if-byte_at-ne0.false c.byte_at.ensures c.bytes.invariant
