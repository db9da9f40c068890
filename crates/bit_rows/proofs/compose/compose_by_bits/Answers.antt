use Rattle.bit_rows.proofs.Rows.{composed_read, composed_none, composed_all}
use Rattle.bit_rows.proofs.compose.compose_by_bits.Goals as goal

pub rows-init : goal.rows-init
rows-init c = composed_none c.args.z.now c.args.a.now c.args.b.now c.requires.z_len

pub rows-preserved : goal.rows-preserved
rows-preserved c = composed_read c.args.z.now c.args.a.now c.args.b.now c.rows.z c.rows.i c.with_product.result _ _ c.rows-test.true c.requires.a_len c.rows.invariant c.with_product.ensures

pub returns-clause-cells : goal.returns-clause-cells
returns-clause-cells c = composed_all c.args.z.now c.args.a.now c.args.b.now c.rows.z c.rows.i c.requires.z_len c.requires.a_len c.rows-test.false c.rows.invariant
