use Rattle.std.proofs.Common.{◌*◌, arith, refl}
use Rattle.bit_rows.specs.Rows.{row_has}
use Rattle.bit_rows.proofs.ByTables.{looked_none, looked_more, looked_all}
use Rattle.bit_rows.proofs.tables.with_looked_up.Goals as goal

pub groups-init : goal.groups-init
groups-init c rows from t j = looked_none rows from c.args.word j _ (row_has c.args.sum j) refl

pub groups-preserved : goal.groups-preserved
groups-preserved c rows from t = looked_more rows c.args.tables.now from c.args.word c.groups.g c.four_of.result c.args.sum c.groups.all c.joined-all.result _ c.groups-test.true c.requires t c.four_of.ensures c.joined-all.ensures (c.groups.invariant rows from t)

pub returns : goal.returns
returns c rows from t j = looked_all rows from c.args.word j (4 * c.groups.g) _ _ (omega arith) (c.groups.invariant rows from t j)
