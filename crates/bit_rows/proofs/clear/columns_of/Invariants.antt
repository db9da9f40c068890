use Rattle.bit_rows.specs.Rows.{HasColumns}
use Rattle.bit_rows.proofs.clear.columns_of.Given as goal

abbrev pub invariant-rows : goal.invariant-rows
invariant-rows l = HasColumns l.z l.row l.t l.all
