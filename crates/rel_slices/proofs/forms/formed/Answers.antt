use Rattle.std.proofs.Common.{true}
use Rattle.rel_slices.proofs.Valuing.{rows_formed, thin_value}
use Rattle.rel_slices.proofs.forms.formed.Goals as goal

pub returns-then-r-ge-LEAST-clause-value : goal.returns-then-r-ge-LEAST-clause-value
returns-then-r-ge-LEAST-clause-value g c = rows_formed (g.C.Core.worker c.cut_rows.new.core) _ _ _ c.in_ok-rows.rows c.in_ok-rows.ensures.value

pub returns-then-r-ge-LEAST-2-clause-value : goal.returns-then-r-ge-LEAST-2-clause-value
returns-then-r-ge-LEAST-2-clause-value g c = thin_value (g.C.Core.worker c.cut_columns.new.core) true _ _ _ c.in_ok-columns.columns c.in_ok-columns.ensures.value
