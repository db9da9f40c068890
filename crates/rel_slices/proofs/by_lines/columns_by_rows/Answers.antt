use Rattle.std.proofs.Common.{refl}
use Rattle.rel_slices.proofs.Valuing.{recast_value, whole_value}
use Rattle.rel_slices.proofs.Products.{columns_rows_value}
use Rattle.rel_slices.proofs.by_lines.columns_by_rows.Goals as goal

pub returns-clause-value : goal.returns-clause-value
returns-clause-value g c =
    recast_value (g.C.Core.worker c.outers.new.core) _ _ _ _ _ _ _ refl refl (columns_rows_value (g.C.Core.worker c.args.core.now) c.args.a.now c.args.b.now c.requires.columns c.requires.rows c.requires.middle)
    (whole_value (g.C.Core.worker c.outers.new.core) _ _ _ c.in_ok-product.product c.in_ok-product.ensures.value)
