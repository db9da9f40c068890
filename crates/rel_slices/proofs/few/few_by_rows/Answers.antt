use Rattle.std.proofs.Common.{refl}
use Rattle.rel_slices.proofs.Valuing.{recast_value, lines_value}
use Rattle.rel_slices.proofs.Products.{few_rows_value}
use Rattle.rel_slices.proofs.few.few_by_rows.Goals as goal

pub returns-clause-value : goal.returns-clause-value
returns-clause-value g c =
    let laws = g.met.C.Core in
    let w = g.C.Core.worker c.pick_lines.new.core in
    recast_value w _ _ _ _ _ _ _ refl refl (few_rows_value (g.C.Core.worker c.args.core.now) c.args.r c.args.b.now (record { valid = laws.valid c.args.core.now c.args.r c.requires.left; row_size = laws.row_size c.args.core.now c.args.r c.requires.left; col_size = laws.col_size c.args.core.now c.args.r c.requires.left }) c.requires.rows c.requires.middle)
    (lines_value w _ _ _ _ c.in_ok-lines.lines c.in_ok-lines.ensures.lines)
