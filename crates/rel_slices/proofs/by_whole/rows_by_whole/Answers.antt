use Rattle.std.proofs.Common.{◌∙◌}
use Rattle.rel_slices.specs.Thin.{line_of}
use Rattle.rel_slices.proofs.Valuing.{recast_value, lines_value}
use Rattle.rel_slices.proofs.Products.{rows_whole_value}
use Rattle.rel_slices.proofs.by_whole.rows_by_whole.Goals as goal

pub returns-clause-value : goal.returns-clause-value
returns-clause-value g c =
    let laws = g.met.C.Core in
    let w = g.C.Core.worker c.images.new.core in
    let a = c.args.a.now in
    let w2 = g.C.Core.worker c.settled.new.core in
    let v = lines_value w _ _ _ _ c.in_ok-lines.lines c.in_ok-lines.ensures.lines in
    recast_value w2 _ _ _ _ _ _ c.in_ok-product.product v.row_size v.col_size
    (v.means ∙ rows_whole_value (g.C.Core.worker c.args.core.now) a c.args.s (λ i l. record { valid = laws.valid c.args.core.now (line_of a i) (c.requires.left.lines i l); row_size = laws.row_size c.args.core.now (line_of a i) (c.requires.left.lines i l); col_size = laws.col_size c.args.core.now (line_of a i) (c.requires.left.lines i l) })
    (record { valid = laws.valid c.args.core.now c.args.s c.requires.right; row_size = laws.row_size c.args.core.now c.args.s c.requires.right; col_size = laws.col_size c.args.core.now c.args.s c.requires.right }) c.requires.rows c.requires.middle)
    c.in_ok-product.ensures.value
