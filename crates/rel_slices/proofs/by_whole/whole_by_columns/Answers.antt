use Rattle.std.proofs.Common.{◌∙◌}
use Rattle.rel_slices.specs.Thin.{line_of}
use Rattle.rel_slices.proofs.Valuing.{recast_value, lines_value}
use Rattle.rel_slices.proofs.Products.{whole_columns_value}
use Rattle.rel_slices.proofs.by_whole.whole_by_columns.Goals as goal

pub returns-clause-value : goal.returns-clause-value
returns-clause-value g c =
    let laws = g.met.C.Core in
    let w = g.C.Core.worker c.coimages.new.core in
    let b = c.args.b.now in
    let w2 = g.C.Core.worker c.settled.new.core in
    let v = lines_value w _ _ _ _ c.in_ok-lines.lines c.in_ok-lines.ensures.lines in
    recast_value w2 _ _ _ _ _ _ c.in_ok-product.product v.row_size v.col_size
    (v.means ∙ whole_columns_value (g.C.Core.worker c.args.core.now) c.args.r b (record { valid = laws.valid c.args.core.now c.args.r c.requires.left; row_size = laws.row_size c.args.core.now c.args.r c.requires.left; col_size = laws.col_size c.args.core.now c.args.r c.requires.left })
    (λ i l. record { valid = laws.valid c.args.core.now (line_of b i) (c.requires.right.lines i l); row_size = laws.row_size c.args.core.now (line_of b i) (c.requires.right.lines i l); col_size = laws.col_size c.args.core.now (line_of b i) (c.requires.right.lines i l) }) c.requires.columns c.requires.middle)
    c.in_ok-product.ensures.value
