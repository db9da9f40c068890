use Rattle.std.proofs.Common.{◌∙◌}
use Rattle.rel_joins.proofs.Tiling.{tiling_more}
use Rattle.rel_joins.proofs.squares.cut_all.Goals as goal

pub columns-preserved : goal.columns-preserved
columns-preserved g c =
    let e = c.in_ok-cut_squares.ensures in (
      c.close_columns.ensures.len ∙ c.columns.invariant.0,
      c.close_columns.ensures.bare,
      tiling_more c.columns.invariant.2 c.close_columns.ensures.cells c.cut_squares.ensures.len c.cut_squares.ensures.kept e.cut e.keeps e.room e.cause.done,
    )
