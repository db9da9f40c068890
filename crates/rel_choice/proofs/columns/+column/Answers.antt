use Rattle.std.proofs.Common.{◌∙◌}
use Rattle.rel_model.specs.Trees.{top_height}
use Rattle.rel_choice.proofs.RowHalves.{leaf-side}
use Rattle.rel_choice.proofs.columns.+column.Goals as goal

pub column_from-column_in-requires-clause-small : goal.column_from-column_in-requires-clause-small
column_from-column_in-requires-clause-small g t c = leaf-side c.args.quad.height g.Q.Core.least c.side_of-side.result (c.if-quad-bottom.true ∙ c.bottom.ensures) g.met.Q.Quads.least_limit c.side_of-side.ensures

pub column_of_two-side_of-half-requires : goal.column_of_two-side_of-half-requires
unfolding top_height
column_of_two-side_of-half-requires g t c = g.met.Q.Quads.high_height c.args.q.now c.args.west c.requires.west_stands

pub column_over-side_of-half-requires : goal.column_over-side_of-half-requires
unfolding top_height
column_over-side_of-half-requires g t c = g.met.Q.Quads.high_height c.quarters.new.self c.quarters.result.nw c.quarters.ensures.quarters.nw
