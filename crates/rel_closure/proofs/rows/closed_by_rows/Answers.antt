use Rattle.std.proofs.Common.{arith}
use Rattle.rel_model.proofs.Heights.{power_up}
use Rattle.bit_rows.specs.Rows.{rows_cells}
use Rattle.rel_closure.proofs.OverRows.{closed_value}
use Rattle.rel_closure.proofs.rows.closed_by_rows.Goals as goal

pub spill-requires-clause-row_in : goal.spill-requires-clause-row_in
spill-requires-clause-row_in g c = let p = power_up c.args.q.height 8 c.requires.small in omega (arith, p)

pub spill-requires-clause-col_in : goal.spill-requires-clause-col_in
spill-requires-clause-col_in g c = let p = power_up c.args.q.height 8 c.requires.small in omega (arith, p)

pub gather-requires-clause-low : goal.gather-requires-clause-low
gather-requires-clause-low g c = let l = g.met.Q.Quads.low_height c.args.quads.now c.args.q c.requires.stands in let b = c.requires.leaf in omega (arith, l, b)

pub gather-requires-clause-row_in : goal.gather-requires-clause-row_in
gather-requires-clause-row_in g c = let p = power_up c.args.q.height 8 c.requires.small in omega (arith, p)

pub gather-requires-clause-col_in : goal.gather-requires-clause-col_in
gather-requires-clause-col_in g c = let p = power_up c.args.q.height 8 c.requires.small in omega (arith, p)

pub returns-clause-value : goal.returns-clause-value
returns-clause-value g c =
    closed_value (g.Q.Core.worker c.args.quads.now) (g.Q.Core.worker c.gather.new.quads) c.args.q c.in_ok-all.all (rows_cells c.no_rows-z.result) (rows_cells c.spill.new.z) (rows_cells c.rows_close.new.z)
    (g.met.Q.Quads.square c.args.quads.now c.args.q c.requires.stands) c.no_rows-z.ensures.cells c.spill.ensures.cells c.rows_close.ensures.closure c.in_ok-all.ensures.value
