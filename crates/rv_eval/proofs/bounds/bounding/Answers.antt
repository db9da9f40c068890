use Rattle.std.proofs.Common.{◌∙◌, sym}
use Rattle.rv_eval.proofs.Bounding.{no_square_bounds, other_rows_bounds}
use Rattle.rv_eval.proofs.Performing.{fault_performs}
use Rattle.rv_eval.proofs.bounds.bounding.Goals as goal

pub bounded-requires-clause-square : goal.bounded-requires-clause-square
bounded-requires-clause-square g c = sym c.shape_in-a.ensures.rows ∙ c.if-a.false ∙ c.shape_in-a.ensures.cols

pub bounded-requires-clause-rows : goal.bounded-requires-clause-rows
bounded-requires-clause-rows g c = sym c.shape_in-a.ensures.rows ∙ c.if-a-b.false ∙ c.shape_in-b.ensures.rows

pub returns-then-a : goal.returns-then-a
returns-then-a g c =
    let a = c.shape_in-a.ensures in
    let b = c.shape_in-b.ensures in
    let is = no_square_bounds c.args.at a.typed b.typed c.args.base c.requires.bounds c.if-a.true in
    fault_performs is c.not_square.ensures

pub returns-then-a-b : goal.returns-then-a-b
returns-then-a-b g c =
    let a = c.shape_in-a.ensures in
    let b = c.shape_in-b.ensures in
    let is = other_rows_bounds c.args.at a.typed b.typed c.args.base c.requires.bounds c.if-a.false c.if-a-b.true in
    fault_performs is c.not_alike.ensures
