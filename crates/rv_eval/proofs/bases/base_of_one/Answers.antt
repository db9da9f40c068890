use Rattle.std.proofs.Common.{◌∙◌, sym}
use Rattle.rv_eval.proofs.Operating.{no_square, no_vector}
use Rattle.rv_eval.proofs.Performing.{fault_performs}
use Rattle.rv_eval.proofs.bases.base_of_one.Goals as goal

pub square_value-requires-clause-square : goal.square_value-requires-clause-square
square_value-requires-clause-square g c = sym c.shape_in-shape.ensures.rows ∙ c.if-shape.true ∙ c.shape_in-shape.ensures.cols

pub vector_base-requires-clause-one_column : goal.vector_base-requires-clause-one_column
vector_base-requires-clause-one_column g c = sym c.shape_in-shape.ensures.cols ∙ c.if-shape-eq1.true

pub returns-else-shape : goal.returns-else-shape
returns-else-shape g c =
    let s = c.shape_in-shape.ensures in
    let demand = sym c.demand_of.ensures ∙ c.in-Square.is in
    fault_performs (no_square c.args.at s.typed c.args.base demand c.if-shape.false) c.not_square.ensures

pub returns-else-shape-eq1 : goal.returns-else-shape-eq1
returns-else-shape-eq1 g c =
    let s = c.shape_in-shape.ensures in
    let demand = sym c.demand_of.ensures ∙ c.in-OneColumn.is in
    fault_performs (no_vector c.args.at s.typed c.args.base demand c.if-shape-eq1.false) c.not_vector.ensures
