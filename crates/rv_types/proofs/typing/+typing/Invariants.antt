use Rattle.std.proofs.Common.{◌≡◌, ◌+◌, ◌*◌, [], drop}
use Rattle.lang_model.specs.Shape.{typed_by}
use Rattle.rv_types.specs.Shaping.{types_of, shapes_by, shape_by}
use Rattle.rv_types.specs.Around.{around_of}
use Rattle.lang_model.proofs.Weights.{weight, weight_of_args, weight_of_links, weight_stmt, weight_by, scale}
use Rattle.rv_types.proofs.typing.+typing.Given as goal

abbrev pub decreases-type_of_call : goal.decreases-type_of_call
decreases-type_of_call l = l.around.now.rank * scale l.around.now.checked.now.items.items

abbrev pub decreases-type_of_expr : goal.decreases-type_of_expr
decreases-type_of_expr l = l.around.now.rank * scale l.around.now.checked.now.items.items + 4 * weight l.expr.now

abbrev pub decreases-types_of_args : goal.decreases-types_of_args
decreases-types_of_args l = l.around.now.rank * scale l.around.now.checked.now.items.items + (4 * weight_of_args l.args.now + 1)

abbrev pub decreases-type_of_chain : goal.decreases-type_of_chain
decreases-type_of_chain l = l.around.now.rank * scale l.around.now.checked.now.items.items + (4 * weight_of_links l.rest.now + 1)

abbrev pub decreases-type_of_test : goal.decreases-type_of_test
decreases-type_of_test l = l.around.now.rank * scale l.around.now.checked.now.items.items + (4 * weight l.expr.now + 1)

abbrev pub decreases-type_of_program : goal.decreases-type_of_program
decreases-type_of_program l = l.inside.now.rank * scale l.inside.now.checked.now.items.items + (4 * (weight_by l.body.now + weight l.value.now) + 3)

abbrev pub decreases-type_stmt : goal.decreases-type_stmt
decreases-type_stmt l = l.around.now.rank * scale l.around.now.checked.now.items.items + 4 * weight_stmt l.stmt.now

abbrev pub decreases-type_stmts : goal.decreases-type_stmts
decreases-type_stmts l = l.around.now.rank * scale l.around.now.checked.now.items.items + (4 * weight_by l.stmts.now + 2)

abbrev pub invariant-type_of_chain-links : goal.invariant-type_of_chain-links
invariant-type_of_chain-links l = shape_by (around_of l.around) (types_of l.names) l.fn.first l.rest ≡ shape_by (around_of l.around) (types_of l.names) l.all (drop l.next-index l.rest)

abbrev pub invariant-types_of_args-each : goal.invariant-types_of_args-each
invariant-types_of_args-each l = shapes_by (around_of l.around) (types_of l.names) [] l.args ≡ shapes_by (around_of l.around) (types_of l.names) l.given.items (drop l.arg-index l.args)

abbrev pub invariant-type_stmts-stmts : goal.invariant-type_stmts-stmts
invariant-type_stmts-stmts l = typed_by (around_of l.around) l.stmts (types_of l.fn.names.items) ≡ typed_by (around_of l.around) (drop l.stmt-index l.stmts) (types_of l.names.items)
