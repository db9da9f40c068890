use Rattle.fork_quads.proofs.Windowing.{windowed_value, row_fits, col_fits, row_on, col_on, deep_over}
use Rattle.fork_quads.proofs.windows.window_part.Goals as goal

pub first_of-row-requires-clause-deep : goal.first_of-row-requires-clause-deep
first_of-row-requires-clause-deep c = deep_over c.args.a.height c.args.cuts c.requires.tall

pub compose_window-requires-clause-row_on : goal.compose_window-requires-clause-row_on
compose_window-requires-clause-row_on c = row_on c.args.a.height c.args.cuts c.args.number c.first_of-row.result.0 c.first_of-row.ensures.row c.requires.tall

pub compose_window-requires-clause-col_on : goal.compose_window-requires-clause-col_on
compose_window-requires-clause-col_on c = col_on c.args.a.height c.args.cuts c.args.number c.first_of-row.result.1 c.first_of-row.ensures.col c.requires.tall

pub compose_window-requires-clause-row_in : goal.compose_window-requires-clause-row_in
compose_window-requires-clause-row_in c = row_fits c.args.a.height c.args.cuts c.args.number c.first_of-row.result.0 c.first_of-row.ensures.row (deep_over c.args.a.height c.args.cuts c.requires.tall)

pub compose_window-requires-clause-col_in : goal.compose_window-requires-clause-col_in
compose_window-requires-clause-col_in c = col_fits c.args.a.height c.args.cuts c.args.number c.first_of-row.result.1 c.first_of-row.ensures.col (deep_over c.args.a.height c.args.cuts c.requires.tall)

pub returns-clause-value : goal.returns-clause-value
returns-clause-value c =
    windowed_value c.args.nodes.now c.compose_window.new.nodes c.args.a c.args.b c.args.cuts c.args.number c.first_of-row.result.0 c.first_of-row.result.1 c.compose_window.result c.requires.one_height (deep_over c.args.a.height c.args.cuts c.requires.tall)
    c.first_of-row.ensures.row c.first_of-row.ensures.col c.compose_window.ensures.value
