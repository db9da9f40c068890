-- What an expression is evaluated in, as the walk keeps it.
use Rattle.std.specs.Prelude.{ℕ}
use Rattle.rel_model.specs.Worker.{Worker}
use Rattle.lang_model.specs.State.{State}
use Rattle.lang_model.specs.Mean.{Around as Surroundings, around_with, calls_within}
use Rattle.rv_eval.specs.declared.here.Around.{Around}
use Rattle.rv_eval.specs.declared.here.Here.{Here}
use Rattle.rv_eval.specs.Values.{state_by, names_owe}

-- what calls mean there, and the declarations of its program
abbrev pub around_of : Around → Surroundings
around_of around = around_with (calls_within around.checked.now.items.items around.rank) around.decls.now

-- the state that its names mean in a worker
abbrev pub state_of_here : Worker → Here → State
state_of_here w here = state_by w here.names.now

-- the most that the value of one of its names owes
abbrev pub owed_by_here : ℕ → Here → ℕ
owed_by_here least here = names_owe least here.names.now
