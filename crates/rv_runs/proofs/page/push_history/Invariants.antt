use Rattle.std.proofs.Common.{◌≡◌, ◌++◌, take}
use Rattle.std.specs.List.{flat_map}
use Rattle.run_model.specs.Page.{event_line}
use Rattle.rv_runs.proofs.page.push_history.Given as goal

abbrev pub invariant-events : goal.invariant-events
invariant-events l = l.out.items ≡ l.fn.out.items ++ flat_map event_line (take l.event-index l.history)
