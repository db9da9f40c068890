use Rattle.std.proofs.Common.{◌≡◌, ◌++◌, take}
use Rattle.std.specs.List.{flat_map}
use Rattle.rv_runs.specs.Pages.{text_of_session}
use Rattle.rv_runs.proofs.page.push_sessions.Given as goal

abbrev pub invariant-sessions : goal.invariant-sessions
invariant-sessions l = l.out.items ≡ l.fn.out.items ++ flat_map text_of_session (take l.transcript-index l.told)
