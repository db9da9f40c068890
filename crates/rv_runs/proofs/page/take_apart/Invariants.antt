use Rattle.std.proofs.Common.{◌≡◌, ◌++◌, map}
use Rattle.std.specs.List.{flat_map}
use Rattle.std.specs.Vec.Iter.{into_iter_items}
use Rattle.run_model.specs.Filed.{saved_all}
use Rattle.rv_runs.specs.Pages.{saved_by_session}
use Rattle.rv_runs.proofs.page.take_apart.Given as goal

abbrev pub invariant-sessions : goal.invariant-sessions
invariant-sessions l =
    goal.iterator-sessions.can_next l.transcript-iterator × goal.iterator-sessions.is_finite l.transcript-iterator
    × (l.fn.told.items ≡ l.yielded ++ into_iter_items l.transcript-iterator)
    × (map (λ v. v.items) l.outcomes.items ≡ map (λ t. t.outcomes.items) l.yielded)
    × (saved_all l.saves.items ≡ flat_map saved_by_session l.yielded)
