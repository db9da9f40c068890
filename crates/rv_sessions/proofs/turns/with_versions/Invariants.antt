use Rattle.std.proofs.Common.{◌≡◌, ◌++◌}
use Rattle.std.specs.Vec.Iter.{into_iter_items}
use Rattle.rv_sessions.specs.Turning.{versions_in}
use Rattle.rv_sessions.proofs.turns.with_versions.Given as goal

abbrev pub invariant-names : goal.invariant-names
invariant-names g l =
    (goal.iterator-names g).can_next l.name-iterator × (goal.iterator-names g).is_finite l.name-iterator
    × (l.fn.names.items ≡ l.yielded ++ into_iter_items l.name-iterator) × (l.versions.items ≡ versions_in l.book.first.versions l.book.history l.yielded)
