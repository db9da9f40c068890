use Rattle.std.proofs.Common.{◌≡◌, ◌≤◌, ◌++◌, true, length, map, vec_len, vec_capacity, Some}
use Rattle.std.specs.Vec.Iter.{into_iter_items}
use Rattle.turn_book.specs.Joined.{JoinsAll}
use Rattle.rv_runs.specs.Works.{TakesAll, pass_of, told_of}
use Rattle.rv_runs.proofs.together.join_all.Given as goal

abbrev pub invariant-works : goal.invariant-works
invariant-works g l =
    (goal.iterator-works g).can_next l.work-iterator × (goal.iterator-works g).is_finite l.work-iterator
    × (l.fn.works.items ≡ l.yielded ++ into_iter_items l.work-iterator) × (vec_len l.told ≤ length l.yielded) × (vec_capacity l.told ≡ vec_capacity l.fn.told)
    × (l.whole ≡ true → map (λ t. Some t) l.told.items ≡ map told_of l.yielded)
    × JoinsAll (map pass_of l.yielded) l.fn.pass l.pass × TakesAll g.E.Core.worker l.yielded (g.E.Core.worker l.fn.engine) (g.E.Core.worker l.engine)
