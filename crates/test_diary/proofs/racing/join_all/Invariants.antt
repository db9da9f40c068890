use Rattle.std.proofs.Common.{◌≡◌, ◌++◌, length, map, vec_len, vec_capacity}
use Rattle.std.specs.Vec.Iter.{into_iter_items}
use Rattle.turn_book.specs.Joined.{JoinsAll}
use Rattle.test_diary.specs.Runs.{pass_of, told_of}
use Rattle.test_diary.proofs.racing.join_all.Given as goal

abbrev pub invariant-works : goal.invariant-works
invariant-works l =
    (goal.iterator-works).can_next l.work-iterator × (goal.iterator-works).is_finite l.work-iterator
    × (l.fn.works.items ≡ l.yielded ++ into_iter_items l.work-iterator) × (l.told.items ≡ map told_of l.yielded) × (vec_len l.told ≡ length l.yielded) × (vec_capacity l.told ≡ vec_capacity l.fn.told)
    × JoinsAll (map pass_of l.yielded) l.fn.pass l.pass
