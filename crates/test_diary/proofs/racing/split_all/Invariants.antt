use Rattle.std.proofs.Common.{◌≡◌, ◌+◌, length, vec_len, vec_capacity, All}
use Rattle.test_diary.specs.Runs.{IsFresh, Numbered}
use Rattle.turn_book.specs.Views.{IsReady}
use Rattle.test_diary.proofs.racing.split_all.Given as goal

abbrev pub invariant-counts : goal.invariant-counts
invariant-counts l =
    (vec_len l.works ≡ l.i) × (length l.works.items ≡ l.i) × (vec_capacity l.works ≡ vec_capacity l.fn.works)
    × All (IsFresh l.fn.book) l.works.items × Numbered l.works.items
    × IsReady l.fn.book l.pass × (l.pass.spare + l.i ≡ l.fn.pass.spare) × (l.pass.seen ≡ l.fn.pass.seen) × (l.pass.mine ≡ l.fn.pass.mine) × (l.pass.joined ≡ l.fn.pass.joined)
