use Rattle.std.proofs.Common.{◌≡◌, ◌+◌, length, vec_len, vec_capacity, All}
use Rattle.turn_book.specs.Views.{IsReady}
use Rattle.bench_texts.specs.Works.{IsWork}
use Rattle.bench_texts.proofs.turns.split_all.Given as goal

abbrev pub invariant-works : goal.invariant-works
invariant-works l =
    (vec_len l.works ≡ l.i) × (length l.works.items ≡ l.i) × (vec_capacity l.works ≡ vec_capacity l.fn.works) × All (IsWork l.fn.book) l.works.items × IsReady l.fn.book l.pass × (l.pass.spare + l.i ≡ l.fn.pass.spare)
