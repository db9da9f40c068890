use Rattle.std.proofs.Common.{◌≡◌, ◌+◌, length, vec_len, vec_capacity, All}
use Rattle.turn_book.specs.Views.{IsReady}
use Rattle.rv_runs.specs.Works.{IsFresh, Numbered, HaveHouse, HaveStart, SplitsWorkers}
use Rattle.rv_runs.proofs.together.split_all.Given as goal

abbrev pub invariant-works : goal.invariant-works
invariant-works g l =
    (vec_len l.works ≡ l.i) × (length l.works.items ≡ l.i) × (vec_capacity l.works ≡ vec_capacity l.fn.works)
    × All (IsFresh g.E.Core.worker l.fn.book l.fn.number l.fn.count) l.works.items × Numbered l.fn.number l.works.items × HaveHouse l.fn.pass.house l.works.items × HaveStart l.fn.pass.start l.works.items
    × IsReady l.fn.book l.pass × (l.pass.spare + l.i ≡ l.fn.pass.spare) × (l.pass.house ≡ l.fn.pass.house) × (l.pass.start ≡ l.fn.pass.start) × (l.pass.seen ≡ l.fn.pass.seen) × (l.pass.mine ≡ l.fn.pass.mine) × (l.pass.joined ≡ l.fn.pass.joined)
    × SplitsWorkers l.i (g.E.Core.worker l.fn.engine) (g.E.Core.worker l.engine)
