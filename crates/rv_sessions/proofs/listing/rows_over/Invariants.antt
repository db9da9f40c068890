use Rattle.std.proofs.Common.{◌≡◌, drop}
use Rattle.run_model.specs.Due.{rows_over}
use Rattle.rv_sessions.proofs.listing.rows_over.Given as goal

abbrev pub invariant-rows : goal.invariant-rows
invariant-rows l = rows_over l.rows l.cols l.list ≡ rows_over l.rows l.cols (drop l.row-index l.list)
