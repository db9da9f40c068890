use Rattle.std.proofs.Common.{◌≡◌, drop}
use Rattle.run_model.specs.Due.{columns_over}
use Rattle.rv_sessions.proofs.listing.columns_over.Given as goal

abbrev pub invariant-columns : goal.invariant-columns
invariant-columns l = columns_over l.cols l.list ≡ columns_over l.cols (drop l.column-index l.list)
