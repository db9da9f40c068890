use Rattle.std.proofs.Common.{◌≡◌, max, drop}
use Rattle.lang_model.specs.Checking.{called_by_all}
use Rattle.rv_types.proofs.item.greatest_called_by_all.Given as goal

abbrev pub invariant-each : goal.invariant-each
invariant-each l = called_by_all l.earlier l.stmts ≡ max l.most (called_by_all l.earlier (drop l.stmt-index l.stmts))
