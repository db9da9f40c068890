use Rattle.std.proofs.Common.{◌≡◌, max, drop}
use Rattle.lang_model.specs.Checking.{called}
use Rattle.rv_types.specs.Rows.{called_of_args, called_of_links}
use Rattle.rv_types.proofs.expression.+greatest_called.Given as goal

abbrev pub decreases-greatest_called : goal.decreases-greatest_called
decreases-greatest_called l = goal.size-greatest_called l

abbrev pub invariant-call_args : goal.invariant-call_args
invariant-call_args l = called l.earlier l.expr ≡ max l.most (called_of_args l.earlier (drop l.arg-index l.arg-items))

abbrev pub invariant-base_args : goal.invariant-base_args
invariant-base_args l = called l.earlier l.expr ≡ max l.most (called_of_args l.earlier (drop l.base_arg-index l.base_arg-items))

abbrev pub invariant-links : goal.invariant-links
invariant-links l = called l.earlier l.expr ≡ max l.most (called_of_links l.earlier (drop l.link-index l.link-items))
