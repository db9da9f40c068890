use Rattle.std.proofs.Common.{◌≡◌, max, drop}
use Rattle.lang_model.specs.Checking.{called_by, called_by_all}
use Rattle.rv_types.proofs.statement.+greatest_called_by.Given as goal

abbrev pub decreases-greatest_called_by : goal.decreases-greatest_called_by
decreases-greatest_called_by l = goal.size-greatest_called_by l

abbrev pub invariant-body : goal.invariant-body
invariant-body l = called_by l.earlier l.stmt ≡ max l.most (called_by_all l.earlier (drop l.inner-index l.inner-items))

abbrev pub invariant-yes : goal.invariant-yes
invariant-yes l = called_by l.earlier l.stmt ≡ max (max l.most (called_by_all l.earlier (drop l.then-index l.then-items))) (called_by_all l.earlier l.no.items)

abbrev pub invariant-no : goal.invariant-no
invariant-no l = called_by l.earlier l.stmt ≡ max l.most (called_by_all l.earlier (drop l.other-index l.other-items))
