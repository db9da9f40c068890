use Rattle.std.proofs.Common.{ap, arith}
use Rattle.rel_model.specs.Worker.{operator_room}
use Rattle.lang_model.specs.Outcomes.{Makes}
use Rattle.rv_eval.proofs.Operating.{full_one, empty_one}
use Rattle.rv_eval.proofs.Performing.{whole_performs}
use Rattle.rv_eval.proofs.bases.truth.Goals as goal

pub returns-then-yes : goal.returns-then-yes
returns-then-yes g c =
    let is = ap (λ x. Makes x (λ leaf. operator_room 1 1)) (full_one c.args.yes c.if-yes.true) in
    let e = c.full.ensures in
    whole_performs _ _ c.full.result is c.as_whole.ensures c.lift.ensures (omega arith) e.value e.keeps e.room e.cause

pub returns-else-yes : goal.returns-else-yes
returns-else-yes g c =
    let is = ap (λ x. Makes x (λ leaf. operator_room 1 1)) (empty_one c.args.yes c.if-yes.false) in
    let e = c.empty.ensures in
    whole_performs _ _ c.empty.result is c.as_whole-else-yes.ensures c.lift-else-yes.ensures
    (omega arith) e.value e.keeps e.room e.cause
