use Rattle.std.proofs.Common.{arith, sym, subst}
use Rattle.rv_eval.specs.Names.{AllStand}
use Rattle.rv_sessions.proofs.Blocks.{none_valued, step_stops, step_lacks, step_more, all_valued}
use Rattle.rv_sessions.proofs.block.block_values.Goals as goal

pub lets-init : goal.lets-init
lets-init g c =
    none_valued g.E.Core.least c.args.task.now.checked.now c.args.task.now.turns c.args.lets.now (g.E.Core.worker c.args.engine.now) c.args.names.now.items c.new-gifts.result.items
    c.new-gifts.ensures.items c.requires.standing

pub value_on-requires : goal.value_on-requires
value_on-requires g c =
    record { standing = subst (AllStand (g.E.Core.worker c.lets.engine)) (sym c.as_slice.ensures.value) c.lets.invariant.names_stand }

pub returns-in-Err : goal.returns-in-Err
returns-in-Err g c = step_stops c.one-item.result c.lets.invariant c.lets-test.true c.one-item.is
    c.as_slice.ensures.value c.value_on.ensures c.in-Err.outcome c.in-Err.is

pub returns-in_default : goal.returns-in_default
returns-in_default g c = step_lacks c.one-item.result c.lets.invariant c.lets-test.true c.one-item.is
    c.as_slice.ensures.value c.value_on.ensures

pub returns-in_default-push : goal.returns-in_default-push
returns-in_default-push g c = step_lacks c.one-item.result c.lets.invariant c.lets-test.true c.one-item.is
    c.as_slice.ensures.value c.value_on.ensures

pub returns-in_default-set : goal.returns-in_default-set
returns-in_default-set g c = step_lacks c.one-item.result c.lets.invariant c.lets-test.true c.one-item.is
    c.as_slice.ensures.value c.value_on.ensures

pub lets-preserved : goal.lets-preserved
lets-preserved g c =
    step_more c.one-item.result c.lets.invariant c.lets-test.true c.one-item.is c.as_slice.ensures.value
    c.value_on.ensures c.in-Ok.rel c.in-Ok-copied.own c.set.new.names.items c.push.new.self.items
    c.in-Ok.is c.in-Ok-copied.ensures c.in-Ok-set.ensures c.in-Ok-push.ensures.items

pub returns : goal.returns
returns g c = all_valued c.lets.gifts c.lets.invariant (omega (arith, c.lets-test.false))
