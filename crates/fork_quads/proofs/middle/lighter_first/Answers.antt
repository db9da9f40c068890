use Rattle.std.proofs.Common.{◌*◌, arith}
use Rattle.rel_model.specs.Quads.{quad_room, compose_room}
use Rattle.rel_model.proofs.QuadLaws.{keeps_on, keeps_most, quad_stays}
use Rattle.fork_quads.specs.Middle.{middle_room}
use Rattle.fork_quads.proofs.Halving.{middle_room-most, composed_later}
use Rattle.fork_quads.proofs.middle.lighter_first.Goals as goal

pub compose_quads-requires-clause-a_stands : goal.compose_quads-requires-clause-a_stands
compose_quads-requires-clause-a_stands c = quad_stays _ c.args.nodes.now c.halving_pays.new.nodes c.args.a c.in_ok-pays.ensures.keeps c.requires.a_stands

pub compose_quads-requires-clause-b_stands : goal.compose_quads-requires-clause-b_stands
compose_quads-requires-clause-b_stands c = quad_stays _ c.args.nodes.now c.halving_pays.new.nodes c.args.b c.in_ok-pays.ensures.keeps c.requires.b_stands

pub middle_first-requires-clause-a_stands : goal.middle_first-requires-clause-a_stands
middle_first-requires-clause-a_stands c = quad_stays _ c.args.nodes.now c.halving_pays.new.nodes c.args.a c.in_ok-pays.ensures.keeps c.requires.a_stands

pub middle_first-requires-clause-b_stands : goal.middle_first-requires-clause-b_stands
middle_first-requires-clause-b_stands c = quad_stays _ c.args.nodes.now c.halving_pays.new.nodes c.args.b c.in_ok-pays.ensures.keeps c.requires.b_stands

pub returns-then-not-pays-clause-value : goal.returns-then-not-pays-clause-value
returns-then-not-pays-clause-value c = composed_later _ c.args.nodes.now c.halving_pays.new.nodes c.compose_quads.new.nodes c.args.a c.args.b c.compose_quads.result c.in_ok-pays.ensures.keeps c.requires.a_stands c.requires.b_stands c.compose_quads.ensures.value

pub returns-clause-value : goal.returns-clause-value
returns-clause-value c = composed_later _ c.args.nodes.now c.halving_pays.new.nodes c.middle_first.new.nodes c.args.a c.args.b c.middle_first.result c.in_ok-pays.ensures.keeps c.requires.a_stands c.requires.b_stands c.middle_first.ensures.value

pub returns-in_err-pays-clause-keeps : goal.returns-in_err-pays-clause-keeps
returns-in_err-pays-clause-keeps c =
    let m = middle_room-most c.args.a.height 0 (omega arith) c.requires.over in
    keeps_most _ _ c.args.nodes.now c.halving_pays.new.nodes (omega (arith, m)) c.in_err-pays.ensures.keeps

pub returns-then-not-pays-clause-keeps : goal.returns-then-not-pays-clause-keeps
returns-then-not-pays-clause-keeps c =
    let m = middle_room-most c.args.a.height 0 (omega arith) c.requires.over in
    keeps_most _ _ c.args.nodes.now c.compose_quads.new.nodes (omega (arith, m)) (keeps_on (6 * quad_room c.args.a.height) (compose_room c.args.a.height) c.args.nodes.now c.halving_pays.new.nodes c.compose_quads.new.nodes c.in_ok-pays.ensures.keeps c.compose_quads.ensures.keeps)

pub returns-clause-keeps : goal.returns-clause-keeps
returns-clause-keeps c =
    let m = middle_room-most c.args.a.height c.args.halving.times c.requires.few c.requires.over in
    keeps_most _ _ c.args.nodes.now c.middle_first.new.nodes (omega (arith, m))
    (keeps_on (6 * quad_room c.args.a.height) (middle_room c.args.a.height c.args.halving.times) c.args.nodes.now c.halving_pays.new.nodes c.middle_first.new.nodes c.in_ok-pays.ensures.keeps c.middle_first.ensures.keeps)
