use Rattle.std.proofs.Common.{◌∙◌, Some, ap, ap₂, arith}
use Rattle.rel_model.specs.Worker.{operator_room}
use Rattle.rel_model.proofs.Workers.{stands_some}
use Rattle.rel_slices.proofs.Valuing.{complement_whole_given}
use Rattle.rel_values.proofs.Small.{operator_squares, plain_squares}
use Rattle.rel_values.proofs.boole.whole_complement.Goals as goal

pub returns-in_err-all-clause-room : goal.returns-in_err-all-clause-room
returns-in_err-all-clause-room g c =
    let r = c.args.r in
    omega (arith, operator_squares r.rows r.cols, plain_squares r.rows r.cols, c.in_err-all.ensures.room)

pub returns-in_err-rest-clause-room : goal.returns-in_err-rest-clause-room
returns-in_err-rest-clause-room g c =
    let r = c.args.r in
    omega (arith, operator_squares r.rows r.cols, plain_squares r.rows r.cols, c.in_ok-all.ensures.room, c.in_err-rest.ensures.room, ap₂ operator_room c.in_ok-all.ensures.value.row_size c.in_ok-all.ensures.value.col_size)

pub returns-clause-room : goal.returns-clause-room
returns-clause-room g c =
    let r = c.args.r in
    omega (arith, operator_squares r.rows r.cols, plain_squares r.rows r.cols, c.in_ok-all.ensures.room, c.in_ok-rest.ensures.room, ap₂ operator_room c.in_ok-all.ensures.value.row_size c.in_ok-all.ensures.value.col_size)

pub returns-clause-value : goal.returns-clause-value
returns-clause-value g c =
    let laws = g.met.E.Core in
    let r = c.args.r in
    let w = g.E.Core.worker c.diff.new.self in
    let given = complement_whole_given (g.E.Core.worker c.args.engine.now) (g.E.Core.worker c.full.new.self) w 0 0 r c.in_ok-all.all c.in_ok-rest.rest c.in_ok-all.ensures.keeps c.requires
    (record { valid = laws.valid c.args.engine.now r c.requires; row_size = laws.row_size c.args.engine.now r c.requires; col_size = laws.col_size c.args.engine.now r c.requires }) c.in_ok-all.ensures.value c.in_ok-rest.ensures.value in
    record { means = stands_some w c.in_ok-rest.rest given.stands ∙ ap Some given.means; row_size = given.row_size; col_size = given.col_size }
