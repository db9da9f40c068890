use Rattle.std.proofs.Common.{◌∙◌, inr}
use Rattle.rv_sessions.specs.Standing.{first_names}
use Rattle.rv_sessions.proofs.Looking.{wanted_stand}
use Rattle.rv_sessions.proofs.Acting.{was_valued}
use Rattle.rv_sessions.proofs.giving.value_in_turn.Goals as goal

pub value_on-requires : goal.value_on-requires
value_on-requires g c =
    let r = c.in-Ok-read_turn.ensures.read in
    record {
      standing = wanted_stand (g.E.Core.worker c.read_turn.new.seat.engine) c.as_slice.result.now (first_names c.args.seat.now.pass) r.0 c.as_slice-in-Ok-read_turn.result.now
          r.1.first_stand r.1.stand
          (c.as_slice-in-Ok-read_turn.ensures.value ∙ r.2);
    }

pub returns-in-Ok-read_turn-clause-value : goal.returns-in-Ok-read_turn-clause-value
returns-in-Ok-read_turn-clause-value g c input i =
    let w = g.E.Core.worker in
    let r = c.in-Ok-read_turn.ensures.read in
    let s = c.value_on in
    inr (
      r.0,
      was_valued g.E.Core.least input c.args.task.now.checked.now c.args.task.now.by.session c.args.task.now.by.command c.args.expr.now
          (w c.args.seat.now.engine) (w c.read_turn.new.seat.engine) (w s.new.engine) c.args.seat.now.pass c.read_turn.new.seat.pass r.0 c.args.task.now.turns
          c.as_slice.result.now c.as_slice-in-Ok-read_turn.result.now s.result
          r.1 (c.as_slice.ensures.value ∙ c.in-Ok.ensures) (c.as_slice-in-Ok-read_turn.ensures.value ∙ r.2) s.ensures.keeps s.ensures.came s.ensures.room i,
    )
