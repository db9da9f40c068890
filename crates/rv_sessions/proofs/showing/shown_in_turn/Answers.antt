use Rattle.std.proofs.Common.{◌∙◌, inr}
use Rattle.rv_sessions.specs.Told.{bytes_of}
use Rattle.rv_sessions.specs.Standing.{first_names}
use Rattle.rv_sessions.proofs.Looking.{wanted_stand}
use Rattle.rv_sessions.proofs.Acting.{was_shown}
use Rattle.rv_sessions.proofs.showing.shown_in_turn.Goals as goal

pub shown_on-requires : goal.shown_on-requires
shown_on-requires g c =
    let r = c.in-Ok-read_turn.ensures.read in
    record {
      standing = wanted_stand (g.E.Core.worker c.read_turn.new.seat.engine) c.as_slice.result.now (first_names c.args.seat.now.pass) r.0 c.as_slice-in-Ok-read_turn.result.now
          r.1.first_stand r.1.stand
          (c.as_slice-in-Ok-read_turn.ensures.value ∙ r.2);
    }

pub returns-in-Ok-read_turn : goal.returns-in-Ok-read_turn
returns-in-Ok-read_turn g c input i =
    let w = g.E.Core.worker in
    let r = c.in-Ok-read_turn.ensures.read in
    let s = c.shown_on in
    inr (
      r.0,
      was_shown g.E.Core.least c.args.form input c.args.task.now.checked.now c.args.task.now.by.session c.args.task.now.by.command c.args.expr.now
          (w c.args.seat.now.engine) (w c.read_turn.new.seat.engine) (w s.new.engine) c.args.seat.now.pass c.read_turn.new.seat.pass r.0 c.args.task.now.turns
          c.as_slice.result.now c.as_slice-in-Ok-read_turn.result.now (bytes_of s.result)
          r.1 (c.as_slice.ensures.value ∙ c.in-Ok.ensures) (c.as_slice-in-Ok-read_turn.ensures.value ∙ r.2) s.ensures.keeps s.ensures.came s.ensures.room i,
    )
