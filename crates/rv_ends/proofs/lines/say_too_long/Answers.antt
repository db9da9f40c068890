use Rattle.std.proofs.Common.{◌∙◌, inl, inr, refl, subst}
use Rattle.rv_ends.specs.Writing.{IsWritten, sunk}
use Rattle.rv_ends.proofs.lines.say_too_long.Goals as goal

pub returns-in-Ok : goal.returns-in-Ok
returns-in-Ok g c =
    let old = sunk (g.K.Sink.written c.args.sink.now) (g.K.Sink.faults c.args.sink.now) in
    let new = sunk (g.K.Sink.written c.write_text.new.sink) (g.K.Sink.faults c.write_text.new.sink) in
    inl (subst (λ l. IsWritten old new l 3 c.write_text.result) (c.as_slice.ensures.value ∙ c.in-Ok.ensures) c.write_text.ensures)

pub returns-in-Err : goal.returns-in-Err
returns-in-Err g c = inr (record { out = refl; silent = refl })
