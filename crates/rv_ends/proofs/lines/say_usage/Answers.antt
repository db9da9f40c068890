use Rattle.std.proofs.Common.{subst}
use Rattle.rv_ends.specs.Writing.{IsWritten, sunk}
use Rattle.rv_ends.proofs.lines.say_usage.Goals as goal

pub returns : goal.returns
returns g c =
    let old = sunk (g.K.Sink.written c.args.sink.now) (g.K.Sink.faults c.args.sink.now) in
    let new = sunk (g.K.Sink.written c.write_text.new.sink) (g.K.Sink.faults c.write_text.new.sink) in
    subst (λ l. IsWritten old new l 2 c.write_text.result) c.usage_line.ensures c.write_text.ensures
