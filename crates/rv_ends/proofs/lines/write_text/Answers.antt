use Rattle.std.proofs.Common.{refl}
use Rattle.rv_ends.specs.Writing.{Whole, Part}
use Rattle.rv_ends.proofs.lines.write_text.Goals as goal

pub returns-in-Ok : goal.returns-in-Ok
returns-in-Ok g c = Whole refl c.in-Ok.ensures.all

pub returns-in-Err : goal.returns-in-Err
returns-in-Err g c = Part c.in-Err._error.sent refl c.in-Err.ensures.sent c.in-Err.ensures.cause
