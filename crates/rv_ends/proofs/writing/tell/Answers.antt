use Rattle.std.proofs.Common.{refl}
use Rattle.rv_ends.specs.Writing.{Unwritten}
use Rattle.rv_ends.proofs.writing.tell.Goals as goal

pub returns-in-Err : goal.returns-in-Err
returns-in-Err g c = Unwritten c.in-Err._error.sent refl c.in-Err.ensures.sent c.in-Err.ensures.cause (record { files = refl; put_faults = refl })
