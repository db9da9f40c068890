use Rattle.std.proofs.Common.{◌∙◌, ap}
use Rattle.rv_sessions.specs.Keeping.{kept_of}
use Rattle.rv_sessions.proofs.Keeping.{kept-nil}
use Rattle.rv_sessions.proofs.snapshots.Snapshots.new.Goals as goal

pub returns : goal.returns
returns c = ap kept_of c.new.ensures.empty ∙ kept-nil
