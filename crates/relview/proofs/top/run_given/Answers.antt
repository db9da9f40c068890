use Rattle.relview.proofs.GivenRun.{finished_named}
use Rattle.relview.proofs.top.run_given.Goals as goal

pub report_of-requires : goal.report_of-requires
report_of-requires g c = finished_named _ _ _ _ _ _ c.in-Ok.finished c.in-Ok.ensures
