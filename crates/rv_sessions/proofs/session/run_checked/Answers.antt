use Rattle.std.proofs.Common.{refl}
use Rattle.rv_sessions.proofs.Folding.{whole_script}
use Rattle.rv_sessions.proofs.session.run_checked.Goals as goal

pub returns-clause-ran : goal.returns-clause-ran
returns-clause-ran g c = whole_script c.run_items.ensures.ran.1 c.run_items.ensures.each c.run_items.new.lists refl refl refl
