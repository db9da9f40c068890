use Rattle.std.proofs.Common.{◌∙◌}
use Rattle.pair_table.proofs.Homing.{less_once}
use Rattle.pair_table.proofs.home.home_of.Goals as goal

pub rounds-preserved : goal.rounds-preserved
rounds-preserved c = less_once c.rounds.rest c.args.count c.rounds-test.true ∙ c.rounds.invariant
