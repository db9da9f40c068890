use Rattle.run_model.specs.Names.{Names, IsIncreasing}
use Rattle.name_map.specs.Giving.{Led}
use Rattle.name_map.proofs.giving.take_back.Given as goal

abbrev pub invariant-notes : goal.invariant-notes
invariant-notes g l = (first : Names g.row.V.Denot) → IsIncreasing first → Led l.fn.journal.items first l.fn.names → Led l.journal.items first l.names

abbrev pub decreases-notes : goal.decreases-notes
decreases-notes g l = goal.left-notes g l
