-- Calls that only read.
use Rattle.rel_model.specs.Worker.{Worker, Keeps, MakesAtMost, MissesNothing}

-- everything that stood stands, no node is made, and no miss is counted
pub record OnlyReads (old new : Worker) : Type 0 where
  pub keeps : Keeps old new
  pub room : MakesAtMost 0 old new
  pub misses : MissesNothing old new
