-- What an engine remembers in addition to its crew.
use Rattle.rel_model.specs.Quads.{Keeper}
use Rattle.fork_quads.specs.Crew.{worker_of}
use Rattle.rel_slices.specs.declared.recall.Remembered.{Remembered}
use Rattle.rel_slices.specs.Remembering.{AllTrue}

-- everything that is remembered is true of what a keeper of quads holds
pub record IsRemembered (keeper : Keeper) (remembered : Remembered) : Type 0 where
  pub all : AllTrue (worker_of keeper) remembered
