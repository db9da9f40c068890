-- What is remembered stays true where all that stood stands.
use Rattle.rel_model.specs.Quads.{Keeper}
use Rattle.rel_model.specs.Worker.{Keeps}
use Rattle.rel_model.specs.Seats.{Holds}
use Rattle.fork_quads.specs.Crew.{worker_of}
use Rattle.rel_slices.specs.declared.recall.Remembered.{Remembered}
use Rattle.rel_slices.proofs.Remembering.{all_keep, all_hold}
use Rattle.rel_engine.specs.Remembered.{IsRemembered}

pub kept : (u v : Keeper) (m : Remembered) → Keeps (worker_of u) (worker_of v) → IsRemembered u m → IsRemembered v m
kept u v m k r = record { all = all_keep (worker_of u) (worker_of v) m k r.all }

-- where a worker is split or joined, too
pub held : (u v : Keeper) (m : Remembered) → Holds (worker_of u) (worker_of v) → IsRemembered u m → IsRemembered v m
held u v m h r = record { all = all_hold (worker_of u) (worker_of v) m h r.all }
