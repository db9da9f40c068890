use Rattle.relview.proofs.Roomy.{enough_room, enough_room_at_once}
use Rattle.relview.proofs.laws.enough_room.Goals as goal

pub returns-clause-batches : goal.returns-clause-batches
returns-clause-batches c = enough_room

pub returns-clause-at_once : goal.returns-clause-at_once
returns-clause-at_once c = enough_room_at_once
