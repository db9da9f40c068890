use Rattle.std.proofs.Common.{refl}
use Rattle.relview.proofs.Unfailing.{is_sure}
use Rattle.relview.proofs.surely.relview_surely.Goals as goal

pub returns : goal.returns
returns g c = is_sure _ _ _ _ _ _ refl refl refl c.relview.ensures
