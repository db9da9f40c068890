use Rattle.k2_write.proofs.Showing.{small_window}
use Rattle.k2_write.proofs.walk.is_leaf.Goals as goal

pub small_side-requires : goal.small_side-requires
small_side-requires c = small_window c.args.height c.args.window c.requires
