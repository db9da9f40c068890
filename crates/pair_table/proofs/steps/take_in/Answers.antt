use Rattle.std.proofs.Common.{arith}
use Rattle.pair_table.proofs.Memoing.{join_all}
use Rattle.pair_table.proofs.steps.take_in.Goals as goal

pub join_seat-requires : goal.join_seat-requires
join_seat-requires c = (c.requires.of, c.requires.other_of, c.requires.empty, omega arith, join_all _ _ _ _ _ c.requires.live c.requires.other_live)
