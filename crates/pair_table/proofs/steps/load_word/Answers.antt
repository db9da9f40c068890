use Rattle.std.proofs.Common.{arith}
use Rattle.pair_table.proofs.Memoing.{load_all}
use Rattle.pair_table.proofs.steps.load_word.Goals as goal

pub load-requires : goal.load-requires
load-requires c = (c.requires.of, omega arith, load_all _ _ _ _ _ c.requires.live c.requires.within)
