use Rattle.std.proofs.Common.{◌∙◌, arith}
use Rattle.pair_table.proofs.Memoing.{memo_load_allowed}
use Rattle.pair_table.proofs.steps.load_memo.Goals as goal

pub load-requires : goal.load-requires
load-requires c = (c.requires.of, omega arith, rw c.requires.size (memo_load_allowed _ _ _ c.args.slot _ c.requires.live c.requires.slot (c.requires.seen ∙ c.requires.size)))
