use Rattle.std.proofs.Common.{◌∙◌, arith}
use Rattle.pair_table.proofs.Memoing.{memo_store_allowed}
use Rattle.pair_table.proofs.steps.store_memo.Goals as goal

pub store-requires : goal.store-requires
store-requires c = (c.requires.of, omega arith, rw c.requires.size (memo_store_allowed _ _ _ c.args.slot c.args.word _ c.requires.live c.requires.slot (c.requires.seen ∙ c.requires.size) c.requires.canonical c.requires.holds))
