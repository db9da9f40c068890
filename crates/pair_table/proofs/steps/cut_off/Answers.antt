use Rattle.std.proofs.Common.{◌≢◌, ◌∙◌, arith}
use Rattle.pair_table.proofs.Memoing.{cut_all, split_all}
use Rattle.pair_table.proofs.steps.cut_off.Goals as goal

pub compare_exchange-requires : goal.compare_exchange-requires
compare_exchange-requires c = let l : c.args.seat.now.me.0.parts ≢ 0 = omega arith in (c.requires.of, omega arith, cut_all _ _ _ _ _ _ l c.requires.words)

pub split_seat-requires : goal.split_seat-requires
split_seat-requires c = let e = c.compare_exchange.ensures in (e.0 ∙ c.requires.of, omega arith, split_all _ _ _ (let a = e.2.0.cut in let b = e.2.0.steps.parts in omega arith))
