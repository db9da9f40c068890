use Rattle.std.proofs.Common.{rules, arith}
use Rattle.pair_table.proofs.Memoing.{place_all}
use Rattle.pair_table.proofs.steps.exchange_word.Goals as goal

pub compare_exchange-requires : goal.compare_exchange-requires
compare_exchange-requires c = (c.requires.of, omega arith, place_all _ _ _ _ _ _ c.requires.live c.requires.next c.requires.some (search rules) c.requires.within)
