use Rattle.std.proofs.Common.{rules, arith}
use Rattle.turn_book.specs.Origins.{origin_of}
use Rattle.turn_book.proofs.Ruling.{draw_where_allowed}
use Rattle.turn_book.proofs.steps.draw_where.Goals as goal

pub compare_exchange-found-requires : goal.compare_exchange-found-requires
compare_exchange-found-requires g c = (c.requires.of, omega arith, draw_where_allowed g.S.Kept.log (origin_of g.S.Kept.house g.S.Kept.start) _ _ _ _ _ _ _ (search rules) c.requires.live c.requires.idle.0 c.requires.idle.1)
