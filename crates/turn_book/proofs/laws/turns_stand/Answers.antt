use Rattle.std.proofs.Common.{refl}
use Rattle.turn_book.specs.Logs.{pick}
use Rattle.turn_book.proofs.Turning.{turns_stand}
use Rattle.turn_book.proofs.laws.turns_stand.Goals as goal

pub returns : goal.returns
returns c = λ is ts old new log h b mine all. turns_stand is ts old new log (pick is old) refl h b mine all
