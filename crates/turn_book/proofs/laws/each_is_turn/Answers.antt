use Rattle.std.proofs.Common.{arith, []}
use Rattle.turn_book.proofs.Placing.{found}
use Rattle.turn_book.proofs.laws.each_is_turn.Goals as goal

pub returns : goal.returns
returns c = λ is ts log before after e h m all at own. found is ts [] log before after e h m all at own (omega arith)
