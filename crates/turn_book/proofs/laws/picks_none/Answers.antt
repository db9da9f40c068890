use Rattle.turn_book.proofs.Sharing.{no_ones}
use Rattle.turn_book.proofs.laws.picks_none.Goals as goal

pub returns : goal.returns
returns c = λ is lists log m none. no_ones is lists log m none
