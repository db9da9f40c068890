use Rattle.turn_book.proofs.Joining.{joins_one_more}
use Rattle.turn_book.proofs.laws.joins_one_more.Goals as goal

pub returns : goal.returns
returns c = λ passes other old mid new j is mine begins. joins_one_more passes other old mid new j is mine begins
