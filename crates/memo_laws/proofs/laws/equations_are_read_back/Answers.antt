use Rattle.rel_model.proofs.EquationLaws.{same_equation, word_of_equation-injective}
use Rattle.memo_laws.proofs.Looking.{noted_has_room}
use Rattle.memo_laws.proofs.laws.equations_are_read_back.Goals as goal

pub returns : goal.returns
returns c v t e g o x y w s = same_equation e g (word_of_equation-injective e g (noted_has_room v t e o x) (noted_has_room v t g o y) w s)
