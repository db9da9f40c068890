use Rattle.test_compact.proofs.Squares.{stands_where_root}
use Rattle.test_compact.proofs.standing.stands_as_square.Goals as goal

pub returns-in-Some : goal.returns-in-Some
returns-in-Some c = λ t. stands_where_root c.args.words.now c.args.rel c.in-Some.depth c.if-rel.false c.in-Some.ensures (c.name_stands.ensures t)
