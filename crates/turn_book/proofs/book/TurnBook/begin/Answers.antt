use Rattle.std.proofs.Common.{rules, ◌++◌, ◌∙◌, ◌∷◌, [], ap, List, Option, Some}
use Rattle.turn_book.proofs.Wrapping.{made_ruled}
use Rattle.turn_book.proofs.book.TurnBook.begin.Goals as goal

pub new-requires : goal.new-requires
new-requires g c =
    made_ruled g.S.Kept.log g.S.Kept.house g.S.Kept.start (record { first = c.of.result; passes = c.args.passes }) c.args.first c.args.number _ (search rules) c.of.ensures
    (c.push_reserved.ensures.items ∙ ap (λ (l : List (Option g.row.S.Denot)). l ++ Some c.args.first ∷ []) c.in-Ok.ensures.items) c.requires.empty (search rules) c.requires.some
