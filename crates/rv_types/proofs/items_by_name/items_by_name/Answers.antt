use Rattle.std.proofs.Common.{◌≡◌, ◌∙◌, [], drop, sym, ap}
use Rattle.std.proofs.Math.ListN.{drop_of_length-le}
use Rattle.std.specs.List.{position_from}
use Rattle.std.specs.Option.{option_or}
use Rattle.lang_model.specs.Defining.{defines}
use Rattle.rv_types.specs.Defining.{number_beside}
use Rattle.rv_types.proofs.Defining.{position-item, option_or-none}
use Rattle.rv_types.proofs.items_by_name.items_by_name.Goals as goal

pub each-preserved : goal.each-preserved
each-preserved c n =
    c.each.invariant n
    ∙ position-item (number_beside c.each.by_name n) (number_beside c.add_item.new.self n) n c.args.items.now c.each.number c.index-items-number.result c.each-test.true c.index-items-number.is (c.in_ok-add_item.ensures.numbers n)

pub returns-clause-numbers : goal.returns-clause-numbers
returns-clause-numbers c n =
    let items = c.args.items.now in
    let gone : drop c.each.number items ≡ [] = drop_of_length-le items c.each-test.false in
    sym (c.each.invariant n ∙ ap (λ xs. option_or (number_beside c.each.by_name n) (position_from (defines n) c.each.number xs)) gone ∙ option_or-none (number_beside c.each.by_name n))
