use Rattle.std.proofs.Common.{◌≡◌, ◌∙◌, ◌+◌, [], drop, sym, ap}
use Rattle.std.proofs.Math.ListN.{drop_of_length-le}
use Rattle.lang_model.specs.Checking.{items_faults}
use Rattle.rv_types.specs.Found.{told, noted}
use Rattle.rv_types.proofs.Items.{noted-item}
use Rattle.rv_types.proofs.Ranks.{RanksWithin-item}
use Rattle.rv_types.proofs.Order.{noted-first_fault}
use Rattle.rv_types.proofs.checked.find_fault.Goals as goal

pub each-preserved : goal.each-preserved
each-preserved c =
    let items = c.args.items.now in
    let k = c.each.item-index in
    let E = c.define.new.definitions in (
      c.each.invariant.0 ∙ noted-item (told c.each.found) c.each.definitions E items k c.item-item.result c.each-test.true c.item-item.is c.in_ok-define.ensures.known
          ∙ ap (λ u. noted u (items_faults E (drop (k + 1) items))) (sym c.in_ok-found.ensures.fault),
      RanksWithin-item c.each.definitions E k c.item-item.result c.each.invariant.1 c.in_ok-define.ensures.known,
    )

pub returns-clause-fault : goal.returns-clause-fault
returns-clause-fault c =
    let items = c.args.items.now in
    let gone : drop c.each.item-index items ≡ [] = drop_of_length-le items c.each-test.false in
    sym (c.each.invariant.0 ∙ ap (λ xs. noted (told c.each.found) (items_faults c.each.definitions xs)) gone) ∙ noted-first_fault (items_faults [] items)
