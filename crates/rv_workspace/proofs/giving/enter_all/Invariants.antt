use Rattle.std.proofs.Common.{◌≡◌, ◌++◌, ◌+◌, length, vec_len, vec_capacity}
use Rattle.std.specs.Vec.Iter.{into_iter_items}
use Rattle.rv_workspace.specs.Entering.{assigns}
use Rattle.rv_workspace.proofs.giving.enter_all.Given as goal

abbrev pub invariant-gifts : goal.invariant-gifts
invariant-gifts l =
    (goal.iterator-gifts).can_next l.gift-iterator × (goal.iterator-gifts).is_finite l.gift-iterator
    × (l.fn.list.items ≡ l.yielded ++ into_iter_items l.gift-iterator) × (l.history.items ≡ l.fn.history.items ++ assigns l.fn.session l.fn.command l.yielded)
    × (vec_len l.history ≡ vec_len l.fn.history + length l.yielded) × (vec_capacity l.history ≡ vec_capacity l.fn.history)
