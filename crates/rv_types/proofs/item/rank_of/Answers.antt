use Rattle.std.proofs.Common.{◌-◌, ◌^◌, arith}
use Rattle.rv_types.proofs.Ranks.{called_by_item-within}
use Rattle.rv_types.proofs.item.rank_of.Goals as goal

pub overflow_add-result : goal.overflow_add-result
overflow_add-result c =
    let w = called_by_item-within c.args.earlier.now (2 ^ 64 - 2) c.requires c.args.item.now in
    omega (arith, c.greatest_called_by_item.ensures)
