use Rattle.std.proofs.Common.{◌≡◌, ◌++◌, arith}
use Rattle.std.proofs.lemmas.Grind.{common_steps}
use Rattle.rel_plain.proofs.Turning.{turned_merge}
use Rattle.rel_plain.proofs.turn.+turned.Goals as goal

pub returns : goal.returns
returns t c =
    let front = c.split_at.result.0.now in
    let back = c.split_at.result.1.now in
    let whole : front ++ back ≡ c.args.pairs.now = grind (arith, common_steps, c.split_at.ensures.front, c.split_at.ensures.back) in
    turned_merge c.args.pairs.now front back c.in_ok-left.left.items c.in_ok-right.right.items c.in_ok-out.out.items whole c.in_ok-left.ensures c.in_ok-right.ensures
    (rw (← c.as_slice.ensures.value, ← c.as_slice-2.ensures.value) c.in_ok-out.ensures)

pub merged-requires-clause-left : goal.merged-requires-clause-left
merged-requires-clause-left t c = rw c.as_slice.ensures.value c.in_ok-left.ensures.increasing

pub merged-requires-clause-right : goal.merged-requires-clause-right
merged-requires-clause-right t c = rw c.as_slice-2.ensures.value c.in_ok-right.ensures.increasing
