use Rattle.std.proofs.Common.{rules, ◌≡◌, ◌<◌, ◌+◌, ◌-◌, arith}
use Rattle.fork_quads.specs.Forks.{CanGroup, CanDo, DidPieces}
use Rattle.fork_quads.proofs.Forking.{group_rest, group_last, both_did, did_all}
use Rattle.fork_quads.proofs.group.+fn-watched-join_mut+arg3+watched.Goals as goal

pub join_mut-second-requires-after_bounds : goal.join_mut-second-requires-after_bounds
join_mut-second-requires-after_bounds g t c κs within =
    let n = c.if-count-eq1.false in
    let d = c.decreases in
    let some = c.requires.some in
    let w = c.requires.within in
    let x : c.args.count - 1 < t = omega (arith, n, d, some) in
    let y : c.args.from + (c.args.count - 1) < 64 = omega (arith, some, w) in
    let a : CanGroup c.split-other.new.self c.args.job c.args.from (c.args.count - 1) = group_rest c.args.nodes.now c.split-other.new.self c.split-other.result c.args.job c.args.from c.args.count c.bottom.ensures.work c.split-other.ensures n c.requires in
    let b : CanDo c.split-other.result c.args.job = group_last c.args.nodes.now c.split-other.new.self c.split-other.result c.args.job c.args.from c.args.count c.bottom.ensures.work c.split-other.ensures c.requires in
    search (rules, a, b, x, y)

pub returns : goal.returns
returns g t c =
    let w = c.requires.within in
    let some = c.requires.some in
    let own = c.nodes-1.given.0 in
    let theirs = c.other-2-1.given.0 in
    let middle = c.args.from + (c.args.count - 1) in
    let a : DidPieces c.split-other.new.self own c.args.job c.args.from middle c.join_mut-second.result.1 = search rules in
    let b : DidPieces c.split-other.result theirs c.args.job middle (middle + 1) c.join_mut-second.result.0 = search rules in
    let e : middle + 1 ≡ c.args.from + c.args.count = omega (arith, some) in
    did_all c.args.nodes.now c.join.new.self c.args.job c.args.from (middle + 1) (c.args.from + c.args.count) c.both.result e
    (both_did 0 c.args.nodes.now c.split-other.new.self c.split-other.result own theirs c.join.new.self c.args.job c.args.from middle (middle + 1)
    c.join_mut-second.result.1 c.join_mut-second.result.0 c.both.result c.requires.can (omega arith) (omega arith) (omega (arith, some, w)) c.bottom.ensures.work c.split-other.ensures a b c.join.ensures c.both.ensures)
