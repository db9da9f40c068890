use Rattle.std.proofs.Common.{◌+◌, not, refl, sym, ap, ◌∙◌, arith}
use Rattle.fork_quads.proofs.Forking.{can_seen, keeps_sees, split_did, did_longer, did_all, groups_did, seat_can}
use Rattle.fork_quads.proofs.group.+groups.Goals as goal

pub group-found-requires : goal.group-found-requires
group-found-requires g t c =
    let m = c.min-count.ensures in
    let a = c.requires.some in
    let b = c.requires.more in
    seat_can _ c.args.nodes.now c.split-seat.new.self c.split-seat.result c.args.job c.args.from c.min-count.result c.args.past c.bottom.ensures.work c.split-seat.ensures refl (omega arith) (omega arith) c.requires.within c.requires.can

pub returns-then-from-count : goal.returns-then-from-count
returns-then-from-count g t c =
    did_all c.args.nodes.now c.join.new.self c.args.job c.args.from (c.args.from + c.min-count.result) c.args.past c.group-found.result c.if-from-count.true
    (split_did _ c.args.nodes.now c.split-seat.new.self c.split-seat.result c.group-found.new.nodes c.join.new.self c.args.job c.args.from (c.args.from + c.min-count.result) c.group-found.result c.requires.can c.bottom.ensures.work c.split-seat.ensures c.group-found.ensures c.join.ensures)

pub returns-then-is_err : goal.returns-then-is_err
returns-then-is_err g t c =
    let m = c.min-count.ensures in
    let b = c.requires.more in
    did_longer c.args.nodes.now c.join.new.self c.args.job c.args.from (c.args.from + c.min-count.result) c.args.past c.group-found.result (sym c.is_err.ensures.value ∙ c.if-is_err.true) (omega arith) (omega arith)
    (split_did _ c.args.nodes.now c.split-seat.new.self c.split-seat.result c.group-found.new.nodes c.join.new.self c.args.job c.args.from (c.args.from + c.min-count.result) c.group-found.result c.requires.can c.bottom.ensures.work c.split-seat.ensures c.group-found.ensures c.join.ensures)

pub groups-rest-requires : goal.groups-rest-requires
groups-rest-requires g t c κs within =
    let d = split_did _ c.args.nodes.now c.split-seat.new.self c.split-seat.result c.group-found.new.nodes c.join.new.self c.args.job c.args.from (c.args.from + c.min-count.result) c.group-found.result c.requires.can c.bottom.ensures.work c.split-seat.ensures c.group-found.ensures c.join.ensures in
    let can = can_seen c.args.nodes.now c.join.new.self c.args.job (keeps_sees _ c.args.nodes.now c.join.new.self d.keeps) c.requires.can in
    let m = c.min-count.ensures in
    let a = c.requires.some in
    let b = c.requires.more in
    let n = c.if-from-count.false in
    let f = c.decreases in
    let s = c.requires.seats in
    let k = d.keeps.spare in
    (omega (arith, m, a, b, f), (within.0, (within.1, (can, (a, (omega (arith, s, k), (omega (arith, m, a, b, n), c.requires.within)))))))

pub returns : goal.returns
returns g t c =
    let m = c.min-count.ensures in
    let b = c.requires.more in
    let d = split_did _ c.args.nodes.now c.split-seat.new.self c.split-seat.result c.group-found.new.nodes c.join.new.self c.args.job c.args.from (c.args.from + c.min-count.result) c.group-found.result c.requires.can c.bottom.ensures.work c.split-seat.ensures c.group-found.ensures c.join.ensures in
    groups_did c.args.nodes.now c.join.new.self c.groups-rest.new.nodes c.args.job c.args.from (c.args.from + c.min-count.result) c.args.past c.group-found.result c.groups-rest.result c.both.result (c.is_err.ensures.negation ∙ ap not c.if-is_err.false)
    c.requires.can (omega arith) (omega arith) c.requires.within d c.groups-rest.ensures c.both.ensures
