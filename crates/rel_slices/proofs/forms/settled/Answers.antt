use Rattle.std.proofs.Common.{◌<◌, cond, Bool, ap, arith}
use Rattle.std.proofs.lemmas.Bool.{lt-ltb}
use Rattle.rel_slices.specs.Rooms.{whole_room, settled_room}
use Rattle.rel_slices.proofs.forms.settled.Goals as goal

pub returns-in_err-all-clause-room : goal.returns-in_err-all-clause-room
unfolding settled_room
returns-in_err-all-clause-room g c =
    let s = c.args.lines.now in
    let a = c.in_err-all.ensures.room in
    let n : s.other < 257 = omega arith in
    let e = ap (λ (x : Bool). cond x (whole_room g.C.Core.least s.turned s.count s.other) 0) (lt-ltb s.other 257 n) in
    omega (arith, a, e)

pub returns-clause-room : goal.returns-clause-room
unfolding settled_room
returns-clause-room g c =
    let s = c.args.lines.now in
    let a = c.in_ok-all.ensures.room in
    let n : s.other < 257 = omega arith in
    let e = ap (λ (x : Bool). cond x (whole_room g.C.Core.least s.turned s.count s.other) 0) (lt-ltb s.other 257 n) in
    omega (arith, a, e)
