use Rattle.std.proofs.Common.{◌∙◌, sym, arith}
use Rattle.rel_closure.proofs.Closing.{reflexive_given, reflexive_rooms}
use Rattle.rel_closure.proofs.reflexive.refl.Goals as goal

pub returns-in_err-same-clause-room : goal.returns-in_err-same-clause-room
returns-in_err-same-clause-room g c = omega (arith, reflexive_rooms c.args.r.rows c.args.r.cols c.requires.square, c.in_err-same.ensures.room)

pub returns-in_err-both-clause-room : goal.returns-in_err-both-clause-room
returns-in_err-both-clause-room g c = omega (arith, reflexive_rooms c.args.r.rows c.args.r.cols c.requires.square, c.in_ok-same.ensures.room, c.in_err-both.ensures.room)

pub returns-clause-room : goal.returns-clause-room
returns-clause-room g c = omega (arith, reflexive_rooms c.args.r.rows c.args.r.cols c.requires.square, c.in_ok-same.ensures.room, c.in_ok-both.ensures.room)

pub returns-clause-value : goal.returns-clause-value
returns-clause-value g c =
    let laws = g.met.C.Core in
    let o = c.args.core.now in
    reflexive_given (g.C.Core.worker o) (g.C.Core.worker c.identity.new.core) (g.C.Core.worker c.union.new.self) c.args.r c.in_ok-same.same c.in_ok-both.both
    (record { valid = laws.valid o c.args.r c.requires.standing; row_size = laws.row_size o c.args.r c.requires.standing; col_size = laws.col_size o c.args.r c.requires.standing ∙ sym c.requires.square })
    c.requires.standing c.in_ok-same.ensures.keeps c.in_ok-same.ensures.value c.in_ok-both.ensures.value
