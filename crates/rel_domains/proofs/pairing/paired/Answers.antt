use Rattle.std.proofs.Common.{◌∙◌, refl, sym, arith}
use Rattle.rel_domains.proofs.Pairwise.{paired_rooms, pairing_given}
use Rattle.rel_domains.proofs.pairing.paired.Goals as goal

pub returns-in_err-left-clause-room : goal.returns-in_err-left-clause-room
returns-in_err-left-clause-room g c =
    let r = paired_rooms c.args.r.rows c.args.s.rows c.args.r.cols c.args.s.cols c.args.cols c.args.r.rows c.args.cols (g.met.Q.Core.col_limit c.args.q.now c.args.r c.requires.left) (g.met.Q.Core.col_limit c.args.q.now c.args.s c.requires.right) c.requires.rows refl refl in
    omega (arith, r, c.in_err-left.ensures.room)

pub returns-in_err-right-clause-room : goal.returns-in_err-right-clause-room
returns-in_err-right-clause-room g c =
    let r = paired_rooms c.args.r.rows c.args.s.rows c.args.r.cols c.args.s.cols c.args.cols c.args.r.rows c.args.cols (g.met.Q.Core.col_limit c.args.q.now c.args.r c.requires.left) (g.met.Q.Core.col_limit c.args.q.now c.args.s c.requires.right) c.requires.rows refl refl in
    omega (arith, r, c.in_ok-left.ensures.room, c.in_err-right.ensures.room)

pub returns-in_err-both-clause-room : goal.returns-in_err-both-clause-room
returns-in_err-both-clause-room g c =
    let r = paired_rooms c.args.r.rows c.args.s.rows c.args.r.cols c.args.s.cols c.args.cols _ _ (g.met.Q.Core.col_limit c.args.q.now c.args.r c.requires.left) (g.met.Q.Core.col_limit c.args.q.now c.args.s c.requires.right) c.requires.rows c.in_ok-left.ensures.value.row_size c.in_ok-left.ensures.value.col_size in
    omega (arith, r, c.in_ok-left.ensures.room, c.in_ok-right.ensures.room, c.in_err-both.ensures.room)

pub returns-clause-room : goal.returns-clause-room
returns-clause-room g c =
    let r = paired_rooms c.args.r.rows c.args.s.rows c.args.r.cols c.args.s.cols c.args.cols _ _ (g.met.Q.Core.col_limit c.args.q.now c.args.r c.requires.left) (g.met.Q.Core.col_limit c.args.q.now c.args.s c.requires.right) c.requires.rows c.in_ok-left.ensures.value.row_size c.in_ok-left.ensures.value.col_size in
    omega (arith, r, c.in_ok-left.ensures.room, c.in_ok-right.ensures.room, c.in_ok-both.ensures.room)

pub returns-clause-value : goal.returns-clause-value
returns-clause-value g c =
    let laws = g.met.Q.Core in
    let o = c.args.q.now in
    pairing_given _ _ _ _ c.args.r.rows c.args.r.cols c.args.s.cols c.args.cols c.max-by.result c.args.r c.args.s c.in_ok-left.left c.in_ok-right.right c.in_ok-both.both
    (record { valid = laws.valid o c.args.r c.requires.left; row_size = laws.row_size o c.args.r c.requires.left; col_size = laws.col_size o c.args.r c.requires.left })
    (record { valid = laws.valid o c.args.s c.requires.right; row_size = laws.row_size o c.args.s c.requires.right ∙ sym c.requires.rows; col_size = laws.col_size o c.args.s c.requires.right })
    c.requires.cols c.max-by.ensures c.requires.right c.in_ok-left.ensures.keeps c.in_ok-right.ensures.keeps c.in_ok-left.ensures.value c.in_ok-right.ensures.value c.in_ok-both.ensures.value
