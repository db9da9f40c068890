use Rattle.std.proofs.Common.{◌∙◌, refl, arith}
use Rattle.rel_domains.proofs.Pairwise.{through_rooms}
use Rattle.rel_domains.proofs.pairing.through.Goals as goal

pub returns-in_err-ruled-clause-room : goal.returns-in_err-ruled-clause-room
returns-in_err-ruled-clause-room g c = omega (arith, through_rooms c.args.r.rows c.args.r.cols c.args.cols c.args.cols c.args.r.cols c.args.cols refl refl refl, c.in_err-ruled.ensures.room)

pub returns-in_err-turned-clause-room : goal.returns-in_err-turned-clause-room
returns-in_err-turned-clause-room g c =
    let v = c.in_ok-ruled.ensures.value in
    omega (arith, through_rooms c.args.r.rows c.args.r.cols c.args.cols _ _ c.args.cols v.row_size v.col_size refl, c.in_ok-ruled.ensures.room, c.in_err-turned.ensures.room)

pub returns-in_err-joined-clause-room : goal.returns-in_err-joined-clause-room
returns-in_err-joined-clause-room g c =
    let v = c.in_ok-ruled.ensures.value in
    omega (arith, through_rooms c.args.r.rows c.args.r.cols c.args.cols _ _ _ v.row_size v.col_size (c.in_ok-turned.ensures.value.col_size ∙ v.row_size), c.in_ok-ruled.ensures.room, c.in_ok-turned.ensures.room, c.in_err-joined.ensures.room)

pub returns-clause-room : goal.returns-clause-room
returns-clause-room g c =
    let v = c.in_ok-ruled.ensures.value in
    omega (arith, through_rooms c.args.r.rows c.args.r.cols c.args.cols _ _ _ v.row_size v.col_size (c.in_ok-turned.ensures.value.col_size ∙ v.row_size), c.in_ok-ruled.ensures.room, c.in_ok-turned.ensures.room, c.in_ok-joined.ensures.room)
