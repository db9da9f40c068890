use Rattle.std.proofs.Common.{◌∙◌, ℕ, sym, arith}
use Rattle.rel_model.specs.Worker.{height_of_three}
use Rattle.rel_model.proofs.Rooms.{operator_room-most, derived_room-least, wide_room-four}
use Rattle.rel_steps.proofs.Rooms.{as_high}
use Rattle.rel_closure.proofs.Closing.{reflexive_given}
use Rattle.rel_engine.proofs.identity.with_identity.Goals as goal

pub returns-in_err-same-clause-room : goal.returns-in_err-same-clause-room
returns-in_err-same-clause-room g c =
    let n : ℕ = c.args.r.rows in
    let a = c.in_err-same.ensures.room in
    let four = wide_room-four n n n in
    omega (arith, a, four)

pub returns-in_err-both-clause-room : goal.returns-in_err-both-clause-room
returns-in_err-both-clause-room g c =
    let n : ℕ = c.args.r.rows in
    let h : ℕ = height_of_three n n n in
    let a = c.in_ok-same.ensures.room in
    let b = c.in_err-both.ensures.room in
    let u = operator_room-most n c.args.r.cols h (omega arith) (as_high c.args.r.cols n h (sym c.requires.square) (omega arith)) in
    let least = derived_room-least n n n in
    let four = wide_room-four n n n in
    omega (arith, a, b, u, least, four)

pub returns-clause-value : goal.returns-clause-value
returns-clause-value g c =
    let laws = g.met.Q.Core in
    let o = c.args.q.now in
    reflexive_given (g.Q.Core.worker o) (g.Q.Core.worker c.identity_of.new.q) (g.Q.Core.worker c.union.new.self) c.args.r c.in_ok-same.same c.in_ok-both.both
    (record { valid = laws.valid o c.args.r c.requires.standing; row_size = laws.row_size o c.args.r c.requires.standing; col_size = laws.col_size o c.args.r c.requires.standing ∙ sym c.requires.square })
    c.requires.standing c.in_ok-same.ensures.keeps c.in_ok-same.ensures.value c.in_ok-both.ensures.value

pub returns-clause-room : goal.returns-clause-room
returns-clause-room g c =
    let n : ℕ = c.args.r.rows in
    let h : ℕ = height_of_three n n n in
    let a = c.in_ok-same.ensures.room in
    let b = c.in_ok-both.ensures.room in
    let u = operator_room-most n c.args.r.cols h (omega arith) (as_high c.args.r.cols n h (sym c.requires.square) (omega arith)) in
    let least = derived_room-least n n n in
    let four = wide_room-four n n n in
    omega (arith, a, b, u, least, four)
