use Rattle.std.proofs.Common.{ℕ, arith}
use Rattle.rel_model.specs.Worker.{height_of_three}
use Rattle.rel_model.proofs.Rooms.{operator_room-most, derived_room-least}
use Rattle.rel_closure.proofs.Closing.{diagonal-all, empty-identity, gives_as, identity_room}
use Rattle.rel_closure.proofs.reflexive.identity.Goals as goal

pub returns-in_err-none-clause-room : goal.returns-in_err-none-clause-room
returns-in_err-none-clause-room g c =
    let n : ℕ = c.args.n in
    let a = c.in_err-none.ensures.room in
    let u = operator_room-most n n (height_of_three n n n) (omega arith) (omega arith) in
    let least = derived_room-least n n n in
    omega (arith, a, u, least)

pub returns-then-n-eq0-clause-value : goal.returns-then-n-eq0-clause-value
returns-then-n-eq0-clause-value g c = gives_as (g.C.Core.worker c.empty.new.self) c.args.n c.args.n _ _ c.in_ok-none.none (empty-identity c.args.n c.if-n-eq0.true) c.in_ok-none.ensures.value

pub returns-then-n-eq0-clause-room : goal.returns-then-n-eq0-clause-room
returns-then-n-eq0-clause-room g c =
    let n : ℕ = c.args.n in
    let a = c.in_ok-none.ensures.room in
    let u = operator_room-most n n (height_of_three n n n) (omega arith) (omega arith) in
    let least = derived_room-least n n n in
    omega (arith, a, u, least)

pub returns-in_err-all-clause-room : goal.returns-in_err-all-clause-room
returns-in_err-all-clause-room g c =
    let a = c.in_err-all.ensures.room in
    let u = identity_room c.args.n c.requires.limit in
    omega (arith, a, u)

pub returns-clause-value : goal.returns-clause-value
returns-clause-value g c = gives_as (g.C.Core.worker c.part.new.core) c.args.n c.args.n _ _ c.in_ok-all.all (diagonal-all c.args.n) c.in_ok-all.ensures.value

pub returns-clause-room : goal.returns-clause-room
returns-clause-room g c =
    let a = c.in_ok-all.ensures.room in
    let u = identity_room c.args.n c.requires.limit in
    omega (arith, a, u)
