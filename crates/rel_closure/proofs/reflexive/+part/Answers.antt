use Rattle.std.proofs.Common.{◌/◌, refl, arith}
use Rattle.rel_closure.proofs.Closing.{single-diagonal, halves_given, gives_as, part_room}
use Rattle.rel_closure.proofs.reflexive.+part.Goals as goal

pub returns-then-count-eq1-clause-value : goal.returns-then-count-eq1-clause-value
returns-then-count-eq1-clause-value g t c =
    gives_as (g.C.Core.worker c.single.new.self) c.args.n c.args.n _ _ c.in_ok-one.one (single-diagonal c.args.n c.args.first c.args.count c.if-count-eq1.true) c.in_ok-one.ensures.value

pub returns-in_err-right-clause-room : goal.returns-in_err-right-clause-room
returns-in_err-right-clause-room g t c = omega (arith, part_room c.args.n c.args.count c.args.n c.args.n c.requires.some c.if-count-eq1.false refl refl, c.in_ok-left.ensures.room, c.in_err-right.ensures.room)

pub returns-in_err-both-clause-room : goal.returns-in_err-both-clause-room
returns-in_err-both-clause-room g t c =
    let left = c.in_ok-left.ensures.value in
    omega (arith, part_room c.args.n c.args.count _ _ c.requires.some c.if-count-eq1.false left.row_size left.col_size, c.in_ok-left.ensures.room, c.in_ok-right.ensures.room, c.in_err-both.ensures.room)

pub returns-clause-room : goal.returns-clause-room
returns-clause-room g t c =
    let left = c.in_ok-left.ensures.value in
    omega (arith, part_room c.args.n c.args.count _ _ c.requires.some c.if-count-eq1.false left.row_size left.col_size, c.in_ok-left.ensures.room, c.in_ok-right.ensures.room, c.in_ok-both.ensures.room)

pub returns-clause-value : goal.returns-clause-value
returns-clause-value g t c =
    halves_given (g.C.Core.worker c.part.new.core) (g.C.Core.worker c.part-2.new.core) (g.C.Core.worker c.union.new.self) c.args.n c.args.first (c.args.count / 2) c.args.count c.in_ok-left.left c.in_ok-right.right c.in_ok-both.both
    (omega arith) c.in_ok-right.ensures.keeps c.in_ok-left.ensures.value c.in_ok-right.ensures.value c.in_ok-both.ensures.value
