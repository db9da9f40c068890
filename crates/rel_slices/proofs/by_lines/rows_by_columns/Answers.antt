use Rattle.std.proofs.Common.{◌∙◌, ℕ, Bool, false, ap, arith}
use Rattle.rel_slices.specs.Rooms.{meeting_room, whole_room}
use Rattle.rel_slices.proofs.Putting.{lines_stand}
use Rattle.rel_slices.proofs.Valuing.{recast_value, whole_value, lines_value}
use Rattle.rel_slices.proofs.Products.{rows_columns_value}
use Rattle.rel_slices.proofs.by_lines.rows_by_columns.Goals as goal

pub assembled-requires : goal.assembled-requires
assembled-requires g c = lines_stand (g.C.Core.worker c.meets.new.core) _ _ _ _ c.in_ok-lines.lines c.in_ok-lines.ensures.lines

pub returns-in_err-lines-clause-room : goal.returns-in_err-lines-clause-room
unfolding meeting_room
returns-in_err-lines-clause-room g c = let a = c.in_err-lines.ensures.room in omega (arith, a)

pub returns-in_err-product-clause-room : goal.returns-in_err-product-clause-room
unfolding meeting_room
returns-in_err-product-clause-room g c =
    let a = c.in_ok-lines.ensures.room in
    let b = c.in_err-product.ensures.room in
    let p = c.in_ok-lines.ensures.lines in
    let s = c.in_ok-lines.lines in
    let e = ap (λ (x : Bool). whole_room g.C.Core.least x s.count s.other) p.turned_is ∙ ap (λ (x : ℕ). whole_room g.C.Core.least false x s.other) p.count_is ∙ ap (λ (x : ℕ). whole_room g.C.Core.least false c.args.a.now.count x) p.other_is in
    omega (arith, a, b, e)

pub returns-clause-room : goal.returns-clause-room
unfolding meeting_room
returns-clause-room g c =
    let a = c.in_ok-lines.ensures.room in
    let b = c.in_ok-product.ensures.room in
    let p = c.in_ok-lines.ensures.lines in
    let s = c.in_ok-lines.lines in
    let e = ap (λ (x : Bool). whole_room g.C.Core.least x s.count s.other) p.turned_is ∙ ap (λ (x : ℕ). whole_room g.C.Core.least false x s.other) p.count_is ∙ ap (λ (x : ℕ). whole_room g.C.Core.least false c.args.a.now.count x) p.other_is in
    omega (arith, a, b, e)

pub returns-clause-value : goal.returns-clause-value
returns-clause-value g c =
    let w1 = g.C.Core.worker c.meets.new.core in
    let w2 = g.C.Core.worker c.assembled.new.core in
    let v = lines_value w1 _ _ _ _ c.in_ok-lines.lines c.in_ok-lines.ensures.lines in
    recast_value w2 _ _ _ _ _ _ _ v.row_size v.col_size (v.means ∙ rows_columns_value (g.C.Core.worker c.args.core.now) c.args.a.now c.args.b.now c.requires.rows c.requires.columns c.requires.middle)
    (whole_value w2 _ _ _ c.in_ok-product.product c.in_ok-product.ensures.value)
