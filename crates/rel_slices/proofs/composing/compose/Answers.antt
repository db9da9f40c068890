use Rattle.std.proofs.Common.{◌≡◌, ◌≤◌, ◌*◌, ◌∙◌, ℕ, refl, sym, subst, ap, arith, inl, inr}
use Rattle.rel_slices.specs.Thin.{most_lines, HasForm, IsLines, value_rows, value_cols}
use Rattle.rel_slices.specs.Rooms.{line_tree_room, outer_room}
use Rattle.rel_slices.proofs.Valuing.{rows_after, columns_after}
use Rattle.rel_slices.proofs.Costs.{images_cost, coimages_cost, few_cost, turned_few_cost, many_cost, turned_many_cost, outers_cost, meetings_cost, thin_product}
use Rattle.rel_slices.proofs.Deriving.{pair, rows_as, cols_as, by_pair}
use Rattle.rel_slices.proofs.composing.compose.Goals as goal

pub returns-then-b-clause-thin : goal.returns-then-b-clause-thin
returns-then-b-clause-thin g c = λ e some.
    let p = pair (g.C.Core.worker c.args.core.now) (g.met.C.Core.row_limit c.args.core.now) (g.met.C.Core.col_limit c.args.core.now) c.in-Whole.is c.in-Lines-y.is c.requires.left c.requires.right c.requires.middle in
    let r = c.in-Whole.r in
    let b = c.in-Lines-y.b in
    let m = by_pair p refl refl (cols_as b c.if-b.true) (coimages_cost g.C.Core.least r.rows r.cols b.count e p.right.few) in
    omega (arith, c.whole_by_columns.ensures.room, m)

pub returns-then-b-clause-cost : goal.returns-then-b-clause-cost
returns-then-b-clause-cost g c = λ e. omega (arith, returns-then-b-clause-thin g c e (inr (inl (subst IsLines (sym c.in-Lines-y.is) tt))), thin_product (value_rows c.args.x.now) (value_cols c.args.x.now) (value_cols c.args.y.now))

pub returns-then-r-le-MOST-clause-thin : goal.returns-then-r-le-MOST-clause-thin
returns-then-r-le-MOST-clause-thin g c = λ e some.
    let p = pair (g.C.Core.worker c.args.core.now) (g.met.C.Core.row_limit c.args.core.now) (g.met.C.Core.col_limit c.args.core.now) c.in-Whole.is c.in-Lines-y.is c.requires.left c.requires.right c.requires.middle in
    let r = c.in-Whole.r in
    let b = c.in-Lines-y.b in
    let m = by_pair p refl (p.middle ∙ rows_as b c.if-b.false) (cols_as b c.if-b.false) (few_cost g.C.Core.least r.rows b.count b.other e p.right.few) in
    omega (arith, c.few_by_rows.ensures.room, m)

pub returns-then-r-le-MOST-clause-cost : goal.returns-then-r-le-MOST-clause-cost
returns-then-r-le-MOST-clause-cost g c = λ e. omega (arith, returns-then-r-le-MOST-clause-thin g c e (inr (inl (subst IsLines (sym c.in-Lines-y.is) tt))), thin_product (value_rows c.args.x.now) (value_cols c.args.x.now) (value_cols c.args.y.now))

pub returns-else-r-le-MOST-clause-thin : goal.returns-else-r-le-MOST-clause-thin
returns-else-r-le-MOST-clause-thin g c = λ e some.
    let p = pair (g.C.Core.worker c.args.core.now) (g.met.C.Core.row_limit c.args.core.now) (g.met.C.Core.col_limit c.args.core.now) c.in-Whole.is c.in-Lines-y.is c.requires.left c.requires.right c.requires.middle in
    let r = c.in-Whole.r in
    let b = c.in-Lines-y.b in
    let few : r.cols ≤ most_lines = omega (arith, p.right.few, p.middle ∙ rows_as b c.if-b.false) in
    let m = by_pair p refl refl (cols_as b c.if-b.false) (many_cost g.C.Core.least r.rows r.cols b.other e few) in
    omega (arith, c.many_by_rows.ensures.room, m)

pub returns-else-r-le-MOST-clause-cost : goal.returns-else-r-le-MOST-clause-cost
returns-else-r-le-MOST-clause-cost g c = λ e. omega (arith, returns-else-r-le-MOST-clause-thin g c e (inr (inl (subst IsLines (sym c.in-Lines-y.is) tt))), thin_product (value_rows c.args.x.now) (value_cols c.args.x.now) (value_cols c.args.y.now))

pub returns-then-not-a-clause-thin : goal.returns-then-not-a-clause-thin
returns-then-not-a-clause-thin g c = λ e some.
    let p = pair (g.C.Core.worker c.args.core.now) (g.met.C.Core.row_limit c.args.core.now) (g.met.C.Core.col_limit c.args.core.now) c.in-Lines.is c.in-Whole-y-2.is c.requires.left c.requires.right c.requires.middle in
    let a = c.in-Lines.a in
    let s = c.in-Whole-y-2.s in
    let m = by_pair p (rows_as a c.if-not-a.true) (cols_as a c.if-not-a.true) refl (images_cost g.C.Core.least a.count a.other s.cols e p.left.few) in
    omega (arith, c.rows_by_whole.ensures.room, m)

pub returns-then-not-a-clause-cost : goal.returns-then-not-a-clause-cost
returns-then-not-a-clause-cost g c = λ e. omega (arith, returns-then-not-a-clause-thin g c e (inl (subst IsLines (sym c.in-Lines.is) tt)), thin_product (value_rows c.args.x.now) (value_cols c.args.x.now) (value_cols c.args.y.now))

pub returns-then-s-le-MOST-clause-thin : goal.returns-then-s-le-MOST-clause-thin
returns-then-s-le-MOST-clause-thin g c = λ e some.
    let p = pair (g.C.Core.worker c.args.core.now) (g.met.C.Core.row_limit c.args.core.now) (g.met.C.Core.col_limit c.args.core.now) c.in-Lines.is c.in-Whole-y-2.is c.requires.left c.requires.right c.requires.middle in
    let a = c.in-Lines.a in
    let s = c.in-Whole-y-2.s in
    let em : a.count ≡ s.rows = sym (cols_as a c.if-not-a.false) ∙ p.middle in
    let few : s.rows ≤ most_lines = omega (arith, p.left.few, em) in
    let m = by_pair p (rows_as a c.if-not-a.false) p.middle refl (turned_few_cost g.C.Core.least a.other s.rows s.cols e few) in
    omega (arith, c.columns_by_few.ensures.room, m, ap (λ (t : ℕ). s.cols * (t * line_tree_room g.C.Core.least a.other)) em)

pub returns-then-s-le-MOST-clause-cost : goal.returns-then-s-le-MOST-clause-cost
returns-then-s-le-MOST-clause-cost g c = λ e. omega (arith, returns-then-s-le-MOST-clause-thin g c e (inl (subst IsLines (sym c.in-Lines.is) tt)), thin_product (value_rows c.args.x.now) (value_cols c.args.x.now) (value_cols c.args.y.now))

pub returns-else-s-le-MOST-clause-thin : goal.returns-else-s-le-MOST-clause-thin
returns-else-s-le-MOST-clause-thin g c = λ e some.
    let p = pair (g.C.Core.worker c.args.core.now) (g.met.C.Core.row_limit c.args.core.now) (g.met.C.Core.col_limit c.args.core.now) c.in-Lines.is c.in-Whole-y-2.is c.requires.left c.requires.right c.requires.middle in
    let a = c.in-Lines.a in
    let s = c.in-Whole-y-2.s in
    let em : a.count ≡ s.rows = sym (cols_as a c.if-not-a.false) ∙ p.middle in
    let few : s.rows ≤ most_lines = omega (arith, p.left.few, em) in
    let m = by_pair p (rows_as a c.if-not-a.false) p.middle refl (turned_many_cost g.C.Core.least a.other s.rows s.cols e few) in
    omega (arith, c.columns_by_many.ensures.room, m, ap (λ (t : ℕ). t * outer_room g.C.Core.least a.other s.cols) em)

pub returns-else-s-le-MOST-clause-cost : goal.returns-else-s-le-MOST-clause-cost
returns-else-s-le-MOST-clause-cost g c = λ e. omega (arith, returns-else-s-le-MOST-clause-thin g c e (inl (subst IsLines (sym c.in-Lines.is) tt)), thin_product (value_rows c.args.x.now) (value_cols c.args.x.now) (value_cols c.args.y.now))

pub returns-then-a-clause-thin : goal.returns-then-a-clause-thin
returns-then-a-clause-thin g c = λ e some.
    let p = pair (g.C.Core.worker c.args.core.now) (g.met.C.Core.row_limit c.args.core.now) (g.met.C.Core.col_limit c.args.core.now) c.in-Lines.is c.in-Lines-y-2.is c.requires.left c.requires.right c.requires.middle in
    let a = c.in-Lines.a in
    let b = c.in-Lines-y-2.b in
    let turned = rows_after b a.count (sym (cols_as a c.if-a.true) ∙ p.middle) p.left.few (subst HasForm c.in-Lines-y-2.is c.requires.right_form) in
    let m = by_pair p (rows_as a c.if-a.true) (cols_as a c.if-a.true) (cols_as b turned) (outers_cost g.C.Core.least a.other a.count b.other e p.left.few) in
    omega (arith, c.columns_by_rows.ensures.room, m)

pub returns-then-a-clause-cost : goal.returns-then-a-clause-cost
returns-then-a-clause-cost g c = λ e. omega (arith, returns-then-a-clause-thin g c e (inl (subst IsLines (sym c.in-Lines.is) tt)), thin_product (value_rows c.args.x.now) (value_cols c.args.x.now) (value_cols c.args.y.now))

pub returns-else-a-clause-thin : goal.returns-else-a-clause-thin
returns-else-a-clause-thin g c = λ e some.
    let p = pair (g.C.Core.worker c.args.core.now) (g.met.C.Core.row_limit c.args.core.now) (g.met.C.Core.col_limit c.args.core.now) c.in-Lines.is c.in-Lines-y-2.is c.requires.left c.requires.right c.requires.middle in
    let a = c.in-Lines.a in
    let b = c.in-Lines-y-2.b in
    let turned = columns_after b a.other (sym (cols_as a c.if-a.false) ∙ p.middle) p.right.few (subst HasForm c.in-Lines.is c.requires.left_form) in
    let m = by_pair p (rows_as a c.if-a.false) (cols_as a c.if-a.false) (cols_as b turned) (meetings_cost g.C.Core.least a.count a.other b.count e p.left.few p.right.few) in
    omega (arith, c.rows_by_columns.ensures.room, m)

pub returns-else-a-clause-cost : goal.returns-else-a-clause-cost
returns-else-a-clause-cost g c = λ e. omega (arith, returns-else-a-clause-thin g c e (inl (subst IsLines (sym c.in-Lines.is) tt)), thin_product (value_rows c.args.x.now) (value_cols c.args.x.now) (value_cols c.args.y.now))
