use Rattle.std.proofs.Common.{◌≡◌, ◌<◌, ◌-◌, ℕ, List, length, sym, subst, arith}
use Rattle.std.proofs.lemmas.Bool.Decides.{nat_tests}
use Rattle.rel_model.specs.declared.Quad.{Quad}
use Rattle.rel_model.specs.Relation.{size_limit}
use Rattle.rel_model.specs.Worker.{quad_set}
use Rattle.rel_listing.specs.Strips.{IsStrip}
use Rattle.rel_listing.proofs.Strips.{ok_then, strip_later, low_enough, half_rows, over_leaf, leaf_side}
use Rattle.rel_listing.proofs.Halves.{nothing_done, halves_done}
use Rattle.rel_listing.proofs.listing.+list_strip.Goals as goal

pub returns-then-is_empty-clause-pairs : goal.returns-then-is_empty-clause-pairs
returns-then-is_empty-clause-pairs g t c =
    let none : length c.args.strip.now ≡ 0 = grind (arith, nat_tests, c.is_empty.ensures, c.if-is_empty.true) in
    nothing_done (quad_set (g.Q.Core.worker c.args.q.now)) c.args.row c.args.strip.now c.args.pairs.now.items none

pub list_rows-requires-clause-small : goal.list_rows-requires-clause-small
list_rows-requires-clause-small g t c = leaf_side c.args.height c.bottom.result g.Q.Core.least c.side_of.result c.if-height-bottom.true c.bottom.ensures g.met.Q.Quads.least_limit c.side_of.ensures

-- ---- the upper half
pub list_strip-requires : goal.list_strip-requires
list_strip-requires g t c κs within =
    let o = over_leaf c.args.height c.bottom.result g.Q.Core.least c.if-height-bottom.false c.bottom.ensures c.requires.low in
    let r = half_rows c.args.height c.args.row (omega (arith, o)) c.requires.rows in
    let falls : c.args.height - 1 < t = omega (arith, o) in
    let strip = subst (λ (zs : List (Quad × ℕ)). IsStrip (g.Q.Core.worker c.halve.new.q) (c.args.height - 1) size_limit zs) (sym c.deref-2.ensures.value) c.in_ok-halve.ensures.halves.upper in
    (falls, (within, (strip, (omega (arith, o), omega (arith, r)))))

-- ---- the lower half
pub side_of-requires-2 : goal.side_of-requires-2
side_of-requires-2 g t c = let l = low_enough c.args.height c.args.row c.requires.rows in omega (arith, l)

pub overflow_add-middle : goal.overflow_add-middle
overflow_add-middle g t c =
    let o = over_leaf c.args.height c.bottom.result g.Q.Core.least c.if-height-bottom.false c.bottom.ensures c.requires.low in
    let r = half_rows c.args.height c.args.row (omega (arith, o)) c.requires.rows in
    omega (arith, r, c.side_of-2.ensures)

pub list_strip-requires-2 : goal.list_strip-requires-2
list_strip-requires-2 g t c κs within =
    let o = over_leaf c.args.height c.bottom.result g.Q.Core.least c.if-height-bottom.false c.bottom.ensures c.requires.low in
    let r = half_rows c.args.height c.args.row (omega (arith, o)) c.requires.rows in
    let falls : c.args.height - 1 < t = omega (arith, o) in
    let strip = subst (λ (zs : List (Quad × ℕ)). IsStrip (g.Q.Core.worker c.list_strip.new.q) (c.args.height - 1) size_limit zs) (sym c.deref-3.ensures.value) (strip_later c.in_ok-list_strip.ensures.reads.keeps c.in_ok-halve.ensures.halves.lower) in
    (falls, (within, (strip, (omega (arith, o), omega (arith, r, c.side_of-2.ensures)))))

pub returns-clause-pairs : goal.returns-clause-pairs
returns-clause-pairs g t c =
    ok_then c.list_strip-2.result
    (halves_done c.args.row (g.met.Q.Quads.square c.halve.new.q) c.side_of-2.ensures c.in_ok-halve.ensures.halves c.in_ok-list_strip.ensures.reads.keeps c.deref-2.ensures.value c.deref-3.ensures.value c.in_ok-list_strip.ensures.pairs)
    c.list_strip-2.ensures.pairs
