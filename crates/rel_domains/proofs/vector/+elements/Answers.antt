use Rattle.std.proofs.Common.{◌≡◌, ◌^◌, ◌∙◌, ap, arith}
use Rattle.rel_model.specs.Cells.{bits_cells}
use Rattle.rel_model.specs.Choice.{count_below}
use Rattle.rel_model.specs.Worker.{quad_set}
use Rattle.rel_domains.specs.Ranks.{first_column}
use Rattle.rel_steps.proofs.Given.{kept_set}
use Rattle.rel_domains.proofs.Halves.{none_count, count_limit, halves_count, one_quad}
use Rattle.rel_domains.proofs.vector.+elements.Goals as goal

pub returns-then-is_empty-clause-count : goal.returns-then-is_empty-clause-count
returns-then-is_empty-clause-count g t c =
    let laws = g.met.Q.Quads in
    let v = c.args.vector in
    none_count (g.Q.Core.worker c.args.q.now) v (laws.none c.args.q.now v.height (laws.low_height c.args.q.now v c.requires) (laws.high_height c.args.q.now v c.requires)) (c.is_empty.ensures.empty c.if-is_empty.true)

pub returns-then-vector-bottom-clause-limit : goal.returns-then-vector-bottom-clause-limit
returns-then-vector-bottom-clause-limit g t c =
    let h = g.met.Q.Quads.high_height c.args.q.now c.args.vector c.requires in
    let l = count_limit c.args.vector.height (first_column (bits_cells (2 ^ c.args.vector.height) c.bits.result)) h in
    omega (arith, c.count_in.ensures, l)

pub returns-then-lower-upper-clause-count : goal.returns-then-lower-upper-clause-count
returns-then-lower-upper-clause-count g t c =
    let q = c.quarters.ensures.quarters in
    let w = g.Q.Core.worker c.quarters.new.self in
    let s = halves_count _ _ c.args.vector c.quarters.result q in
    let same = one_quad c.quarters.result.sw c.quarters.result.nw (omega arith) c.if-lower-upper.true in
    let e : count_below (2 ^ c.quarters.result.sw.height) (first_column (quad_set w c.quarters.result.sw)) ≡ count_below (2 ^ c.quarters.result.nw.height) (first_column (quad_set w c.quarters.result.nw)) = ap (λ p. count_below (2 ^ p.height) (first_column (quad_set w p))) same in
    omega (arith, s, e, c.elements-above.ensures.count)

pub returns-then-lower-upper-clause-limit : goal.returns-then-lower-upper-clause-limit
returns-then-lower-upper-clause-limit g t c =
    let q = c.quarters.ensures.quarters in
    let w = g.Q.Core.worker c.quarters.new.self in
    let s = halves_count _ _ c.args.vector c.quarters.result q in
    let same = one_quad c.quarters.result.sw c.quarters.result.nw (omega arith) c.if-lower-upper.true in
    let e : count_below (2 ^ c.quarters.result.sw.height) (first_column (quad_set w c.quarters.result.sw)) ≡ count_below (2 ^ c.quarters.result.nw.height) (first_column (quad_set w c.quarters.result.nw)) = ap (λ p. count_below (2 ^ p.height) (first_column (quad_set w p))) same in
    let h = g.met.Q.Quads.high_height c.args.q.now c.args.vector c.requires in
    let l = count_limit c.args.vector.height (first_column (quad_set (g.Q.Core.worker c.args.q.now) c.args.vector)) h in
    omega (arith, s, e, c.elements-above.ensures.count, l)

pub returns-clause-count : goal.returns-clause-count
returns-clause-count g t c =
    let q = c.quarters.ensures.quarters in
    let s = halves_count _ _ c.args.vector c.quarters.result q in
    let k = kept_set _ _ c.quarters.result.sw c.elements-above.ensures.keeps q.sw in
    let b = c.elements-below.ensures.count ∙ ap (λ f. count_below (2 ^ c.quarters.result.sw.height) (first_column f)) k in
    omega (arith, s, c.elements-above.ensures.count, b)

pub returns-clause-limit : goal.returns-clause-limit
returns-clause-limit g t c =
    let q = c.quarters.ensures.quarters in
    let s = halves_count _ _ c.args.vector c.quarters.result q in
    let k = kept_set _ _ c.quarters.result.sw c.elements-above.ensures.keeps q.sw in
    let b = c.elements-below.ensures.count ∙ ap (λ f. count_below (2 ^ c.quarters.result.sw.height) (first_column f)) k in
    let h = g.met.Q.Quads.high_height c.args.q.now c.args.vector c.requires in
    let l = count_limit c.args.vector.height (first_column (quad_set (g.Q.Core.worker c.args.q.now) c.args.vector)) h in
    omega (arith, s, c.elements-above.ensures.count, b, l)
