use Rattle.std.proofs.Common.{◌≡◌, ◌+◌, ◌-◌, ◌^◌, ◌∙◌, ℕ, sym, ap, subst, arith}
use Rattle.rel_model.specs.declared.Quad.{Quad}
use Rattle.rel_model.specs.Relation.{has}
use Rattle.rel_model.specs.Quarters.{LiesWithin}
use Rattle.rel_model.specs.Roots.{height_over, relation_room, tree_room}
use Rattle.rel_model.specs.Worker.{Worker, HasQuad, set_of, quad_set, GivesQuad}
use Rattle.rel_steps.proofs.Given.{gives_quad_set, gives_has, kept_set}
use Rattle.rel_domains.specs.Ranks.{first_column, ranked}
use Rattle.rel_domains.proofs.Halves.{IsListed, root_high, root_count, ranks_height, ranks_within, inj_given}
use Rattle.rel_domains.proofs.Named.{rooms_derived}
use Rattle.rel_domains.proofs.Ruled.{side_limit, rule_room}
use Rattle.rel_domains.proofs.vector.inj.Given.{Over}
use Rattle.rel_domains.proofs.vector.inj.Goals.{After-bottom}
use Rattle.rel_domains.proofs.vector.inj.Goals as goal

-- ---- the vector
over : (g : Over) (c : After-bottom g) → g.Q.Core.least + (c.root-vector.result.height - c.bottom.result) ≡ height_over g.Q.Core.least c.args.v.rows c.args.v.cols
over g c = root_high g.Q.Core.least c.args.v.rows c.args.v.cols c.bottom.result c.root-vector.result.height c.bottom.ensures c.root-vector.ensures.same_height

stands : (g : Over) (c : After-bottom g) → HasQuad (g.Q.Core.worker c.args.q.now) c.root-vector.result
stands g c = gives_has _ _ _ c.root-vector.result c.root-vector.ensures

set : (g : Over) (c : After-bottom g) → quad_set (g.Q.Core.worker c.args.q.now) c.root-vector.result ≡ has (set_of (g.Q.Core.worker c.args.q.now) c.args.v)
set g c = gives_quad_set _ _ _ c.root-vector.result c.root-vector.ensures

listed : (g : Over) (c : After-bottom g) → IsListed g.Q.Core.least c.elements-many.result c.args.v.rows (g.Q.Core.least + (c.root-vector.result.height - c.bottom.result)) (set_of (g.Q.Core.worker c.args.q.now) c.args.v)
listed g c =
    let laws = g.met.Q.Core in
    let o = c.args.q.now in
    let e = over g c in
    record {
      valid = laws.valid o c.args.v c.requires.stands;
      rows = laws.row_size o c.args.v c.requires.stands;
      cols = laws.col_size o c.args.v c.requires.stands ∙ c.requires.one_column;
      limit = laws.row_limit o c.args.v c.requires.stands;
      high = e ∙ ap (height_over g.Q.Core.least c.args.v.rows) c.requires.one_column;
      all = root_count (g.Q.Core.worker o) c.elements-many.result _ _ c.root-vector.result (c.root-vector.ensures.same_height ∙ sym e) (set g c) c.elements-many.ensures.count;
    }

-- what is given of its quad is given of its set
given : (g : Over) (c : After-bottom g) (w : Worker) (h : ℕ) (q : Quad) → GivesQuad w h (ranked (2 ^ h) 0 0 (first_column (quad_set (g.Q.Core.worker c.elements-many.new.q) c.root-vector.result))) q
    → GivesQuad w h (ranked (2 ^ h) 0 0 (first_column (has (set_of (g.Q.Core.worker c.args.q.now) c.args.v)))) q
given g c w h q = subst (λ f. GivesQuad w h (ranked (2 ^ h) 0 0 (first_column f)) q) (kept_set (g.Q.Core.worker c.args.q.now) _ c.root-vector.result c.elements-many.ensures.keeps (stands g c) ∙ set g c)

tree_of : (g : Over) (c : After-bottom g) → tree_room (c.root-vector.result.height - c.bottom.result) ≡ relation_room g.Q.Core.least c.args.v.rows c.args.v.cols
tree_of g c = ap tree_room (omega (arith, over g c))

-- ---- what the calls ask for
pub ranks-requires-clause-row : goal.ranks-requires-clause-row
ranks-requires-clause-row g c =
    let s = stands g (goal.at.ranks-requires-clause-row g c).After-bottom in
    let h = g.met.Q.Quads.high_height c.args.q.now c.root-vector.result s in
    let l = g.met.Q.Quads.low_height c.args.q.now c.root-vector.result s in
    side_limit (g.Q.Core.least + (c.root-vector.result.height - c.bottom.result)) (omega (arith, h, l, c.bottom.ensures))

pub rel-requires-clause-height : goal.rel-requires-clause-height
rel-requires-clause-height g c = c.in-Ok.ensures.value.same_height ∙ ranks_height _ _ _ _ _ (listed g (goal.at.rel-requires-clause-height g c).After-bottom)

pub rel-requires-clause-within : goal.rel-requires-clause-within
rel-requires-clause-within g c =
    let at = (goal.at.rel-requires-clause-within g c).After-bottom in
    let w = g.Q.Core.worker c.ranks.new.q in
    subst (LiesWithin c.elements-many.result c.args.v.rows) (sym (gives_quad_set w _ _ c.in-Ok.quad (given g at w _ c.in-Ok.quad c.in-Ok.ensures.value))) (ranks_within _ _ _ _ _ (listed g at))

-- ---- the answer
pub returns-in-Ok-clause-value : goal.returns-in-Ok-clause-value
returns-in-Ok-clause-value g c =
    let at = (goal.at.returns-in-Ok-clause-value g c).After-bottom in
    let w = g.Q.Core.worker c.ranks.new.q in
    inj_given _ _ _ _ _ (listed g at) w c.in-Ok.quad c.rel.result (given g at w _ c.in-Ok.quad c.in-Ok.ensures.value) c.rel.ensures

pub returns-in-Ok-clause-room : goal.returns-in-Ok-clause-room
returns-in-Ok-clause-room g c =
    let p = rule_room _ _ c.args.v.rows c.args.v.cols (over g (goal.at.returns-in-Ok-clause-room g c).After-bottom) in
    omega (arith, p, rooms_derived c.args.v.rows c.args.v.cols, c.elements-many.ensures.room, c.in-Ok.ensures.room)

pub returns-in-Err-clause-room : goal.returns-in-Err-clause-room
returns-in-Err-clause-room g c =
    let p = rule_room _ _ c.args.v.rows c.args.v.cols (over g (goal.at.returns-in-Err-clause-room g c).After-bottom) in
    omega (arith, p, rooms_derived c.args.v.rows c.args.v.cols, c.elements-many.ensures.room, c.in-Err.ensures.room)

pub returns-in-Ok-clause-tree : goal.returns-in-Ok-clause-tree
returns-in-Ok-clause-tree g c =
    let same = tree_of g (goal.at.returns-in-Ok-clause-tree g c).After-bottom in
    omega (arith, same, c.elements-many.ensures.room, c.in-Ok.ensures.room)

pub returns-in-Err-clause-tree : goal.returns-in-Err-clause-tree
returns-in-Err-clause-tree g c =
    let same = tree_of g (goal.at.returns-in-Err-clause-tree g c).After-bottom in
    omega (arith, same, c.elements-many.ensures.room, c.in-Err.ensures.room)
