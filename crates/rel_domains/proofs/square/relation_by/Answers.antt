use Rattle.std.proofs.Common.{◌≡◌, ◌+◌, ap, subst, arith}
use Rattle.rel_model.specs.Roots.{height_over, relation_room, tree_room}
use Rattle.rel_domains.proofs.Ruled.{side_limit, ruled_relation, rule_room}
use Rattle.rel_domains.proofs.square.relation_by.Given.{Over}
use Rattle.rel_domains.proofs.square.relation_by.Goals.{After-depth_over-depth}
use Rattle.rel_domains.proofs.square.relation_by.Goals as goal

-- ---- the tree
high : (g : Over) (c : After-depth_over-depth g) → g.Q.Core.least + c.depth_over-depth.result ≡ height_over g.Q.Core.least c.args.shape.rows c.args.shape.cols
high g c = subst (λ l. l + c.depth_over-depth.result ≡ height_over l c.args.shape.rows c.args.shape.cols) c.bottom.ensures c.depth_over-depth.ensures.value

tree : (g : Over) (c : After-depth_over-depth g) → tree_room c.depth_over-depth.result ≡ relation_room g.Q.Core.least c.args.shape.rows c.args.shape.cols
tree g c = ap tree_room (omega (arith, high g c))

-- ---- the square
pub square-requires-clause-row : goal.square-requires-clause-row
square-requires-clause-row g c = side_limit (g.Q.Core.least + c.depth_over-depth.result) (omega (arith, c.depth_over-depth.ensures.limit, c.bottom.ensures))

pub square-requires-clause-col : goal.square-requires-clause-col
square-requires-clause-col g c = side_limit (g.Q.Core.least + c.depth_over-depth.result) (omega (arith, c.depth_over-depth.ensures.limit, c.bottom.ensures))

-- ---- the relation
pub returns-in-Ok-clause-value : goal.returns-in-Ok-clause-value
returns-in-Ok-clause-value g c =
    let h = high g (goal.at.returns-in-Ok-clause-value g c).After-depth_over-depth in
    ruled_relation g.Q.Core.least _ c.args.shape.rows c.args.shape.cols c.args.rule c.requires.row_limit c.requires.col_limit h _ c.in-Ok.quad c.rel.result c.in-Ok.ensures.value c.rel.ensures

pub returns-in-Ok-clause-room : goal.returns-in-Ok-clause-room
returns-in-Ok-clause-room g c = omega (arith, rule_room c.bottom.result _ c.args.shape.rows c.args.shape.cols c.depth_over-depth.ensures.value, c.in-Ok.ensures.room)

pub returns-in-Err-clause-room : goal.returns-in-Err-clause-room
returns-in-Err-clause-room g c = omega (arith, rule_room c.bottom.result _ c.args.shape.rows c.args.shape.cols c.depth_over-depth.ensures.value, c.square.ensures.room)

pub returns-in-Ok-clause-tree : goal.returns-in-Ok-clause-tree
returns-in-Ok-clause-tree g c = omega (arith, tree g (goal.at.returns-in-Ok-clause-tree g c).After-depth_over-depth, c.in-Ok.ensures.room)

pub returns-in-Err-clause-tree : goal.returns-in-Err-clause-tree
returns-in-Err-clause-tree g c = omega (arith, tree g (goal.at.returns-in-Err-clause-tree g c).After-depth_over-depth, c.square.ensures.room)
