use Rattle.rel_model.specs.Quads.{quad_room}
use Rattle.bench_trees.proofs.Keeping.{holds_by}
use Rattle.bench_trees.proofs.boole.applied.Goals as goal

pub returns-in-Union : goal.returns-in-Union
returns-in-Union c = holds_by (quad_room c.args.a.height) c.args.nodes.now c.union_quads.new.nodes c.union_quads.ensures.keeps

pub returns-in-Inter : goal.returns-in-Inter
returns-in-Inter c = holds_by (quad_room c.args.a.height) c.args.nodes.now c.inter_quads.new.nodes c.inter_quads.ensures.keeps

pub returns-in-Diff : goal.returns-in-Diff
returns-in-Diff c = holds_by (quad_room c.args.a.height) c.args.nodes.now c.diff_quads.new.nodes c.diff_quads.ensures.keeps

pub returns-in-Transpose : goal.returns-in-Transpose
returns-in-Transpose c = holds_by (quad_room c.args.a.height) c.args.nodes.now c.transpose_quad.new.nodes c.transpose_quad.ensures.keeps
