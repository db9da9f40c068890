use Rattle.std.proofs.Common.{arith}
use Rattle.rel_model.specs.Operators.{single}
use Rattle.rel_model.specs.Quads.{quad_room}
use Rattle.fork_quads.specs.Crew.{one_cell}
use Rattle.fork_quads.proofs.Crewing.{keeps_counting, tree_fits, tells_cause}
use Rattle.fork_quads.proofs.Operating.{one_within, single_is, made_value}
use Rattle.fork_quads.proofs.Joining.{counts_tells}
use Rattle.fork_quads.proofs.relations.CrewCore.single.Goals as goal

pub single_quad-quad-requires : goal.single_quad-quad-requires
single_quad-quad-requires g c =
    let t = tree_fits c.args.shape.rows c.args.shape.cols c.height_of_tree-height.result c.requires.row_limit c.requires.col_limit c.height_of_tree-height.ensures in
    record { low = t.low; high = t.high; row = (let a = t.row in let b = c.requires.row in omega arith); col = (let a = t.col in let b = c.requires.col in omega arith) }

pub returns-clause-value : goal.returns-clause-value
returns-clause-value g c =
    made_value c.single_quad-quad.new.nodes c.args.shape.rows c.args.shape.cols c.height_of_tree-height.result (one_cell c.args.i c.args.j) (single c.args.shape.rows c.args.shape.cols c.args.i c.args.j) c.single_quad-quad.result c.named.result
    c.requires.row_limit c.requires.col_limit (one_within c.args.shape.rows c.args.shape.cols c.args.i c.args.j c.requires.row c.requires.col) (single_is c.args.shape.rows c.args.shape.cols c.args.i c.args.j) c.height_of_tree-height.ensures
    c.single_quad-quad.ensures.value c.named.ensures

pub returns-clause-keeps : goal.returns-clause-keeps
returns-clause-keeps g c =
    keeps_counting (quad_room c.height_of_tree-height.result) c.args.self.now c.self.inside.nodes c.single_quad-quad.new.nodes c.single_quad-quad.result c.self.view_is c.single_quad-quad.ensures.keeps c.single_quad-quad.ensures.counts

pub returns-clause-cause : goal.returns-clause-cause
returns-clause-cause g c =
    tells_cause c.args.self.now c.self.inside.nodes c.single_quad-quad.new.nodes c.args.shape.rows c.args.shape.cols c.single_quad-quad.result c.named.result c.self.view_is (counts_tells c.self.inside.nodes c.single_quad-quad.new.nodes c.single_quad-quad.result c.single_quad-quad.ensures.counts) c.named.ensures
