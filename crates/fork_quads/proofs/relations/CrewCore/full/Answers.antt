use Rattle.std.proofs.Common.{arith}
use Rattle.fork_quads.proofs.Crewing.{tree_fits}
use Rattle.fork_quads.proofs.Operating.{rect_within, full_is, made}
use Rattle.fork_quads.proofs.Joining.{counts_tells}
use Rattle.fork_quads.proofs.relations.CrewCore.full.Goals as goal

pub rect-quad-requires : goal.rect-quad-requires
rect-quad-requires g c =
    let t = tree_fits c.args.shape.rows c.args.shape.cols c.height_of_tree-height.result c.requires.row_limit c.requires.col_limit c.height_of_tree-height.ensures in
    record { low = t.low; high = t.high; row = (let a = t.row in let b = t.col in omega arith); col = (let a = t.row in let b = t.col in omega arith) }

pub returns : goal.returns
returns g c =
    let e = c.rect-quad.ensures in
    let x = made c.rect-quad.result c.named.result c.self.view_is c.requires.row_limit c.requires.col_limit (rect_within c.args.shape.rows c.args.shape.cols) (full_is c.args.shape.rows c.args.shape.cols)
    c.height_of_tree-height.ensures e.value e.stood e.keeps (counts_tells c.self.inside.nodes c.rect-quad.new.self c.rect-quad.result e.counts) c.named.ensures in
    record { value = x.gives; stood = x.stood; keeps = x.keeps; room = x.room; tree = x.tree; cause = x.cause }
