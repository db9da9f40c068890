use Rattle.std.proofs.Common.{refl}
use Rattle.quad_nodes.proofs.Making.{made_as}
use Rattle.rel_compose.proofs.Fitting.{side_small}
use Rattle.rel_compose.proofs.Joining.{whole_joined}
use Rattle.rel_compose.proofs.join.joined_by_rows.Goals as goal

pub summed_small-requires-clause-small : goal.summed_small-requires-clause-small
summed_small-requires-clause-small c = side_small c.args.x.height c.requires.x_stands.low c.if-x-le8.true

pub returns : goal.returns
returns c = made_as refl (whole_joined c.args.nodes.now c.args.x c.args.y c.args.z c.requires.y_height c.requires.z_height) c.summed_quad.ensures
