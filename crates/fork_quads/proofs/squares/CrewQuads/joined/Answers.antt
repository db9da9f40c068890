use Rattle.std.proofs.Common.{◌+◌}
use Rattle.rel_model.specs.Quads.{quad_room, compose_room}
use Rattle.fork_quads.proofs.Crewing.{has_quad-stands, keeps_telling}
use Rattle.fork_quads.proofs.Quartering.{stands_inside, told_gives}
use Rattle.fork_quads.proofs.Unions.{union_with_product_set, union_with_product_makes}
use Rattle.fork_quads.proofs.squares.CrewQuads.joined.Goals as goal

pub union_with_product-requires : goal.union_with_product-requires
union_with_product-requires g c =
    let s = stands_inside c.args.self.now c.self.inside.nodes in
    record {
      x_stands = s c.args.x c.self.view_is c.requires.x_stands;
      y_stands = s c.args.y c.self.view_is c.requires.y_stands;
      z_stands = s c.args.z c.self.view_is c.requires.z_stands;
      y_height = c.requires.y_height;
      z_height = c.requires.z_height;
    }

pub returns-clause-value : goal.returns-clause-value
returns-clause-value g c =
    told_gives c.union_with_product.new.nodes c.args.x.height _ _ c.union_with_product.result c.told.result c.union_with_product.ensures.keeps.after
    (union_with_product_set c.args.self.now c.self.inside.nodes c.args.x c.args.y c.args.z c.self.view_is c.union_with_product.ensures.keeps.before c.requires.x_stands c.requires.y_stands c.requires.z_stands (has_quad-stands c.args.self.now c.args.x c.requires.x_stands).low)
    c.union_with_product.ensures.value c.told.ensures

pub returns-clause-keeps : goal.returns-clause-keeps
returns-clause-keeps g c =
    keeps_telling (compose_room c.args.x.height + quad_room c.args.x.height) c.args.self.now c.self.inside.nodes c.union_with_product.new.nodes c.union_with_product.result
    c.self.view_is c.union_with_product.ensures.keeps c.union_with_product.ensures.misses

pub returns-clause-room : goal.returns-clause-room
returns-clause-room g c =
    union_with_product_makes c.args.x.height c.args.self.now c.self.inside.nodes c.union_with_product.new.nodes c.self.view_is (has_quad-stands c.args.self.now c.args.x c.requires.x_stands).low c.union_with_product.ensures.keeps
