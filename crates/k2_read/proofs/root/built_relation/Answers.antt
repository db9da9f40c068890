-- The nodes of the root are those of its relation.
use Rattle.std.proofs.Common.{arith}
use Rattle.k2_parts.specs.Told.{quadrants_told}
use Rattle.k2_read.proofs.Making.{root-cost}
use Rattle.k2_read.proofs.root.built_relation.Goals as goal

pub returns-in_err-quad-clause-room : goal.returns-in_err-quad-clause-room
returns-in_err-quad-clause-room g c =
    let e = root-cost (quadrants_told c.args.quads.now) g.E.Core.least c.args.root.shape.rows c.args.root.shape.cols c.args.root.number c.requires.sound in
    omega (arith, e, c.in_err-quad.ensures.makes.room)

pub returns-clause-room : goal.returns-clause-room
returns-clause-room g c =
    let e = root-cost (quadrants_told c.args.quads.now) g.E.Core.least c.args.root.shape.rows c.args.root.shape.cols c.args.root.number c.requires.sound in
    omega (arith, e, c.in_ok-quad.ensures.makes.room)
