use Rattle.std.proofs.Common.{ℕ, arith}
use Rattle.rel_model.specs.declared.Quad.{Quad}
use Rattle.rel_steps.proofs.Reading.{reads}
use Rattle.rel_listing.proofs.Strips.{drop_next}
use Rattle.rel_listing.proofs.Halves.{next_is, reading_more}
use Rattle.rel_listing.proofs.halving.read_strip.Goals as goal

pub read_ahead-requires-clause-stands : goal.read_ahead-requires-clause-stands
read_ahead-requires-clause-stands g c = let n = next_is c.quads.invariant.reads.keeps (drop_next c.args.strip.now c.quads.quad-index _ c.quads-test.true) c.quads.invariant.rest_is in n.stands

pub read_ahead-requires-clause-over : goal.read_ahead-requires-clause-over
read_ahead-requires-clause-over g c = let n = next_is c.quads.invariant.reads.keeps (drop_next c.args.strip.now c.quads.quad-index _ c.quads-test.true) c.quads.invariant.rest_is in n.over g.Q.Core.least (omega (arith, c.requires.low))

-- what a read past the end would give
none : Quad × ℕ
none = (record { height = 0; name = 0 }, 0)

pub quads-preserved : goal.quads-preserved
quads-preserved g c =
    let e = c.read_ahead.ensures in
    reading_more c.quads.invariant (drop_next c.args.strip.now c.quads.quad-index none c.quads-test.true) (reads e.keeps e.room e.misses)
