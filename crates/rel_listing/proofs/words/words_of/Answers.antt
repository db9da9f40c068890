use Rattle.std.proofs.Common.{arith}
use Rattle.std.proofs.lemmas.List.{drop_all}
use Rattle.rel_steps.proofs.Reading.{reads}
use Rattle.rel_listing.proofs.Strips.{drop_next}
use Rattle.rel_listing.proofs.Halves.{wording_more, wording_all}
use Rattle.rel_listing.proofs.words.words_of.Goals as goal

pub quads-preserved : goal.quads-preserved
quads-preserved g c =
    let e = c.bits-bits.ensures in
    wording_more _ c.bits-bits.result c.quads.invariant (drop_next c.args.strip.now c.quads.quad-index _ c.quads-test.true) (reads e.keeps e.room e.misses) e.cells c.in_ok-push.ensures.items

pub returns-clause-words : goal.returns-clause-words
returns-clause-words g c = wording_all (drop_all c.quads.quad-index c.args.strip.now (omega (arith, c.quads-test.false))) c.quads.invariant
