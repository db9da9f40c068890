use Rattle.std.proofs.Common.{refl, arith}
use Rattle.std.proofs.lemmas.List.{drop_all}
use Rattle.rel_steps.proofs.Reading.{reads_on}
use Rattle.rel_listing.proofs.Strips.{drop_next}
use Rattle.rel_listing.proofs.Halves.{none_of, next_is, halving_none, halving_more, halving_all}
use Rattle.rel_listing.proofs.halving.halve.Goals as goal

pub quads-init : goal.quads-init
quads-init g c = halving_none c.requires.strip c.read_strip.ensures refl c.requires.no_upper c.requires.no_lower

pub push_quarters-requires-clause-stands : goal.push_quarters-requires-clause-stands
push_quarters-requires-clause-stands g c = let n = next_is c.quads.invariant.reads.keeps (drop_next c.args.strip.now c.quads.quad-index _ c.quads-test.true) c.quads.invariant.rest_is in n.stands

pub push_quarters-requires-clause-over : goal.push_quarters-requires-clause-over
push_quarters-requires-clause-over g c = let n = next_is c.quads.invariant.reads.keeps (drop_next c.args.strip.now c.quads.quad-index _ c.quads-test.true) c.quads.invariant.rest_is in n.over g.Q.Core.least (omega (arith, c.requires.low))

pub push_quarters-requires-clause-fits : goal.push_quarters-requires-clause-fits
push_quarters-requires-clause-fits g c = let n = next_is c.quads.invariant.reads.keeps (drop_next c.args.strip.now c.quads.quad-index _ c.quads-test.true) c.quads.invariant.rest_is in n.fits

pub returns-in_err-push_quarters-clause-reads : goal.returns-in_err-push_quarters-clause-reads
returns-in_err-push_quarters-clause-reads g c = reads_on c.quads.invariant.reads c.push_quarters.ensures.reads

pub quads-preserved : goal.quads-preserved
quads-preserved g c =
    let w = c.push_quarters.new.q in
    let x = c.in_ok-push_quarters.ensures.quarters in
    let four = x.four in
    let gives = x.gives in
    let law = g.met.Q.Quads in
    halving_more _ c.quads.invariant (drop_next c.args.strip.now c.quads.quad-index _ c.quads-test.true) c.push_quarters.ensures.reads x (record {
      nw = law.square w four.nw gives.nw;
      ne = law.square w four.ne gives.ne;
      sw = law.square w four.sw gives.sw;
      se = law.square w four.se gives.se;
      none_nw = none_of (g.Q.Core.worker w) four.nw (law.none w four.nw.height (law.low_height w four.nw gives.nw) (law.high_height w four.nw gives.nw));
      none_ne = none_of (g.Q.Core.worker w) four.ne (law.none w four.ne.height (law.low_height w four.ne gives.ne) (law.high_height w four.ne gives.ne));
      none_sw = none_of (g.Q.Core.worker w) four.sw (law.none w four.sw.height (law.low_height w four.sw gives.sw) (law.high_height w four.sw gives.sw));
      none_se = none_of (g.Q.Core.worker w) four.se (law.none w four.se.height (law.low_height w four.se gives.se) (law.high_height w four.se gives.se));
    })

pub returns-clause-halves : goal.returns-clause-halves
returns-clause-halves g c = halving_all (drop_all c.quads.quad-index c.args.strip.now (omega (arith, c.quads-test.false))) c.quads.invariant
