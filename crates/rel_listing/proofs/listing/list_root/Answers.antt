use Rattle.std.proofs.Common.{◌∙◌, refl, sym, ap, arith}
use Rattle.std.proofs.lemmas.Bool.{false≢true}
use Rattle.rel_model.specs.Cells.{Cells}
use Rattle.rel_listing.proofs.Lists.{adds_none, adds_same}
use Rattle.rel_listing.proofs.Strips.{ok_then, one_strip, one_laid, high_side}
use Rattle.rel_listing.proofs.Halves.{none_of}
use Rattle.rel_listing.proofs.listing.list_root.Goals as goal

pub list_strip-requires-clause-strip : goal.list_strip-requires-clause-strip
list_strip-requires-clause-strip g c = one_strip c.requires.stands (high_side c.args.quad.height (g.met.Q.Quads.high_height c.args.q.now c.args.quad c.requires.stands)) refl

pub list_strip-requires-clause-rows : goal.list_strip-requires-clause-rows
list_strip-requires-clause-rows g c =
    let p = high_side c.args.quad.height (g.met.Q.Quads.high_height c.args.q.now c.args.quad c.requires.stands) in
    omega (arith, p)

pub returns-clause-pairs : goal.returns-clause-pairs
returns-clause-pairs g c =
    let same = one_laid (g.Q.Core.worker c.args.q.now) c.args.quad refl refl in
    ok_then c.list_strip.result (adds_same (λ i j h. sym (same i j) ∙ h) (λ i j h. same i j ∙ h)) c.list_strip.ensures.pairs

pub returns-then-is_empty-clause-pairs : goal.returns-then-is_empty-clause-pairs
returns-then-is_empty-clause-pairs g c =
    let law = g.met.Q.Quads in
    let quad = c.args.quad in
    let stands = c.requires.stands in
    let none = none_of (g.Q.Core.worker c.args.q.now) quad (law.none c.args.q.now quad.height (law.low_height c.args.q.now quad stands) (law.high_height c.args.q.now quad stands)) (c.is_empty.ensures.empty c.if-is_empty.true) in
    adds_none c.args.pairs.now.items (λ i j h. false≢true (sym (ap (λ (f : Cells). f i j) none) ∙ h))
