-- The height is looked for, and then an equal quadrant.
use Rattle.std.proofs.Common.{◌∷◌, ◌++◌, [], sym, ap, ◌∙◌}
use Rattle.k2_parts.specs.contracts.form.QuadrantPartialEq.TheImpl.{eq-value}
use Rattle.k2_parts.specs.Told.{quadrant_told, quadrants_told}
use Rattle.k2_parts.specs.Tests.{sound_height}
use Rattle.k2_parts.proofs.Sounding.{bad_told, good_told}
use Rattle.k2_parts.proofs.Listing.{known_is, key_more, listing_more, same_numbers, not_new, is_new}
use Rattle.k2_parts.proofs.quads.Listing.add.Goals as goal

pub returns-in_default : goal.returns-in_default
returns-in_default c =
    bad_told c.args.self.now.heights.items (quadrants_told c.args.self.now.quads.items) (quadrant_told c.args.quad)
    (ap (λ hs. sound_height hs (quadrant_told c.args.quad)) (sym c.as_slice.ensures.value) ∙ sym c.in_default.ensures)

pub returns-then-not-is_new : goal.returns-then-not-is_new
returns-then-not-is_new c =
    let old = c.args.self.now in
    let q = c.args.quad in
    let g = good_told old.heights.items (quadrants_told old.quads.items) (quadrant_told q) c.in-Some.height
    (ap (λ hs. sound_height hs (quadrant_told q)) (sym c.as_slice.ensures.value) ∙ sym c.in-Some.ensures) in
    let k = known_is _ same_numbers q old.known.keys old.quads.items c.requires.same in
    g.0 ∙ (sym k ∙ not_new _ (sym c.in_ok-is_new.ensures.added ∙ c.if-not-is_new.true))

pub returns : goal.returns
returns c =
    let old = c.args.self.now in
    let q = c.args.quad in
    let g = good_told old.heights.items (quadrants_told old.quads.items) (quadrant_told q) c.in-Some.height
    (ap (λ hs. sound_height hs (quadrant_told q)) (sym c.as_slice.ensures.value) ∙ sym c.in-Some.ensures) in
    let k = known_is _ same_numbers q old.known.keys old.quads.items c.requires.same in
    let fresh = is_new _ (sym c.in_ok-is_new.ensures.added ∙ c.if-not-is_new.false) in
    record {
      good = g.0 ∙ (sym k ∙ fresh);
      quads = c.in_ok-push.ensures.items;
      heights = c.in_ok-push-2.ensures.items ∙ ap (λ h. old.heights.items ++ h ∷ []) g.1;
      listing = listing_more old (record { quads = c.push.new.self; heights = c.push-2.new.self; known = c.insert.new.self }) q c.in-Some.height c.requires c.in_ok-push.ensures.items c.in_ok-push-2.ensures.items (c.in_ok-is_new.ensures.keys ∙ key_more eq-value.it old.known.keys q fresh);
    }
