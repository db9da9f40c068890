use Rattle.std.proofs.Common.{◌≡◌, ◌+◌, ◌^◌, ◌∙◌, map, length, refl, sym, ap, subst, arith}
use Rattle.std.specs.List.Sorted.{IsNonDecreasing, IsPermutation}
use Rattle.std.proofs.lemmas.List.Sorted.{IsNonDecreasingBy-from_sort, IsPermutation-refl}
use Rattle.rel_model.specs.Roots.{height_over}
use Rattle.rel_domains.specs.Curve.{AreFrom, place}
use Rattle.rel_domains.proofs.Listing.{fits_square, lies_within, relation_given, sorted_from, pairs_room-covers}
use Rattle.rel_domains.proofs.pairs.from_pairs_or_none.Goals as goal

pub places_of-requires-clause-within : goal.places_of-requires-clause-within
places_of-requires-clause-within g c = fits_square c.bottom-least.result c.depth_over-depth.result c.args.shape.rows c.args.shape.cols c.args.pairs.now _ _ c.requires.row_limit c.requires.col_limit c.depth_over-depth.ensures.value c.requires.within refl (IsPermutation-refl _)

pub quad_of_places-requires-clause-order : goal.quad_of_places-requires-clause-order
quad_of_places-requires-clause-order g c = subst IsNonDecreasing (sym c.as_slice.ensures.value) (IsNonDecreasingBy-from_sort (λ x. x) c.sort_unstable.new.self.items c.sort_unstable.ensures.sorted)

pub quad_of_places-requires-clause-from : goal.quad_of_places-requires-clause-from
quad_of_places-requires-clause-from g c =
    let e : 4 ^ (c.bottom-least.result + c.depth_over-depth.result) ≡ 4 ^ (g.Q.Core.least + c.depth_over-depth.result) = ap (λ l. 4 ^ (l + c.depth_over-depth.result)) c.bottom-least.ensures in
    subst (AreFrom 0 (4 ^ (g.Q.Core.least + c.depth_over-depth.result))) (sym c.as_slice.ensures.value)
    (subst (λ h. AreFrom 0 h c.sort_unstable.new.self.items) e (sorted_from _ c.in-Ok.places.items c.sort_unstable.new.self.items c.sort_unstable.ensures.permutation c.in-Ok.ensures.limit))

pub rel-requires-clause-within : goal.rel-requires-clause-within
rel-requires-clause-within g c =
    let a = c.args in
    let d = c.depth_over-depth.result in
    let high : g.Q.Core.least + d ≡ height_over g.Q.Core.least a.shape.rows a.shape.cols = subst (λ l. l + d ≡ height_over l a.shape.rows a.shape.cols) c.bottom-least.ensures c.depth_over-depth.ensures.value in
    let places = c.in-Ok.ensures.places ∙ ap (λ l. map (λ p. place l d p.0 p.1) a.pairs.now) c.bottom-least.ensures in
    let sorted = c.as_slice.ensures.value in
    let moved = subst (IsPermutation c.in-Ok.places.items) (sym sorted) c.sort_unstable.ensures.permutation in
    lies_within g.Q.Core.least d a.shape.rows a.shape.cols a.pairs.now _ c.as_slice.result.now c.requires.row_limit c.requires.col_limit high c.requires.within places moved _ c.in-Ok-quad_of_places.quad c.in-Ok-quad_of_places.ensures.makes.value

pub returns-in-Ok-quad_of_places-clause-value : goal.returns-in-Ok-quad_of_places-clause-value
returns-in-Ok-quad_of_places-clause-value g c =
    let a = c.args in
    let d = c.depth_over-depth.result in
    let high : g.Q.Core.least + d ≡ height_over g.Q.Core.least a.shape.rows a.shape.cols = subst (λ l. l + d ≡ height_over l a.shape.rows a.shape.cols) c.bottom-least.ensures c.depth_over-depth.ensures.value in
    let places = c.in-Ok.ensures.places ∙ ap (λ l. map (λ p. place l d p.0 p.1) a.pairs.now) c.bottom-least.ensures in
    let sorted = c.as_slice.ensures.value in
    let moved = subst (IsPermutation c.in-Ok.places.items) (sym sorted) c.sort_unstable.ensures.permutation in
    relation_given g.Q.Core.least d a.shape.rows a.shape.cols a.pairs.now _ c.as_slice.result.now c.requires.row_limit c.requires.col_limit high c.requires.within places moved _ c.in-Ok-quad_of_places.quad c.rel.result c.in-Ok-quad_of_places.ensures.makes.value c.rel.ensures

pub returns-in-Ok-quad_of_places-clause-room : goal.returns-in-Ok-quad_of_places-clause-room
returns-in-Ok-quad_of_places-clause-room g c =
    let p = pairs_room-covers c.bottom-least.result c.depth_over-depth.result c.args.shape.rows c.args.shape.cols (length c.args.pairs.now) c.depth_over-depth.ensures.value in omega (arith, p, c.in-Ok-quad_of_places.ensures.makes.room)

pub returns-clause-room : goal.returns-clause-room
returns-clause-room g c =
    let p = pairs_room-covers c.bottom-least.result c.depth_over-depth.result c.args.shape.rows c.args.shape.cols (length c.args.pairs.now) c.depth_over-depth.ensures.value in omega (arith, p, c.quad_of_places.ensures.makes.room)
