-- Each quarter is built from what the quarters before it left; their corner has the cells of the square.
use Rattle.std.proofs.Common.{rules, ◌≡◌, ◌==◌, ◌<◌, ◌+◌, ◌-◌, ◌*◌, ◌^◌, ◌∙◌, length, drop, get_or, ℕ, true, sym, ap, subst, refl, arith}
use Rattle.std.specs.Prelude.{IfOk}
use Rattle.rel_model.specs.declared.Quad.{Quad}
use Rattle.rel_model.specs.Cells.{Cells}
use Rattle.rel_model.specs.Worker.{GivesQuad}
use Rattle.rel_model.proofs.Workers.{keeps_itself}
use Rattle.rel_steps.proofs.Causes.{done_cause}
use Rattle.rel_steps.proofs.Making.{begun, goes_on, failed, stops, corner_made}
use Rattle.run_model.specs.Files.{number_of_bit}
use Rattle.k2_file.specs.Told.{bits_in}
use Rattle.k2_file.specs.Rests.{AreThere, count_below, cells_of_part, cells_inside, rests_at}
use Rattle.k2_file.proofs.ReadStarts.{length-rests}
use Rattle.k2_file.proofs.ReadRests.{count-some}
use Rattle.k2_file.proofs.ReadBuilding.{none-built, part-inside, some-room, high-top, below-top, square-room, square-parts}
use Rattle.k2_file.proofs.ReadPlaces.{IsAtGroup, level_of, at-group, group-room, group-moves, moves-none, nw-there, ne-there, sw-there, se-there}
use Rattle.k2_file.proofs.build.+built.Given.{Over}
use Rattle.k2_file.proofs.build.+built.Goals.{built_square-After-group-group}
use Rattle.k2_file.proofs.build.+built.Goals as goal

-- ---- no cell, or a leaf
pub built_part-returns-then-not-is_set-clause-makes :
    goal.built_part-returns-then-not-is_set-clause-makes
built_part-returns-then-not-is_set-clause-makes g t c =
    let w = g.E.Core.worker c.args.engine.now in
    let rests = rests_at (bits_in c.args.parts.now.tree) (bits_in c.args.parts.now.cells) c.args.places.now in
    let q : Quad = record { height = c.args.height; name = 0 } in
    record {
      value = subst (λ b. GivesQuad w c.args.height (cells_of_part b rests) q) (sym c.if-not-is_set.true)
          (none-built w c.args.height rests (g.met.E.Quads.none c.args.engine.now c.args.height c.requires.low
          (high-top c.args.height c.requires.high)));
      keeps = keeps_itself w;
      room = omega arith;
      cause = done_cause g.E.Core.lean w w q refl;
    }

pub built_part-returns-then-not-is_set-clause-moves :
    goal.built_part-returns-then-not-is_set-clause-moves
built_part-returns-then-not-is_set-clause-moves g t c =
    moves-none (bits_in c.args.parts.now.tree) (bits_in c.args.parts.now.cells) c.args.is_set c.args.places.now c.if-not-is_set.true

pub built_part-returns-then-height-bottom-clause-makes :
    goal.built_part-returns-then-height-bottom-clause-makes
built_part-returns-then-height-bottom-clause-makes g t c =
    let w = g.E.Core.worker c.built_leaf.new.engine in
    let T = bits_in c.args.parts.now.tree in
    let L = bits_in c.args.parts.now.cells in
    let rests = rests_at T L c.args.places.now in
    let least = g.E.Core.least in
    let e : least ≡ c.args.height = sym (c.if-height-bottom.true ∙ c.bottom.ensures) in
    let l : length rests ≡ least = length-rests T L c.args.places.now ∙ c.requires.places ∙ sym e in
    let s : cells_inside (2 ^ least) (cells_of_part true rests) ≡ cells_of_part c.args.is_set rests = part-inside least true rests l ∙ ap (λ b. cells_of_part b rests) (sym c.if-not-is_set.false) in
    let there = subst (λ b. AreThere (number_of_bit b) rests) c.if-not-is_set.false c.requires.there in
    let some = count-some 1 rests there in
    let same : count_below (number_of_bit c.args.is_set) rests ≡ count_below 1 rests = ap (λ b. count_below (number_of_bit b) rests) c.if-not-is_set.false in
    let room = some-room (count_below (number_of_bit c.args.is_set) rests) (c.args.height - least)
    (omega (arith, some, same)) in
    record {
      value = subst (λ n. IfOk c.built_leaf.result (GivesQuad w n (cells_of_part c.args.is_set rests))) e
          (subst (λ (f : Cells). IfOk c.built_leaf.result (GivesQuad w least f)) s c.built_leaf.ensures.value);
      keeps = c.built_leaf.ensures.keeps;
      room = omega (arith, room, c.built_leaf.ensures.few);
      cause = c.built_leaf.ensures.cause;
    }

pub built_part-built_square-requires : goal.built_part-built_square-requires
built_part-built_square-requires g t c κs within =
    let rests = rests_at (bits_in c.args.parts.now.tree) (bits_in c.args.parts.now.cells) c.args.places.now in
    let here = c.bottom.ensures in
    let other = c.if-height-bottom.false in
    let there = subst (λ b. AreThere (number_of_bit b) rests) c.if-not-is_set.false c.requires.there in
    (search rules, (within, (c.requires.places, (omega (arith, c.requires.low, here, other), (c.requires.high, there)))))

-- ---- the group of a square
pub built_square-group-group-requires : goal.built_square-group-group-requires
built_square-group-group-requires g t c =
    group-room (bits_in c.args.parts.now.tree) (bits_in c.args.parts.now.cells) c.args.places.now c.split_at_mut-here.result.0.now c.split_at_mut-here.result.1.now c.args.height
    c.requires.places c.split_at_mut-here.ensures.value c.split_at_mut-here.ensures.front_len c.requires.there

pub built_square-overflow_add-here : goal.built_square-overflow_add-here
built_square-overflow_add-here g t c = let l = c.group-group.ensures.limit in omega (arith, l)

at : (g : Over) (t : ℕ) (c : built_square-After-group-group g t)
    → IsAtGroup (bits_in c.args.parts.now.tree) (bits_in c.args.parts.now.cells) c.args.places.now
    c.split_at_mut-here.result.1.now c.args.height c.group-group.result.nw c.group-group.result.ne
    c.group-group.result.sw c.group-group.result.se (drop (4 * (get_or c.split_at_mut-here.result.0.now 0 0 + 1))
    (level_of (c.args.height == 1) (bits_in c.args.parts.now.tree) (bits_in c.args.parts.now.cells)))
at g t c = at-group (bits_in c.args.parts.now.tree) (bits_in c.args.parts.now.cells) c.args.places.now
    c.split_at_mut-here.result.0.now c.split_at_mut-here.result.1.now c.args.height c.group-group.result.nw
    c.group-group.result.ne c.group-group.result.sw c.group-group.result.se c.requires.places
    c.split_at_mut-here.ensures.value c.split_at_mut-here.ensures.front_len c.group-group.ensures.bits

-- ---- each quarter
pub built_square-built_part-requires : goal.built_square-built_part-requires
built_square-built_part-requires g t c κs within =
    let a = at g t (goal.at.built_square-built_part-requires g t c).After-group-group in
    let there = nw-there a c.requires.there in
    (search rules, (within, (omega (arith, a.many), (omega (arith, c.requires.low), (omega (arith, c.requires.high), there)))))

pub built_square-built_part-requires-2 : goal.built_square-built_part-requires-2
built_square-built_part-requires-2 g t c κs within =
    let a = at g t (goal.at.built_square-built_part-requires-2 g t c).After-group-group in
    let m = c.in_ok-nw.ensures.moves in
    let there = ne-there a c.requires.there m in
    (search rules, (within, (omega (arith, a.many, m.many), (omega (arith, c.requires.low), (omega (arith, c.requires.high), there)))))

pub built_square-built_part-requires-3 : goal.built_square-built_part-requires-3
built_square-built_part-requires-3 g t c κs within =
    let a = at g t (goal.at.built_square-built_part-requires-3 g t c).After-group-group in
    let m = c.in_ok-nw.ensures.moves in
    let n = c.in_ok-ne.ensures.moves in
    let there = sw-there a c.requires.there m n in
    (search rules, (within, (omega (arith, a.many, m.many, n.many), (omega (arith, c.requires.low), (omega (arith, c.requires.high), there)))))

pub built_square-built_part-requires-4 : goal.built_square-built_part-requires-4
built_square-built_part-requires-4 g t c κs within =
    let a = at g t (goal.at.built_square-built_part-requires-4 g t c).After-group-group in
    let m = c.in_ok-nw.ensures.moves in
    let n = c.in_ok-ne.ensures.moves in
    let o = c.in_ok-sw.ensures.moves in
    let there = se-there a c.requires.there m n o in
    (search rules, (within, (omega (arith, a.many, m.many, n.many, o.many), (omega (arith, c.requires.low), (omega (arith, c.requires.high), there)))))

pub built_square-returns-in_err-nw-clause-makes : goal.built_square-returns-in_err-nw-clause-makes
built_square-returns-in_err-nw-clause-makes g t c =
    let a = at g t (goal.at.built_square-returns-in_err-nw-clause-makes g t c).After-group-group in
    let r = square-room g.E.Core.least a c.requires.there c.requires.low refl refl refl in
    stops c.from_residual.result c.from_residual.ensures.1 (omega (arith, r))
    (begun {h = 0} _) c.in_err-nw.ensures.makes

pub built_square-returns-in_err-ne-clause-makes : goal.built_square-returns-in_err-ne-clause-makes
built_square-returns-in_err-ne-clause-makes g t c =
    let a = at g t (goal.at.built_square-returns-in_err-ne-clause-makes g t c).After-group-group in
    let r = square-room g.E.Core.least a c.requires.there c.requires.low c.in_ok-nw.ensures.moves.rests refl refl in
    let u1 = goes_on (begun _) c.in_ok-nw.ensures.makes in
    stops c.from_residual-in_err-ne.result c.from_residual-in_err-ne.ensures.1
    (omega (arith, r)) u1 c.in_err-ne.ensures.makes

pub built_square-returns-in_err-sw-clause-makes : goal.built_square-returns-in_err-sw-clause-makes
built_square-returns-in_err-sw-clause-makes g t c =
    let a = at g t (goal.at.built_square-returns-in_err-sw-clause-makes g t c).After-group-group in
    let r = square-room g.E.Core.least a c.requires.there c.requires.low c.in_ok-nw.ensures.moves.rests
    c.in_ok-ne.ensures.moves.rests refl in
    let u2 = goes_on (goes_on (begun _) c.in_ok-nw.ensures.makes) c.in_ok-ne.ensures.makes in
    stops c.from_residual-in_err-sw.result c.from_residual-in_err-sw.ensures.1
    (omega (arith, r)) u2 c.in_err-sw.ensures.makes

pub built_square-returns-in_err-se-clause-makes : goal.built_square-returns-in_err-se-clause-makes
built_square-returns-in_err-se-clause-makes g t c =
    let a = at g t (goal.at.built_square-returns-in_err-se-clause-makes g t c).After-group-group in
    let r = square-room g.E.Core.least a c.requires.there c.requires.low c.in_ok-nw.ensures.moves.rests
    c.in_ok-ne.ensures.moves.rests c.in_ok-sw.ensures.moves.rests in
    let u2 = goes_on (goes_on (begun _) c.in_ok-nw.ensures.makes) c.in_ok-ne.ensures.makes in
    let u3 = goes_on u2 c.in_ok-sw.ensures.makes in
    stops c.from_residual-in_err-se.result c.from_residual-in_err-se.ensures.1
    (omega (arith, r)) u3 c.in_err-se.ensures.makes

-- ---- the corner
pub built_square-corner-requires-clause-below : goal.built_square-corner-requires-clause-below
built_square-corner-requires-clause-below g t c =
    let h = c.in_ok-nw.ensures.makes.value.same_height in
    below-top c.in_ok-nw.nw.height (omega (arith, h, c.requires.low, c.requires.high))

pub built_square-returns-in_err-quad-clause-makes :
    goal.built_square-returns-in_err-quad-clause-makes
built_square-returns-in_err-quad-clause-makes g t c =
    let a = at g t (goal.at.built_square-returns-in_err-quad-clause-makes g t c).After-group-group in
    let r = square-room g.E.Core.least a c.requires.there c.requires.low c.in_ok-nw.ensures.moves.rests
    c.in_ok-ne.ensures.moves.rests c.in_ok-sw.ensures.moves.rests in
    let u2 = goes_on (goes_on (begun _) c.in_ok-nw.ensures.makes) c.in_ok-ne.ensures.makes in
    let u4 = goes_on (goes_on u2 c.in_ok-sw.ensures.makes) c.in_ok-se.ensures.makes in
    let e = c.in_err-quad.ensures in
    stops c.from_residual-in_err-quad.result c.from_residual-in_err-quad.ensures.1 (omega (arith, r)) u4
    (failed 3 e.keeps e.room e.cause)

pub built_square-returns-clause-makes : goal.built_square-returns-clause-makes
built_square-returns-clause-makes g t c =
    let a = at g t (goal.at.built_square-returns-clause-makes g t c).After-group-group in
    let r = square-room g.E.Core.least a c.requires.there c.requires.low c.in_ok-nw.ensures.moves.rests
    c.in_ok-ne.ensures.moves.rests c.in_ok-sw.ensures.moves.rests in
    let p = square-parts a c.in_ok-nw.ensures.moves c.in_ok-ne.ensures.moves c.in_ok-sw.ensures.moves in
    let u2 = goes_on (goes_on (begun _) c.in_ok-nw.ensures.makes) c.in_ok-ne.ensures.makes in
    let u4 = goes_on (goes_on u2 c.in_ok-sw.ensures.makes) c.in_ok-se.ensures.makes in
    let e = c.in_ok-quad.ensures in
    corner_made (omega (arith, r)) p u4 e.value e.keeps e.room e.cause

pub built_square-returns-clause-moves : goal.built_square-returns-clause-moves
built_square-returns-clause-moves g t c =
    group-moves c.split_at_mut-here.result.0.now c.requires.places c.split_at_mut-here.ensures.front_len
    (at g t (goal.at.built_square-returns-clause-moves g t c).After-group-group)
    c.in_ok-nw.ensures.moves c.in_ok-ne.ensures.moves c.in_ok-sw.ensures.moves c.in_ok-se.ensures.moves
