-- Each quarter adds its cells, where the places stand.
use Rattle.std.proofs.Common.{rules, ◌≡◌, ◌<◌, ◌+◌, ◌-◌, ◌*◌, ◌^◌, ◌∙◌, ◌∷◌, [], ◌++◌, ◌==◌, cond, length, drop, get_or, set, ℕ, Bool, List, refl, sym, ap, subst, arith}
use Rattle.rel_model.specs.Cells.{cells_union, bits_cells}
use Rattle.rel_model.specs.Listed.{is_among}
use Rattle.run_model.specs.Files.{Corner, number_of_bit}
use Rattle.k2_file.specs.Told.{bits_in}
use Rattle.k2_file.specs.Rests.{pairs_below, AreThere, rests_at, cells_inside, MovesOn}
use Rattle.k2_file.proofs.ReadStarts.{length-rests}
use Rattle.k2_file.proofs.ReadLeaves.{added-none, group-added}
use Rattle.k2_file.proofs.ReadPlaces.{IsAtGroup, level_of, at-group, group-room, group-moves, moves-none, no-places, nw-there, ne-there, sw-there, se-there, halves}
use Rattle.k2_file.proofs.leaf.+with_part.Goals.{After-group-group}
use Rattle.k2_file.proofs.leaf.+with_part.Goals as goal

pub returns-then-not-is_set-clause-cells : goal.returns-then-not-is_set-clause-cells
returns-then-not-is_set-clause-cells t c =
    let rests = rests_at (bits_in c.args.parts.now.tree) (bits_in c.args.parts.now.cells) c.args.places.now in
    let w = bits_cells c.args.side c.args.word in
    added-none c.args.side w rests
    ∙ ap (λ b. cells_union w (cells_inside c.args.side (is_among (pairs_below (cond {A = List Corner} b (c.args.corner ∷ []) []) rests)))) (sym c.if-not-is_set.true)

pub returns-then-not-is_set-clause-moves : goal.returns-then-not-is_set-clause-moves
returns-then-not-is_set-clause-moves t c =
    moves-none (bits_in c.args.parts.now.tree) (bits_in c.args.parts.now.cells) c.args.is_set c.args.places.now c.if-not-is_set.true

pub returns-then-height-eq0-clause-cells : goal.returns-then-height-eq0-clause-cells
returns-then-height-eq0-clause-cells t c =
    let T = bits_in c.args.parts.now.tree in
    let L = bits_in c.args.parts.now.cells in
    let w = bits_cells c.args.side c.args.word in
    c.with_cell.ensures.cells
    ∙ ap (λ b. cells_union w (cells_inside c.args.side (is_among (pairs_below (cond {A = List Corner} b (c.args.corner ∷ []) []) [])))) (sym c.if-not-is_set.false)
    ∙ ap (λ rs. cells_union w (cells_inside c.args.side (is_among (pairs_below (cond {A = List Corner} c.args.is_set (c.args.corner ∷ []) []) rs))))
    (sym (no-places T L c.args.places.now c.args.height c.requires.places c.if-height-eq0.true))

-- ---- the group of a square
pub overflow_add-here : goal.overflow_add-here
overflow_add-here t c = let l = c.group-group.ensures.limit in omega (arith, l)

pub group-group-requires : goal.group-group-requires
group-group-requires t c =
    let T = bits_in c.args.parts.now.tree in
    let L = bits_in c.args.parts.now.cells in
    group-room T L c.args.places.now c.split_at_mut-here.result.0.now c.split_at_mut-here.result.1.now c.args.height c.requires.places c.split_at_mut-here.ensures.value c.split_at_mut-here.ensures.front_len
    (subst (λ b. AreThere (number_of_bit b) (rests_at T L c.args.places.now)) c.if-not-is_set.false c.requires.there)

at : (t : ℕ) (c : After-group-group t)
    → IsAtGroup (bits_in c.args.parts.now.tree) (bits_in c.args.parts.now.cells) c.args.places.now
    c.split_at_mut-here.result.1.now c.args.height c.group-group.result.nw c.group-group.result.ne
    c.group-group.result.sw c.group-group.result.se (drop (4 * (get_or c.split_at_mut-here.result.0.now 0 0 + 1))
    (level_of (c.args.height == 1) (bits_in c.args.parts.now.tree) (bits_in c.args.parts.now.cells)))
at t c = at-group (bits_in c.args.parts.now.tree) (bits_in c.args.parts.now.cells) c.args.places.now
    c.split_at_mut-here.result.0.now c.split_at_mut-here.result.1.now c.args.height c.group-group.result.nw
    c.group-group.result.ne c.group-group.result.sw c.group-group.result.se c.requires.places
    c.split_at_mut-here.ensures.value c.split_at_mut-here.ensures.front_len c.group-group.ensures.bits

own : (t : ℕ) (c : After-group-group t)
    → AreThere 1 (rests_at (bits_in c.args.parts.now.tree) (bits_in c.args.parts.now.cells) c.args.places.now)
own t c = subst (λ b. AreThere (number_of_bit b) (rests_at (bits_in c.args.parts.now.tree)
    (bits_in c.args.parts.now.cells) c.args.places.now)) c.if-not-is_set.false c.requires.there

-- ---- each quarter
pub with_part-first-requires : goal.with_part-first-requires
with_part-first-requires t c =
    let p = (goal.at.with_part-first-requires t c).After-group-group in
    let a = at t p in
    let half = c.small_side-half.ensures in
    let two = halves c.args.height c.if-height-eq0.false in
    let falls : c.args.height - 1 < t = search (rules, c.if-height-eq0.false) in
    let there = nw-there a (own t p) in
    (falls, (omega (arith, a.many), (omega (arith, c.requires.low), (c.requires.side, (omega (arith, c.requires.row, two, half), (omega (arith, c.requires.col, two, half), (there, c.requires.none_past)))))))

pub with_part-second-requires : goal.with_part-second-requires
with_part-second-requires t c =
    let p = (goal.at.with_part-second-requires t c).After-group-group in
    let a = at t p in
    let half = c.small_side-half.ensures in
    let two = halves c.args.height c.if-height-eq0.false in
    let falls : c.args.height - 1 < t = search (rules, c.if-height-eq0.false) in
    let there = ne-there a (own t p) c.with_part-first.ensures.moves in
    (falls, (omega (arith, a.many, c.with_part-first.ensures.moves.many), (omega (arith, c.requires.low), (c.requires.side, (omega (arith, c.requires.row, two, half), (omega (arith, c.requires.col, two, half), (there, c.with_part-first.ensures.none_past)))))))

pub with_part-third-requires : goal.with_part-third-requires
with_part-third-requires t c =
    let p = (goal.at.with_part-third-requires t c).After-group-group in
    let a = at t p in
    let half = c.small_side-half.ensures in
    let two = halves c.args.height c.if-height-eq0.false in
    let falls : c.args.height - 1 < t = search (rules, c.if-height-eq0.false) in
    let there = sw-there a (own t p) c.with_part-first.ensures.moves c.with_part-second.ensures.moves in
    (falls, (omega (arith, a.many, c.with_part-first.ensures.moves.many, c.with_part-second.ensures.moves.many), (omega (arith, c.requires.low), (c.requires.side, (omega (arith, c.requires.row, two, half), (omega (arith, c.requires.col, two, half), (there, c.with_part-second.ensures.none_past)))))))

pub with_part-requires : goal.with_part-requires
with_part-requires t c =
    let p = (goal.at.with_part-requires t c).After-group-group in
    let a = at t p in
    let half = c.small_side-half.ensures in
    let two = halves c.args.height c.if-height-eq0.false in
    let falls : c.args.height - 1 < t = search (rules, c.if-height-eq0.false) in
    let there = se-there a (own t p) c.with_part-first.ensures.moves c.with_part-second.ensures.moves
    c.with_part-third.ensures.moves in
    (falls, (omega (arith, a.many, c.with_part-first.ensures.moves.many, c.with_part-second.ensures.moves.many, c.with_part-third.ensures.moves.many), (omega (arith, c.requires.low), (c.requires.side, (omega (arith, c.requires.row, two, half), (omega (arith, c.requires.col, two, half), (there, c.with_part-third.ensures.none_past)))))))

-- ---- all quarters
pub returns-clause-cells : goal.returns-clause-cells
returns-clause-cells t c =
    let T = bits_in c.args.parts.now.tree in
    let L = bits_in c.args.parts.now.cells in
    let g = c.group-group.result in
    let a = at t (goal.at.returns-clause-cells t c).After-group-group in
    let m = c.args.side in
    let xs : List Bool = drop (4 * (get_or c.split_at_mut-here.result.0.now 0 0 + 1))
    (level_of (c.args.height == 1) T L) in
    let r0 = rests_at T L c.split_at_mut-here.result.1.now in
    let half : c.small_side-half.result ≡ 2 ^ length r0 = c.small_side-half.ensures ∙ ap (λ (n : ℕ). 2 ^ n)
    (omega (arith, a.many, length-rests T L c.split_at_mut-here.result.1.now)) in
    group-added m (bits_cells m c.args.word) (bits_cells m c.with_part-first.result) (bits_cells m c.with_part-second.result) (bits_cells m c.with_part-third.result) (bits_cells m c.with_part.result)
    c.args.corner g.nw g.ne g.sw g.se (g.nw ∷ g.ne ∷ g.sw ∷ g.se ∷ xs) xs r0 (rests_at T L c.with_part-first.new.places) (rests_at T L c.with_part-second.new.places) (rests_at T L c.with_part-third.new.places) c.small_side-half.result half refl
    c.with_part-first.ensures.moves.rests c.with_part-second.ensures.moves.rests c.with_part-third.ensures.moves.rests
    c.with_part-first.ensures.cells c.with_part-second.ensures.cells c.with_part-third.ensures.cells c.with_part.ensures.cells
    ∙ ap (λ rs. cells_union (bits_cells m c.args.word)
    (cells_inside m (is_among (pairs_below (c.args.corner ∷ []) rs)))) (sym a.rests)
    ∙ ap (λ b. cells_union (bits_cells m c.args.word) (cells_inside m (is_among (pairs_below (cond {A = List Corner} b (c.args.corner ∷ []) []) (rests_at T L c.args.places.now))))) (sym c.if-not-is_set.false)

pub returns-clause-moves : goal.returns-clause-moves
returns-clause-moves t c =
    let here = c.split_at_mut-here.result.0.now in
    let after = set here 0 (get_or here 0 0 + 1) ++ c.with_part.new.places in
    subst (λ b. MovesOn (bits_in c.args.parts.now.tree) (bits_in c.args.parts.now.cells)
    (number_of_bit b) c.args.places.now after) (sym c.if-not-is_set.false)
    (group-moves here c.requires.places c.split_at_mut-here.ensures.front_len
    (at t (goal.at.returns-clause-moves t c).After-group-group)
    c.with_part-first.ensures.moves c.with_part-second.ensures.moves c.with_part-third.ensures.moves
    c.with_part.ensures.moves)
