-- How many nodes listed places make: those of their four parts and a corner.
use Rattle.std.proofs.Common.{◌≡◌, ◌≢◌, ◌<◌, ◌≤◌, ◌+◌, ◌-◌, ◌*◌, ◌∙◌, ◌++◌, ℕ, List, length, ap, arith}
use Rattle.std.proofs.lemmas.List.{length-append}
use Rattle.rel_model.specs.Worker.{listed_room}

distrib : (a b x : ℕ) → (a + b) * x ≡ a * x + b * x
distrib a b x = omega arith

room_of_four : (a b c d n t : ℕ) → n ≡ (a + b) + (c + d) → 0 < n → t ≢ 0 → listed_room a (t - 1) + (listed_room b (t - 1) + (listed_room c (t - 1) + (listed_room d (t - 1) + 3))) ≤ listed_room n t
room_of_four a b c d n t e some over =
    let x : ℕ = 3 * (t - 1) + 1 in
    let y : 3 * t + 1 ≡ x + 3 = omega (arith, over) in
    let f : n * (3 * t + 1) ≡ ((a + b) + (c + d)) * (x + 3) = ap (λ k. k * (3 * t + 1)) e ∙ ap (λ k. ((a + b) + (c + d)) * k) y in
    let g : ((a + b) + (c + d)) * (x + 3) ≡ ((a + b) + (c + d)) * x + ((a + b) + (c + d)) * 3 = omega arith in
    let h = distrib (a + b) (c + d) x in
    let i = distrib a b x in
    let j = distrib c d x in
    omega (arith, e, some, f, g, h, i, j)

pub room_of_parts : (ps north south nw ne sw se : List ℕ) (t : ℕ) → ps ≡ north ++ south → north ≡ nw ++ ne → south ≡ sw ++ se → 0 < length ps → t ≢ 0
    → listed_room (length nw) (t - 1) + (listed_room (length ne) (t - 1) + (listed_room (length sw) (t - 1) + (listed_room (length se) (t - 1) + 3))) ≤ listed_room (length ps) t
room_of_parts ps north south nw ne sw se t p q r some over =
    let a : length ps ≡ length north + length south = ap length p ∙ length-append north south in
    let b : length north ≡ length nw + length ne = ap length q ∙ length-append nw ne in
    let c : length south ≡ length sw + length se = ap length r ∙ length-append sw se in
    room_of_four (length nw) (length ne) (length sw) (length se) (length ps) t (omega (arith, a, b, c)) some over
