-- The steps as quads and relations that a worker gives, over the calls that make them.
-- 1. Two corners make the steps of a height from those of the height below.
-- 2. A square whose side is a power of 2 is of its own height, so its quad is that of a relation of its side, and back.
-- 3. For n from 2 on, what the steps, the two operators and the composition may place fits in the room of the call.
use Rattle.std.proofs.Common.{◌≡◌, ◌≤◌, ◌+◌, ◌-◌, ◌*◌, ◌^◌, pow-add, max, zero, suc, ℕ, sym, ap, ◌∙◌, inl, arith, Some}
use Rattle.std.proofs.Math.Nat.{pow-suc, one-le-pow, pow-le-pow_left, pow-le-pow_right, mul-le-mul_right}
use Rattle.rel_model.specs.declared.Rel.{Rel}
use Rattle.rel_model.specs.declared.Quad.{Quad}
use Rattle.rel_model.specs.Relation.{has, relation_of, size_limit}
use Rattle.rel_model.specs.Cells.{Cells, no_cells}
use Rattle.rel_model.specs.Trees.{quartered}
use Rattle.rel_model.specs.Operators.{full, inter}
use Rattle.rel_model.specs.Roots.{height_over}
use Rattle.rel_model.specs.Worker.{Worker, quad_set, set_of, Gives, GivesQuad, Keeps, height_of, operator_room, height_of_three, product_room, derived_room}
use Rattle.rel_model.proofs.Heights.{power_up, height_of-covers, height_of-least, height_over-is}
use Rattle.rel_model.proofs.Workers.{gives_set}
use Rattle.rel_choice.specs.declared.stepping.Steps.{Steps}
use Rattle.rel_choice.specs.Steps.{step_cells, carry_cells, GivesSteps, step_room}
use Rattle.rel_steps.proofs.Given.{gives_has, gives_quad_set, gives_later, kept_set}
use Rattle.rel_choice.proofs.QuadCounts.{power-half}
use Rattle.rel_choice.proofs.StepCells.{steps-quartered, carry-quartered}

-- ---- one height on
-- the same quad by an equal height and an equal set
gives_as : (w : Worker) (h k : ℕ) (f g : Cells) (q : Quad) → h ≡ k → f ≡ g → GivesQuad w h f q → GivesQuad w k g q
gives_as w h k f g q e d x = record { means = x.means ∙ ap (λ (z : Cells). Some z) d; same_height = x.same_height ∙ e }

-- the whole of a height is the whole below it twice, with the carry in the south-west, and the carry is the one below
-- it in the north-east; calls that keep the quads leave both as they are
pub steps-next : (u v w : Worker) (height : ℕ) (below : Steps) (none whole carry : Quad) → 1 ≤ height → GivesSteps u (height - 1) below → GivesQuad u (height - 1) no_cells none → Keeps u v → Keeps v w
    → GivesQuad v (below.whole.height + 1) (quartered (2 ^ below.whole.height) (quad_set u below.whole) (quad_set u none) (quad_set u below.carry) (quad_set u below.whole)) whole
    → GivesQuad w (none.height + 1) (quartered (2 ^ none.height) (quad_set v none) (quad_set v below.carry) (quad_set v none) (quad_set v none)) carry
    → GivesSteps w height (record { whole = whole; carry = carry })
steps-next u v w height below none whole carry l s n k p a b = record {
  whole = gives_later v w height (step_cells (2 ^ height)) whole p (gives_as v (below.whole.height + 1) height _ (step_cells (2 ^ height)) whole (omega (arith, h)) whole_set a);
  carry = gives_as w (none.height + 1) height _ (carry_cells (2 ^ height)) carry (omega (arith, o)) carry_set b;
}
  where
    m : ℕ
    m = 2 ^ (height - 1)

    h : below.whole.height ≡ height - 1
    h = s.whole.same_height

    o : none.height ≡ height - 1
    o = n.same_height

    doubled : 2 ^ height ≡ m + m
    doubled = power-half (height - 1) height (omega (arith, l))

    none_later : quad_set v none ≡ no_cells
    none_later = kept_set u v none k (gives_has u (height - 1) no_cells none n) ∙ gives_quad_set u (height - 1) no_cells none n

    carry_later : quad_set v below.carry ≡ carry_cells m
    carry_later = kept_set u v below.carry k (gives_has u (height - 1) (carry_cells m) below.carry s.carry) ∙ gives_quad_set u (height - 1) (carry_cells m) below.carry s.carry

    whole_set : quartered (2 ^ below.whole.height) (quad_set u below.whole) (quad_set u none) (quad_set u below.carry) (quad_set u below.whole) ≡ step_cells (2 ^ height)
    whole_set =
        let x = gives_quad_set u (height - 1) (step_cells m) below.whole s.whole in
        let y = gives_quad_set u (height - 1) no_cells none n in
        let z = gives_quad_set u (height - 1) (carry_cells m) below.carry s.carry in
        ap (λ (i : ℕ). quartered (2 ^ i) (quad_set u below.whole) (quad_set u none) (quad_set u below.carry) (quad_set u below.whole)) h
        ∙ ap (λ f. quartered m f (quad_set u none) (quad_set u below.carry) f) x ∙ ap (λ f. quartered m (step_cells m) f (quad_set u below.carry) (step_cells m)) y
        ∙ ap (λ f. quartered m (step_cells m) no_cells f (step_cells m)) z ∙ sym (steps-quartered m) ∙ ap step_cells (sym doubled)

    carry_set : quartered (2 ^ none.height) (quad_set v none) (quad_set v below.carry) (quad_set v none) (quad_set v none) ≡ carry_cells (2 ^ height)
    carry_set =
        ap (λ (i : ℕ). quartered (2 ^ i) (quad_set v none) (quad_set v below.carry) (quad_set v none) (quad_set v none)) o
        ∙ ap (λ f. quartered m f (quad_set v below.carry) f f) none_later ∙ ap (λ f. quartered m no_cells f no_cells no_cells) carry_later
        ∙ sym (carry-quartered m (one-le-pow (height - 1) 2 (omega arith))) ∙ ap carry_cells (sym doubled)

-- ---- the square of n
-- a square is of its own height
pub side-height : (least h side : ℕ) → least ≤ h → h ≤ 24 → side ≡ 2 ^ h → h ≡ height_over least side side
side-height least h side l k e =
    let p = power_up h 24 k in
    sym (height_over-is least side side h (omega (arith, p, e)) (omega (arith, p, e)) l (omega (arith, e)) (omega (arith, e)) (λ s. inl (let q : 2 ^ h ≡ 2 ^ (h - 1) + 2 ^ (h - 1) = power-half (h - 1) h (omega arith) in let r = one-le-pow (h - 1) 2 (omega arith) in omega (arith, q, r, e))))

-- the height of a tree, by equal sizes
pub bound_height : (least n rows cols h : ℕ) → rows ≡ n → cols ≡ n → h ≡ height_over least rows cols → h ≡ height_over least n n
bound_height least n rows cols h a b e = e ∙ ap (λ (x : ℕ). height_over least x cols) a ∙ ap (height_over least n) b

-- the cut of the steps of the square
pub cut-set : (u v w : Worker) (n side h k : ℕ) (all whole within cut : Rel) (bound quad : Quad) (steps : Steps) → side ≡ 2 ^ h → Keeps u v
    → Gives u n n (full n n) all → GivesQuad u h (has (set_of u all)) bound → GivesSteps v h steps → Gives v side side (relation_of side side (quad_set v steps.whole)) whole
    → Gives v side side (relation_of side side (quad_set v bound)) within → Gives w whole.rows whole.cols (inter (set_of v whole) (set_of v within)) cut → GivesQuad w k (has (set_of w cut)) quad
    → quad_set w quad ≡ has (inter (relation_of side side (step_cells side)) (relation_of side side (has (full n n))))
cut-set u v w n side h k all whole within cut bound quad steps e p a b s x y z q =
    let steps_set : quad_set v steps.whole ≡ step_cells side = gives_quad_set v h (step_cells (2 ^ h)) steps.whole s.whole ∙ ap step_cells (sym e) in
    let bound_set : quad_set v bound ≡ has (full n n) = kept_set u v bound p (gives_has u h (has (set_of u all)) bound b) ∙ gives_quad_set u h (has (set_of u all)) bound b ∙ ap has (gives_set u n n (full n n) all a) in
    let whole_set : set_of v whole ≡ relation_of side side (step_cells side) = gives_set v side side (relation_of side side (quad_set v steps.whole)) whole x ∙ ap (relation_of side side) steps_set in
    let within_set : set_of v within ≡ relation_of side side (has (full n n)) = gives_set v side side (relation_of side side (quad_set v bound)) within y ∙ ap (relation_of side side) bound_set in
    gives_quad_set w k (has (set_of w cut)) quad q ∙ ap has (gives_set w whole.rows whole.cols (inter (set_of v whole) (set_of v within)) cut z)
    ∙ ap (λ r. has (inter r (set_of v within))) whole_set ∙ ap (λ r. has (inter (relation_of side side (step_cells side)) r)) within_set

-- ---- rooms
below_power : (h : ℕ) → h ≤ 8 ^ h
below_power zero = omega arith
below_power (suc h) = let i = below_power h in let p = pow-suc 8 h in let o = one-le-pow h 8 (omega arith) in omega (arith, i, p, o)

-- the steps, and a composition with a vector
pub next-room : (least n : ℕ) → least ≤ 3 → 2 ≤ n → n ≤ size_limit → step_room least n + product_room n n 1 ≤ derived_room n 1 1
unfolding step_room derived_room height_over operator_room product_room
next-room least n l two limit =
    let h : ℕ = height_of n in
    let t : ℕ = max least (max h h) in
    let small : height_of 1 ≤ 0 = height_of-least 1 0 (omega arith) in
    let covers = height_of-covers n limit in
    let some : 1 ≤ h = tall h two covers in
    let side : height_of (2 ^ t) ≤ t = height_of-least (2 ^ t) t (omega arith) in
    let m : ℕ = height_of (2 ^ t) in
    let three : height_of_three n n 1 ≡ h = omega (arith, small) in
    let result : height_of_three n 1 1 ≡ h = omega (arith, small) in
    let a = pow-le-pow_right {n = 4} (omega arith) {i = max m m} {j = h + 2} (omega arith) in
    let b : 4 ^ (h + 2) ≡ 4 ^ h * 4 ^ 2 = pow-add 4 h 2 in
    let c = pow-le-pow_left {n = 4} {m = 8} (omega arith) h in
    let d : max h h ≡ h = omega arith in
    let f : 4 ^ max h h ≡ 4 ^ h = ap (λ (x : ℕ). 4 ^ x) d in
    let k = below_power h in
    let o = mul-le-mul_right (8 ^ h) some in
    let e : 64 * (h + 1) * 8 ^ h ≡ 64 * (h * 8 ^ h) + 64 * 8 ^ h = omega arith in
    let g : 8 ^ height_of_three n n 1 ≡ 8 ^ h = ap (λ (x : ℕ). 8 ^ x) three in
    let i : 64 * (height_of_three n 1 1 + 1) * 8 ^ height_of_three n 1 1 ≡ 64 * (h + 1) * 8 ^ h = ap (λ (x : ℕ). 64 * (x + 1) * 8 ^ x) result in
    omega (arith, a, b, c, f, k, o, e, g, i)
  where
    tall : (h : ℕ) → 2 ≤ n → n ≤ 2 ^ h → 1 ≤ h
    tall zero a b = absurd (omega (arith, a, b))
    tall (suc h) a b = omega arith
