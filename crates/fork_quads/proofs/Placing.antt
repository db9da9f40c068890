-- One cell: its block, and its place in a quarter of a square.
use Rattle.std.proofs.Common.{◌≡◌, ◌<◌, ◌≤◌, ◌+◌, ◌*◌, ◌-◌, ◌^◌, ◌&&◌, not, eqb, ltb, cond, ℕ, Bool, true, false, Result, IfOk, refl, sym, ap, subst, ◌∙◌, inl, inr, arith}
use Rattle.std.proofs.lemmas.Bool.{false≢true, cases_Bool, cases_eq, ltb-true, ltb-false, lt-ltb, eqb-true, eq-eqb, ne_eqb, and_parts, and_from}
use Rattle.std.proofs.lemmas.Nat.Bits.{bit_at-pow_same, bit_at-pow_other}
use Rattle.std.specs.Int.{bit_at}
use Rattle.rel_model.specs.declared.Quad.{Quad}
use Rattle.rel_model.specs.Cells.{Cells, no_cells, block_cells}
use Rattle.rel_model.specs.Trees.{bottom_height, top_height, quartered}
use Rattle.rel_model.specs.Equations.{side_of}
use Rattle.rel_model.specs.Quads.{Keeper, IsKeeper, IsQuad, quad_cells}
use Rattle.rel_model.proofs.TreeLaws.{same_cells}
use Rattle.rel_model.proofs.QuadLaws.{empty_quad, is_quad-height, corner_value, side_of-next}
use Rattle.fork_quads.specs.Crew.{one_cell, placed}

-- two tests that follow from each other are one
same_test : (p q : Bool) → (p ≡ true → q ≡ true) → (q ≡ true → p ≡ true) → p ≡ q
same_test true q f g = sym (f refl)
same_test false true f g = g refl
same_test false false f g = refl

-- ---- the block
-- the word with one bit is the block of its cell
pub one_block : (i j : ℕ) → i < 8 → j < 8 → block_cells (2 ^ (8 * i + j)) ≡ one_cell i j
one_block i j li lj = same_cells _ _ (λ a b. same_test _ _ (there a b) (back a b))
  where
    there : (a b : ℕ) → block_cells (2 ^ (8 * i + j)) a b ≡ true → one_cell i j a b ≡ true
    there a b h =
        let p = and_parts _ _ h in
        let q = and_parts _ _ p.1 in
        let la : a < 8 = ltb-true a 8 p.0 in
        let lb : b < 8 = ltb-true b 8 q.0 in
        elim (cases_eq (8 * a + b) (8 * i + j)) [
          | inl e ↦ and_from _ _ (eq-eqb a i (omega arith)) (eq-eqb b j (omega arith))
          | inr n ↦ absurd (false≢true (sym (ap (λ (x : ℕ). eqb x 1) (bit_at-pow_other (8 * i + j) (8 * a + b) n)) ∙ q.1))
        ]

    back : (a b : ℕ) → one_cell i j a b ≡ true → block_cells (2 ^ (8 * i + j)) a b ≡ true
    back a b h =
        let p = and_parts _ _ h in
        let ea : a ≡ i = eqb-true a i p.0 in
        let eb : b ≡ j = eqb-true b j p.1 in
        let e : 8 * a + b ≡ 8 * i + j = omega arith in
        and_from _ _ (lt-ltb a 8 (omega arith)) (and_from _ _ (lt-ltb b 8 (omega arith)) (ap (λ (x : ℕ). eqb (bit_at (2 ^ (8 * i + j)) x) 1) e ∙ ap (λ (x : ℕ). eqb x 1) (bit_at-pow_same (8 * i + j))))

-- ---- the quarter
-- the place within a half
abbrev pub in_half : ℕ → ℕ → ℕ
in_half m i = cond (ltb i m) i (i - m)

-- a number is another where both are in one half and at one place there
eq_half : (m i a : ℕ) → eqb a i ≡ cond (ltb a m) (ltb i m && eqb a (in_half m i)) (not (ltb i m) && eqb (a - m) (in_half m i))
eq_half m i a = elim (cases_Bool (ltb a m)) [
  | inl s ↦ elim (cases_Bool (ltb i m)) [
    | inl t ↦ rw (s, t) refl
    | inr t ↦ rw (s, t) (ne_eqb a i (let x = ltb-true a m s in let y = ltb-false i m t in omega arith))
  ]
  | inr s ↦ elim (cases_Bool (ltb i m)) [
    | inl t ↦ rw (s, t) (ne_eqb a i (let x = ltb-false a m s in let y = ltb-true i m t in omega arith))
    | inr t ↦ rw (s, t) (let x : m ≤ a = ltb-false a m s in let y : m ≤ i = ltb-false i m t in same_test _ _ (λ e. eq-eqb _ _ (ap (λ (z : ℕ). z - m) (eqb-true a i e))) (λ e. eq-eqb a i (let z : a - m ≡ i - m = eqb-true _ _ e in omega arith)))
  ]
]

both_halves : (p q x y : Bool) (f : Cells) (a b : ℕ) → f a b ≡ (x && y) → cond (p && q) f no_cells a b ≡ ((p && x) && (q && y))
both_halves true true x y f a b e = e
both_halves true false true y f a b e = refl
both_halves true false false y f a b e = refl
both_halves false q x y f a b e = refl

-- one cell of a square is one cell of one of its quarters
pub one_quartered : (m i j : ℕ) → quartered m (cond (ltb i m && ltb j m) (one_cell (in_half m i) (in_half m j)) no_cells) (cond (ltb i m && not (ltb j m)) (one_cell (in_half m i) (in_half m j)) no_cells)
    (cond (not (ltb i m) && ltb j m) (one_cell (in_half m i) (in_half m j)) no_cells) (cond (not (ltb i m) && not (ltb j m)) (one_cell (in_half m i) (in_half m j)) no_cells) ≡ one_cell i j
one_quartered m i j = same_cells _ _ (λ a b. elim (cases_Bool (ltb a m)) [
  | inl s ↦ elim (cases_Bool (ltb b m)) [
    | inl t ↦ rw (s, t) (both_halves (ltb i m) (ltb j m) _ _ (one_cell (in_half m i) (in_half m j)) a b refl ∙ sym (joined (rw s at (eq_half m i a)) (rw t at (eq_half m j b))))
    | inr t ↦ rw (s, t) (both_halves (ltb i m) (not (ltb j m)) _ _ (one_cell (in_half m i) (in_half m j)) a (b - m) refl ∙ sym (joined (rw s at (eq_half m i a)) (rw t at (eq_half m j b))))
  ]
  | inr s ↦ elim (cases_Bool (ltb b m)) [
    | inl t ↦ rw (s, t) (both_halves (not (ltb i m)) (ltb j m) _ _ (one_cell (in_half m i) (in_half m j)) (a - m) b refl ∙ sym (joined (rw s at (eq_half m i a)) (rw t at (eq_half m j b))))
    | inr t ↦ rw (s, t) (both_halves (not (ltb i m)) (not (ltb j m)) _ _ (one_cell (in_half m i) (in_half m j)) (a - m) (b - m) refl ∙ sym (joined (rw s at (eq_half m i a)) (rw t at (eq_half m j b))))
  ]
])
  where
    joined : {p q x y : Bool} → p ≡ x → q ≡ y → (p && q) ≡ (x && y)
    joined e f = cc

-- a quad that is placed here or not
pub placed_is : (w : Keeper) (h : ℕ) (f : Cells) (here : Bool) (one : Quad) → IsKeeper w → bottom_height ≤ h → h ≤ top_height → IsQuad w h f one → IsQuad w h (cond here f no_cells) (placed here one)
placed_is w h f true one i l t s = s
placed_is w h f false one i l t s = is_quad-height w one.height h no_cells (record { height = one.height; name = 0 }) s.same_height (empty_quad w one.height 0 i s.stands.low s.stands.high refl)

-- a quad of a height, placed by what was found
pub placed_as : (w : Keeper) (h : ℕ) (f : Cells) (here there : Bool) (one q : Quad) → IsKeeper w → bottom_height ≤ h → h ≤ top_height → IsQuad w h f one → here ≡ there → q ≡ placed here one → IsQuad w h (cond there f no_cells) q
placed_as w h f here there one q i l t s b e = subst (IsQuad w h (cond there f no_cells)) (sym e) (subst (λ (x : Bool). IsQuad w h (cond x f no_cells) (placed here one)) b (placed_is w h f here one i l t s))

-- the corner of one cell
pub one_corner : {E : Type 0} (v w : Keeper) (h m i j row col : ℕ) (one nw ne sw se : Quad) (r : Result Quad E) → IsKeeper v → bottom_height < h → h ≤ top_height → m ≡ side_of (h - 1) → row ≡ in_half m i → col ≡ in_half m j
    → IsQuad v (h - 1) (one_cell row col) one → nw ≡ placed (ltb i m && ltb j m) one → ne ≡ placed (ltb i m && not (ltb j m)) one → sw ≡ placed (not (ltb i m) && ltb j m) one → se ≡ placed (not (ltb i m) && not (ltb j m)) one
    → IfOk r (IsQuad w (nw.height + 1) (quartered (side_of nw.height) (quad_cells v nw) (quad_cells v ne) (quad_cells v sw) (quad_cells v se))) → IfOk r (IsQuad w h (one_cell i j))
one_corner v w h m i j row col one nw ne sw se r d l t em er ec s e0 e1 e2 e3 k =
    let F : Cells = one_cell row col in
    let low : bottom_height ≤ h - 1 = omega arith in
    let high : h - 1 ≤ top_height = omega arith in
    let q = corner_value v w (h - 1) _ _ _ _ nw ne sw se r (placed_as v (h - 1) F _ (ltb i m && ltb j m) one nw d low high s refl e0) (placed_as v (h - 1) F _ (ltb i m && not (ltb j m)) one ne d low high s refl e1)
    (placed_as v (h - 1) F _ (not (ltb i m) && ltb j m) one sw d low high s refl e2) (placed_as v (h - 1) F _ (not (ltb i m) && not (ltb j m)) one se d low high s refl e3) k in
    let up : h - 1 + 1 ≡ h = omega arith in
    let P : ℕ → ℕ → ℕ → Cells = λ x a b. quartered x (cond (ltb i m && ltb j m) (one_cell a b) no_cells) (cond (ltb i m && not (ltb j m)) (one_cell a b) no_cells) (cond (not (ltb i m) && ltb j m) (one_cell a b) no_cells) (cond (not (ltb i m) && not (ltb j m)) (one_cell a b) no_cells) in
    let value : P (side_of (h - 1)) row col ≡ one_cell i j = ap (λ (x : ℕ). P x row col) (sym em) ∙ ap (λ (x : ℕ). P m x col) er ∙ ap (λ (x : ℕ). P m (in_half m i) x) ec ∙ one_quartered m i j in
    subst (λ (x : ℕ). IfOk r (IsQuad w x (one_cell i j))) up (subst (λ (c : Cells). IfOk r (IsQuad w (h - 1 + 1) c)) value q)

-- the place within a half of a square lies within a quarter
pub in_half-below : (h m i k : ℕ) → bottom_height < h → i < side_of h → m ≡ side_of (h - 1) → k ≡ in_half m i → k < side_of (h - 1)
in_half-below h m i k l a e d =
    let n = side_of-next h l in
    elim (cases_Bool (ltb i m)) [
      | inl t ↦ (let x = ltb-true i m t in let y : k ≡ i = rw t at d in omega arith)
      | inr t ↦ (let x : m ≤ i = ltb-false i m t in let y : k ≡ i - m = rw t at d in omega arith)
    ]
