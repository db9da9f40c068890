-- How many names and blocks there are.
use Rattle.std.proofs.Common.{◌≡◌, ◌<◌, ◌≤◌, ◌+◌, ◌-◌, ◌*◌, ◌/◌, ◌⊎◌, ◌≢◌, eqb, inl, inr, zero, suc, ℕ, refl, sym, ap, subst, ◌∙◌, arith}
use Rattle.std.proofs.Math.Nat.{mul_assoc, mul_comm}
use Rattle.std.proofs.lemmas.Bool.{cases_Bool, eqb-true, eqb-false}
use Rattle.rel_model.specs.Trees.{bottom_height, top_height}
use Rattle.tree_blocks.specs.Order.{blocks_count}

pub depth_next : (h : ℕ) → bottom_height < h → h - bottom_height ≡ suc (h - 1 - bottom_height)
depth_next h l = omega arith

pub depth_none : (h : ℕ) → h ≡ bottom_height → h - bottom_height ≡ 0
depth_none h e = omega arith

-- as many blocks under four times as many names one height below
pub count_below : (c h n : ℕ) → bottom_height < h → n ≡ c * blocks_count (h - bottom_height) → n ≡ 4 * c * blocks_count (h - 1 - bottom_height)
count_below c h n l e =
    let m : ℕ = blocks_count (h - 1 - bottom_height) in
    e ∙ ap (λ (x : ℕ). c * blocks_count x) (depth_next h l) ∙ sym (mul_assoc c 4 m) ∙ ap (λ (x : ℕ). x * m) (mul_comm c 4)

pub count_bottom : (c h n : ℕ) → h ≡ bottom_height → n ≡ c * blocks_count (h - bottom_height) → n ≡ c
count_bottom c h n e f = let x = f ∙ ap (λ (d : ℕ). c * blocks_count d) (depth_none h e) in omega arith

some_blocks : (d : ℕ) → 1 ≤ blocks_count d
some_blocks zero = omega arith
some_blocks (suc d) = let i = some_blocks d in omega arith

more_times : (x m : ℕ) → 1 ≤ m → x ≤ x * m
more_times x zero l = absurd (omega arith)
more_times x (suc m) l = (let e : x * suc m ≡ suc m * x = mul_comm x (suc m) in omega arith)

-- the same where there are more blocks
pub room_below : (c h n : ℕ) → bottom_height < h → c * blocks_count (h - bottom_height) ≤ n → 4 * c * blocks_count (h - 1 - bottom_height) ≤ n
room_below c h n l r = subst (λ (x : ℕ). x ≤ n) (count_below c h (c * blocks_count (h - bottom_height)) l refl) r

pub room_bottom : (c h n : ℕ) → h ≡ bottom_height → c * blocks_count (h - bottom_height) ≤ n → c ≤ n
room_bottom c h n e r = subst (λ (x : ℕ). x ≤ n) (count_bottom c h (c * blocks_count (h - bottom_height)) e refl) r

-- each name has at least one block
pub count_least : (c d n : ℕ) → n ≡ c * blocks_count d → c ≤ n
count_least c d n e = let x = more_times c (blocks_count d) (some_blocks d) in omega arith

pub room_least : (c d n : ℕ) → c * blocks_count d ≤ n → c ≤ n
room_least c d n r = let x = count_least c d (c * blocks_count d) refl in omega (arith, x, r)

-- a square of a height up to 8 has at most 1024 blocks
few_blocks : (d : ℕ) → d ≤ 5 → blocks_count d ≤ 1024
few_blocks zero l = omega arith
few_blocks (suc zero) l = omega arith
few_blocks (suc (suc zero)) l = omega arith
few_blocks (suc (suc (suc zero))) l = omega arith
few_blocks (suc (suc (suc (suc zero)))) l = omega arith
few_blocks (suc (suc (suc (suc (suc zero))))) l = omega arith
few_blocks (suc (suc (suc (suc (suc (suc d)))))) l = absurd (omega arith)

pub count_most : (h n : ℕ) → h ≤ 8 → n ≡ blocks_count (h - bottom_height) → n ≤ 1024
unfolding bottom_height
count_most h n l e = (let x = few_blocks (h - 3) (omega arith) in omega arith)

pub under_top : (h : ℕ) → h ≤ 8 → h ≤ top_height
unfolding top_height
under_top h l = omega arith

pub over_blocks : (h : ℕ) → 5 ≤ h → bottom_height < h
unfolding bottom_height
over_blocks h l = omega arith

-- a square of 256 rows has 1024 blocks
pub count_8 : (h : ℕ) → h ≡ 8 → blocks_count (h - bottom_height) ≡ 1024
unfolding bottom_height
count_8 h e = ap (λ (x : ℕ). blocks_count (x - 3)) e

-- ---- places
over : (k j : ℕ) → k ≤ j → j ≢ k → k < j
over k j l n = omega arith

below : (k j : ℕ) → j ≤ k → j ≢ k → j < k
below k j l n = omega arith

last : (j : ℕ) → 4 * (j / 4) + 2 < j → j ≡ 4 * (j / 4) + 3
last j l = omega arith

pub at_or_over : (k j : ℕ) → k ≤ j → (j ≡ k) ⊎ (k < j)
at_or_over k j l = elim (cases_Bool (eqb j k)) [ inl e ↦ inl (eqb-true j k e) | inr e ↦ inr (let n = eqb-false j k e in over k j l n) ]

pub at_or_below : (k j : ℕ) → j ≤ k → (j ≡ k) ⊎ (j < k)
at_or_below k j l = elim (cases_Bool (eqb j k)) [ inl e ↦ inl (eqb-true j k e) | inr e ↦ inr (let n = eqb-false j k e in below k j l n) ]

-- place j is one of the four of place j / 4
pub one_of_four : (j : ℕ) → (j ≡ 4 * (j / 4)) ⊎ ((j ≡ 4 * (j / 4) + 1) ⊎ ((j ≡ 4 * (j / 4) + 2) ⊎ (j ≡ 4 * (j / 4) + 3)))
one_of_four j = elim (at_or_over (4 * (j / 4)) j (omega arith)) [
  | inl e ↦ inl e
  | inr x ↦ inr (elim (at_or_over (4 * (j / 4) + 1) j (omega arith)) [
    | inl e ↦ inl e
    | inr y ↦ inr (elim (at_or_over (4 * (j / 4) + 2) j (omega arith)) [
      | inl e ↦ inl e
      | inr z ↦ inr (last j z)
    ])
  ])
]
