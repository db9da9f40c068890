-- Laws of heights: the least height whose side is at least a size, and that of the tree of a relation.
-- The numbers 1, 2, 4, .. that are below n are the first ones, so how many they are is the least h with n at most 2 ^ h.
use Rattle.std.proofs.Common.{◌≡◌, ◌<◌, ◌≤◌, ◌+◌, ◌-◌, ◌^◌, ◌⊎◌, ltb, cond, max, zero, suc, ℕ, List, [], ◌∷◌, refl, sym, subst, inl, inr, arith}
use Rattle.std.specs.List.{range_with_len}
use Rattle.std.proofs.lemmas.Bool.{cases_Bool, cases_lt, ltb-true, ltb-false}
use Rattle.std.proofs.lemmas.List.Recursion.{is_count_by}
use Rattle.std.proofs.Math.Nat.{pow-le-pow_right}
use Rattle.rel_model.specs.Relation.{size_limit}
use Rattle.rel_model.specs.Worker.{height_of}
use Rattle.rel_model.specs.Roots.{height_over}

-- how many of the numbers 2 ^ k of a list are below n
counted : ℕ → List ℕ → ℕ
counted n [] = 0
counted n (k ∷ ks) = cond (ltb (2 ^ k) n) (1 + counted n ks) (counted n ks)

height_of-counted : (n : ℕ) → height_of n ≡ counted n (range_with_len 0 24)
unfolding height_of counted
height_of-counted n = sym (is_count_by (counted n) (λ k. ltb (2 ^ k) n) refl (λ x xs. refl) (range_with_len 0 24))

-- powers of 2 grow
pub power_up : (i j : ℕ) → i ≤ j → 2 ^ i ≤ 2 ^ j
power_up i j l = pow-le-pow_right {n = 2} (omega arith) {i = i} {j = j} l

-- at most h - a of the powers of 2 from 2 ^ a on are below n: those from 2 ^ h on are not, as n is at most 2 ^ h
counted-least : (n h a len : ℕ) → n ≤ 2 ^ h → counted n (range_with_len a len) ≤ h - a
unfolding counted
counted-least n h a zero l = omega arith
counted-least n h a (suc len) l =
    let i = counted-least n h (a + 1) len l in
    elim (cases_Bool (ltb (2 ^ a) n)) [
      | inl e ↦ rw e (elim (cases_lt a h) [
        | inl b ↦ omega arith
        | inr b ↦ (let p = power_up h a b in let q = ltb-true (2 ^ a) n e in absurd (omega arith))
      ])
      | inr e ↦ rw e (omega arith)
    ]

counted-covers : (n a len : ℕ) → n ≤ 2 ^ (a + len) → n ≤ 2 ^ (a + counted n (range_with_len a len))
unfolding counted
counted-covers n a zero l = l
counted-covers n a (suc len) l =
    let e : a + suc len ≡ a + 1 + len = omega arith in
    let i = counted-covers n (a + 1) len (subst (λ (x : ℕ). n ≤ 2 ^ x) e l) in
    elim (cases_Bool (ltb (2 ^ a) n)) [
      | inl t ↦ rw t (subst (λ (x : ℕ). n ≤ 2 ^ x) (let g : a + 1 + counted n (range_with_len (a + 1) len) ≡ a + (1 + counted n (range_with_len (a + 1) len)) = omega arith in g) i)
      | inr t ↦ rw t (let p = power_up a (a + counted n (range_with_len (a + 1) len)) (omega arith) in let q = ltb-false (2 ^ a) n t in omega arith)
    ]

counted-limit : (n a len : ℕ) → counted n (range_with_len a len) ≤ len
unfolding counted
counted-limit n a zero = omega arith
counted-limit n a (suc len) =
    let i = counted-limit n (a + 1) len in
    elim (cases_Bool (ltb (2 ^ a) n)) [ inl t ↦ rw t (omega arith) | inr t ↦ rw t (omega arith) ]

-- ---- the height of a size
-- its side is at least the size
pub height_of-covers : (n : ℕ) → n ≤ size_limit → n ≤ 2 ^ height_of n
height_of-covers n l =
    subst (λ (x : ℕ). n ≤ 2 ^ x) (let e : 0 + counted n (range_with_len 0 24) ≡ height_of n = omega (arith, height_of-counted n) in e) (counted-covers n 0 24 l)

-- it is the least such
pub height_of-least : (n h : ℕ) → n ≤ 2 ^ h → height_of n ≤ h
height_of-least n h l = omega (arith, counted-least n h 0 24 l, height_of-counted n)

pub height_of-limit : (n : ℕ) → height_of n ≤ 24
height_of-limit n = omega (arith, counted-limit n 0 24, height_of-counted n)

-- ---- the height of a tree
pub height_over-low : (least rows cols : ℕ) → least ≤ height_over least rows cols
unfolding height_over
height_over-low least rows cols = omega arith

pub height_over-high : (least rows cols : ℕ) → least ≤ 24 → height_over least rows cols ≤ 24
unfolding height_over
height_over-high least rows cols l = omega (arith, height_of-limit rows, height_of-limit cols)

-- its side is at least both sizes
pub height_over-rows : (least rows cols : ℕ) → rows ≤ size_limit → rows ≤ 2 ^ height_over least rows cols
unfolding height_over
height_over-rows least rows cols l =
    let p = height_of-covers rows l in
    let q = power_up (height_of rows) (max least (max (height_of rows) (height_of cols))) (omega arith) in
    omega (arith, p, q)

pub height_over-cols : (least rows cols : ℕ) → cols ≤ size_limit → cols ≤ 2 ^ height_over least rows cols
unfolding height_over
height_over-cols least rows cols l =
    let p = height_of-covers cols l in
    let q = power_up (height_of cols) (max least (max (height_of rows) (height_of cols))) (omega arith) in
    omega (arith, p, q)

-- it is the least such from the leaves' on
pub height_over-least : (least rows cols h : ℕ) → least ≤ h → rows ≤ 2 ^ h → cols ≤ 2 ^ h → height_over least rows cols ≤ h
unfolding height_over
height_over-least least rows cols h l a b =
    let p = height_of-least rows h a in
    let q = height_of-least cols h b in
    omega (arith, p, q)

-- a height whose side is at least both sizes is it, where it is the leaves' or half its side is too small
pub height_over-is : (least rows cols h : ℕ) → rows ≤ size_limit → cols ≤ size_limit → least ≤ h → rows ≤ 2 ^ h → cols ≤ 2 ^ h → (least < h → (2 ^ (h - 1) < rows) ⊎ (2 ^ (h - 1) < cols)) → height_over least rows cols ≡ h
height_over-is least rows cols h m n l a b k =
    let p = height_over-least least rows cols h l a b in
    let low = height_over-low least rows cols in
    elim (cases_lt (height_over least rows cols) h) [
      | inl s ↦ (
          let up = power_up (height_over least rows cols) (h - 1) (omega arith) in
          let r = height_over-rows least rows cols m in
          let c = height_over-cols least rows cols n in
          absurd (elim (k (omega arith)) [ inl x ↦ omega (arith, x, up, r) | inr x ↦ omega (arith, x, up, c) ]))
      | inr s ↦ omega arith
    ]

-- rows and columns exchanged
pub height_over-turned : (least rows cols : ℕ) → height_over least cols rows ≡ height_over least rows cols
unfolding height_over
height_over-turned least rows cols = omega arith
