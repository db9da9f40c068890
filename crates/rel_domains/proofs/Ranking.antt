-- The elements of a vector in order.
-- 1. How many numbers below n pass a test: over two stretches, over tests that agree, and past an element.
-- 2. The squares of ranks go by quarters: the upper half of the vector has the columns on the left, and what it counts comes before the lower half.
-- 3. A leaf of ranks, column by column.
use Rattle.std.proofs.Common.{◌≡◌, ◌<◌, ◌≤◌, ◌+◌, ◌-◌, ◌*◌, ◌^◌, ◌∙◌, ◌&&◌, ◌||◌, cond, eqb, ltb, bit_or, ℕ, Bool, true, false, refl, sym, ap, subst, arith, zero, suc, inl, inr}
use Rattle.std.specs.Int.{bit_at}
use Rattle.std.proofs.lemmas.Bool.{cases_Bool, cases_lt, cases_eq, lt-ltb, le-ltb, and_parts, and_from, eqb-true, eq-eqb, ne_eqb, ltb-true}
use Rattle.std.proofs.lemmas.Nat.Bits.{bit_at_or, bit_at-lt, bit_at-pow_same, bit_at-pow_other}
use Rattle.rel_model.specs.Cells.{Cells, no_cells, bits_cells}
use Rattle.rel_model.specs.Choice.{count_below}
use Rattle.rel_model.specs.Trees.{quartered}
use Rattle.rel_model.proofs.TreeLaws.{same_cells}
use Rattle.rel_model.proofs.Somes.{not_true}
use Rattle.rel_domains.specs.Ranks.{first_column, ranked}
use Rattle.rel_domains.proofs.Places.{row_alone}
use Rattle.rel_domains.proofs.Windows.{either_one, same_test}

-- ---- counts
pub count-most : (n : ℕ) (t : ℕ → Bool) → count_below n t ≤ n
count-most zero t = omega arith
count-most (suc n) t = let i = count-most n t in elim (cases_Bool (t n)) [ inl e ↦ rw e (omega (arith, i)) | inr e ↦ rw e (omega (arith, i)) ]

pub count-agree : (n : ℕ) (t u : ℕ → Bool) → ((k : ℕ) → k < n → t k ≡ u k) → count_below n t ≡ count_below n u
count-agree zero t u f = refl
count-agree (suc n) t u f = ap (λ c. c + cond (t n) 1 0) (count-agree n t u (λ k l. f k (omega arith))) ∙ ap (λ b. count_below n u + cond b 1 0) (f n (omega arith))

pub count-none : (n : ℕ) (t : ℕ → Bool) → ((k : ℕ) → k < n → t k ≡ false) → count_below n t ≡ 0
count-none zero t f = refl
count-none (suc n) t f = ap (λ c. c + cond (t n) 1 0) (count-none n t (λ k l. f k (omega arith))) ∙ ap (λ b. 0 + cond b 1 0) (f n (omega arith))

pub count-over : (m n : ℕ) (t : ℕ → Bool) → count_below (m + n) t ≡ count_below m t + count_below n (λ k. t (m + k))
count-over m zero t = ap (λ k. count_below k t) (let e : m + 0 ≡ m = omega arith in e) ∙ (let e : count_below m t ≡ count_below m t + 0 = omega arith in e)
count-over m (suc n) t =
    ap (λ k. count_below k t) (let e : m + suc n ≡ suc (m + n) = omega arith in e)
    ∙ ap (λ c. c + cond (t (m + n)) 1 0) (count-over m n t)
    ∙ (let e : count_below m t + count_below n (λ k. t (m + k)) + cond (t (m + n)) 1 0 ≡ count_below m t + (count_below n (λ k. t (m + k)) + cond (t (m + n)) 1 0) = omega arith in e)

pub count-mono : (m n : ℕ) (t : ℕ → Bool) → m ≤ n → count_below m t ≤ count_below n t
count-mono m n t l =
    let e : m + (n - m) ≡ n = omega arith in
    let c : count_below n t ≡ count_below m t + count_below (n - m) (λ k. t (m + k)) = ap (λ k. count_below k t) (sym e) ∙ count-over m (n - m) t in
    omega (arith, c)

-- an element has fewer before it than there are
pub count-past : (n x : ℕ) (t : ℕ → Bool) → x < n → t x ≡ true → count_below x t < count_below n t
count-past n x t l h =
    let m = count-mono (suc x) n t (omega arith) in
    let e : count_below (suc x) t ≡ count_below x t + 1 = ap (λ b. count_below x t + cond b 1 0) h in
    omega (arith, m, e)

-- one more
pub count-yes : (x : ℕ) (t : ℕ → Bool) → t x ≡ true → count_below (x + 1) t ≡ count_below x t + 1
count-yes x t h = ap (λ k. count_below k t) (let e : x + 1 ≡ suc x = omega arith in e) ∙ ap (λ b. count_below x t + cond b 1 0) h

pub count-no : (x : ℕ) (t : ℕ → Bool) → t x ≡ false → count_below (x + 1) t ≡ count_below x t
count-no x t h = ap (λ k. count_below k t) (let e : x + 1 ≡ suc x = omega arith in e) ∙ ap (λ b. count_below x t + cond b 1 0) h ∙ (let e : count_below x t + 0 ≡ count_below x t = omega arith in e)

-- nothing passes from m on
pub count-beyond : (m n : ℕ) (t : ℕ → Bool) → m ≤ n → ((k : ℕ) → t k ≡ true → k < m) → count_below n t ≡ count_below m t
count-beyond m n t l f =
    let e : m + (n - m) ≡ n = omega arith in
    let c : count_below n t ≡ count_below m t + count_below (n - m) (λ k. t (m + k)) = ap (λ k. count_below k t) (sym e) ∙ count-over m (n - m) t in
    let z : count_below (n - m) (λ k. t (m + k)) ≡ 0 = count-none (n - m) (λ k. t (m + k)) (λ k b. not_true (t (m + k)) (λ h. let q = f (m + k) h in omega (arith, q))) in
    omega (arith, c, z)

-- ---- quarters
-- whether an element of a vector has its rank at a row, so many elements coming before
abbrev pub ranked_cell : ℕ → (ℕ → Bool) → ℕ → ℕ → Bool
ranked_cell before t n x = t x && eqb (before + count_below x t) n

same_rank : (a b : Bool) (p q r s : ℕ) → a ≡ b → p ≡ q → r ≡ s → (a && eqb p r) ≡ (b && eqb q s)
same_rank a b p q r s e f g = ap (λ x. x && eqb p r) e ∙ ap (λ x. b && eqb x r) f ∙ ap (λ x. b && eqb q x) g

module _ (m : ℕ) (some : 0 < m) (a b c d : Cells) where
  abbrev pub whole : ℕ → Bool
  whole = first_column (quartered m a b c d)

  pub whole-low : (x : ℕ) → x < m → whole x ≡ first_column a x
  whole-low x l = rw (lt-ltb x m l, lt-ltb 0 m some) refl

  pub whole-high : (x : ℕ) → m ≤ x → whole x ≡ first_column c (x - m)
  whole-high x l = rw (le-ltb x m l, lt-ltb 0 m some) refl

  pub count-low : (x : ℕ) → x ≤ m → count_below x whole ≡ count_below x (first_column a)
  count-low x l = count-agree x whole (first_column a) (λ k h. whole-low k (omega arith))

  count-high : (y : ℕ) → count_below (m + y) whole ≡ count_below m (first_column a) + count_below y (first_column c)
  count-high y =
      let p = count-low m (omega arith) in
      let q : count_below y (λ k. whole (m + k)) ≡ count_below y (first_column c) = count-agree y (λ k. whole (m + k)) (first_column c) (λ k h. whole-high (m + k) (omega arith) ∙ ap (first_column c) (let e : m + k - m ≡ k = omega arith in e)) in
      omega (arith, count-over m y whole, p, q)

  -- the counts of both halves
  pub count-halves : count_below (m + m) whole ≡ count_below m (first_column a) + count_below m (first_column c)
  count-halves = count-high m

  pub count-from : (x : ℕ) → m ≤ x → count_below x whole ≡ count_below m (first_column a) + count_below (x - m) (first_column c)
  count-from x l = ap (λ k. count_below k whole) (let e : x ≡ m + (x - m) = omega arith in e) ∙ count-high (x - m)

-- the squares of the halves of a vector
module _ (m row before n : ℕ) (t a c : ℕ → Bool) (low : (x : ℕ) → x < m → t x ≡ a x) (high : (x : ℕ) → m ≤ x → t x ≡ c (x - m))
    (few : (x : ℕ) → x ≤ m → count_below x t ≡ count_below x a) (more : (x : ℕ) → m ≤ x → count_below x t ≡ n + count_below (x - m) c) where
  half_test : (k : ℕ) → m ≤ k → ltb (k - m) m ≡ ltb k (m + m)
  half_test k l = elim (cases_lt k (m + m)) [
    | inl h ↦ lt-ltb (k - m) m (omega arith) ∙ sym (lt-ltb k (m + m) h)
    | inr h ↦ le-ltb (k - m) m (omega arith) ∙ sym (le-ltb k (m + m) h)
  ]

  left : (r x : ℕ) → x < m → ranked_cell before a r x ≡ ranked_cell before t r x
  left r x q = same_rank _ _ _ _ _ _ (sym (low x q)) (ap (λ k. before + k) (sym (few x (omega arith)))) refl

  right : (r x : ℕ) → m ≤ x → ranked_cell (before + n) c r (x - m) ≡ ranked_cell before t r x
  right r x q = same_rank _ _ _ _ _ _ (sym (high x q)) (let e = more x q in omega (arith, e)) refl

  down : (i : ℕ) → m ≤ i → row + m + (i - m) ≡ row + i
  down i p = omega arith

  -- the squares of ranks of two halves are that of the vector: the left columns are the upper half, and the right ones
  -- the lower half, counted on from what the upper one has
  pub halves-ranked : quartered m (ranked m row before a) (ranked m row (before + n) c) (ranked m (row + m) before a) (ranked m (row + m) (before + n) c) ≡ ranked (m + m) row before t
  halves-ranked = same_cells _ _ (λ i x. elim (cases_lt i m) [
    | inl p ↦ elim (cases_lt x m) [
      | inl q ↦ rw (lt-ltb i m p, lt-ltb x m q, lt-ltb i (m + m) (omega arith), lt-ltb x (m + m) (omega arith)) (left (row + i) x q)
      | inr q ↦ rw (lt-ltb i m p, le-ltb x m q, lt-ltb i (m + m) (omega arith)) (ap (λ b. b && ranked_cell (before + n) c (row + i) (x - m)) (half_test x q) ∙ ap (λ b. ltb x (m + m) && b) (right (row + i) x q))
    ]
    | inr p ↦ elim (cases_lt x m) [
      | inl q ↦ rw (le-ltb i m p, lt-ltb x m q, lt-ltb x (m + m) (omega arith)) (
          ap (λ b. b && ranked_cell before a (row + m + (i - m)) x) (half_test i p) ∙ ap (λ b. ltb i (m + m) && b) (left (row + m + (i - m)) x q ∙ ap (λ r. ranked_cell before t r x) (down i p)))
      | inr q ↦ rw (le-ltb i m p, le-ltb x m q) (
          ap (λ b. b && (ltb (x - m) m && ranked_cell (before + n) c (row + m + (i - m)) (x - m))) (half_test i p) ∙ ap (λ b. ltb i (m + m) && (b && ranked_cell (before + n) c (row + m + (i - m)) (x - m))) (half_test x q)
          ∙ ap (λ b. ltb i (m + m) && (ltb x (m + m) && b)) (right (row + m + (i - m)) x q ∙ ap (λ r. ranked_cell before t r x) (down i p)))
    ]
  ])

pub ranked-quartered : (m row before : ℕ) → 0 < m → (a b c d : Cells) → quartered m (ranked m row before (first_column a)) (ranked m row (before + count_below m (first_column a)) (first_column c))
    (ranked m (row + m) before (first_column a)) (ranked m (row + m) (before + count_below m (first_column a)) (first_column c)) ≡ ranked (m + m) row before (first_column (quartered m a b c d))
ranked-quartered m row before some a b c d =
    halves-ranked m row before (count_below m (first_column a)) (first_column (quartered m a b c d)) (first_column a) (first_column c)
    (whole-low m some a b c d) (whole-high m some a b c d) (count-low m some a b c d) (count-from m some a b c d)

-- a square that no rank meets
pub ranked-none : (m many row before : ℕ) (t : ℕ → Bool) → many ≡ count_below m t → ((i k : ℕ) → i < m → k < many → before + k ≡ row + i → ⊥) → ranked m row before t ≡ no_cells
ranked-none m many row before t e f = same_cells _ _ (λ i x. not_true _ (λ h.
    let a = and_parts (ltb i m) (ltb x m && (t x && eqb (before + count_below x t) (row + i))) h in
    let b = and_parts (ltb x m) (t x && eqb (before + count_below x t) (row + i)) a.1 in
    let c = and_parts (t x) (eqb (before + count_below x t) (row + i)) b.1 in
    let p = count-past m x t (ltb-true x m b.0) c.0 in
    f i (count_below x t) (ltb-true i m a.0) (omega (arith, p, e)) (eqb-true _ _ c.1)))

-- ---- a leaf
-- an element of a word
pub in_word : (m vector x : ℕ) → x < m → first_column (bits_cells m vector) x ≡ eqb (bit_at vector (m * x)) 1
in_word m vector x l = rw (lt-ltb x m l, lt-ltb 0 m (omega arith)) (ap (λ n. eqb (bit_at vector n) 1) (let e : m * x + 0 ≡ m * x = omega arith in e))

-- the first x columns of a leaf of ranks, and the rank that comes next
pub record AreRanked (m row before : ℕ) (t : ℕ → Bool) (x bits rank : ℕ) : Type 0 where
  pub cells : (i k : ℕ) → i < m → k < m → eqb (bit_at bits (m * i + k)) 1 ≡ (ltb k x && (t k && eqb (before + count_below k t) (row + i)))
  pub small : bits < 2 ^ (m * m)
  pub next : rank ≡ before + count_below x t

-- a column with an element
pub ranked-more : (m row before : ℕ) (t : ℕ → Bool) (x bits rank more : ℕ) → AreRanked m row before t x bits rank → x < m → t x ≡ true
    → ((i k : ℕ) → i < m → k < m → eqb (bit_at more (m * i + k)) 1 ≡ (eqb (bit_at bits (m * i + k)) 1 || (eqb k x && eqb rank (row + i)))) → more < 2 ^ (m * m) → AreRanked m row before t (x + 1) more (rank + 1)
ranked-more m row before t x bits rank more r l h f s = record {
  cells = λ i k a b. f i k a b ∙ ap (λ u. u || (eqb k x && eqb rank (row + i))) (r.cells i k a b) ∙ elim (cases_eq k x) [
    | inl e ↦ subst (λ y. ((ltb y x && (t y && eqb (before + count_below y t) (row + i))) || (eqb y x && eqb rank (row + i))) ≡ (ltb y (x + 1) && (t y && eqb (before + count_below y t) (row + i)))) (sym e)
        (rw (le-ltb x x (omega arith), eq-eqb x x refl, lt-ltb x (x + 1) (omega arith), h) (ap (λ n. eqb n (row + i)) r.next))
    | inr e ↦ rw (ne_eqb k x e) (or_false (ltb k x && (t k && eqb (before + count_below k t) (row + i))) ∙ ap (λ u. u && (t k && eqb (before + count_below k t) (row + i))) (same_test k x e))
  ];
  small = s;
  next = (let n = r.next in let c : count_below (x + 1) t ≡ count_below x t + 1 = count-yes x t h in omega (arith, n, c));
}
  where
    or_false : (b : Bool) → (b || false) ≡ b
    or_false true = refl
    or_false false = refl

-- a column without
pub ranked-same : (m row before : ℕ) (t : ℕ → Bool) (x bits rank : ℕ) → AreRanked m row before t x bits rank → t x ≡ false → AreRanked m row before t (x + 1) bits rank
ranked-same m row before t x bits rank r h = record {
  cells = λ i k a b. r.cells i k a b ∙ elim (cases_eq k x) [
    | inl e ↦ subst (λ y. (ltb y x && (t y && eqb (before + count_below y t) (row + i))) ≡ (ltb y (x + 1) && (t y && eqb (before + count_below y t) (row + i)))) (sym e)
        (rw (le-ltb x x (omega arith), lt-ltb x (x + 1) (omega arith), h) refl)
    | inr e ↦ ap (λ u. u && (t k && eqb (before + count_below k t) (row + i))) (same_test k x e)
  ];
  small = r.small;
  next = (let n = r.next in let c : count_below (x + 1) t ≡ count_below x t = count-no x t h in omega (arith, n, c));
}

-- one more bit, at the row of a rank
pub rank-set : (m bits row rank x : ℕ) → x < m → row ≤ rank → rank < row + m → (i k : ℕ) → i < m → k < m
    → eqb (bit_at (bit_or bits (2 ^ (m * (rank - row) + x))) (m * i + k)) 1 ≡ (eqb (bit_at bits (m * i + k)) 1 || (eqb k x && eqb rank (row + i)))
rank-set m bits row rank x l p q i k a b =
    let n : ℕ = m * (rank - row) + x in
    ap (λ v. eqb v 1) (bit_at_or bits (2 ^ n) (m * i + k)) ∙ either_one (bit_at bits (m * i + k)) (bit_at (2 ^ n) (m * i + k)) (bit_at-lt bits (m * i + k)) (bit_at-lt (2 ^ n) (m * i + k))
    ∙ ap (λ t. eqb (bit_at bits (m * i + k)) 1 || t) (elim (cases_eq (m * i + k) n) [
      | inl e ↦
          let o = row_alone m i k (rank - row) x b l e in
          let f : rank ≡ row + i = let g = o.0 in omega (arith, g) in
          ap (λ v. eqb (bit_at (2 ^ n) v) 1) e ∙ ap (λ v. eqb v 1) (bit_at-pow_same n) ∙ sym (and_from _ _ (eq-eqb k x o.1) (eq-eqb rank (row + i) f))
      | inr e ↦ ap (λ v. eqb v 1) (bit_at-pow_other n (m * i + k) e) ∙ sym (not_true _ (λ h.
          let g = and_parts _ _ h in
          let u : rank - row ≡ i = let z = eqb-true rank (row + i) g.1 in omega (arith, z) in
          e (ap (λ v. m * i + v) (eqb-true k x g.0) ∙ ap (λ v. m * v + x) (sym u))))
    ])
