-- Composition and transposition go by quarters.
use Rattle.std.proofs.Common.{◌≡◌, ◌<◌, ◌≤◌, ◌+◌, ◌-◌, ◌&&◌, ◌||◌, ltb, zero, suc, ℕ, Bool, true, false, cond, refl, sym, ap, ◌∙◌, inl, inr, arith}
use Rattle.std.proofs.lemmas.Bool.{cases_Bool, lt-ltb, le-ltb, and_parts}
use Rattle.rel_model.specs.Cells.{Cells, some_below, cells_union, cells_compose, cells_transpose}
use Rattle.rel_model.specs.Trees.{quartered}
use Rattle.rel_model.specs.Relation.{Relation, IsRelation, has, relation_of}
use Rattle.rel_model.specs.Operators.{compose}
use Rattle.rel_model.proofs.Pairs.{all-member}
use Rattle.rel_model.proofs.Relations.{relation_of-agree}
use Rattle.rel_model.proofs.Somes.{some_beyond}
use Rattle.rel_model.proofs.TreeLaws.{same_cells}

some_same : (m : ℕ) (t u : ℕ → Bool) → ((k : ℕ) → k < m → t k ≡ u k) → some_below m t ≡ some_below m u
some_same zero t u h = refl
some_same (suc m) t u h = ap (λ b. b || some_below m t) (h m (omega arith)) ∙ ap (λ b. u m || b) (some_same m t u (λ k l. h k (omega arith)))

or_assoc : (a b c : Bool) → ((a || b) || c) ≡ (a || (b || c))
or_assoc true b c = refl
or_assoc false b c = refl

or_comm : (a b : Bool) → (a || b) ≡ (b || a)
or_comm true true = refl
or_comm true false = refl
or_comm false true = refl
or_comm false false = refl

some_split : (m n : ℕ) (t : ℕ → Bool) → some_below (m + n) t ≡ (some_below n (λ k. t (m + k)) || some_below m t)
some_split m zero t = ap (λ (k : ℕ). some_below k t) (let e : m + 0 ≡ m = omega arith in e)
some_split m (suc n) t =
    ap (λ (k : ℕ). some_below k t) (let e : m + suc n ≡ suc (m + n) = omega arith in e) ∙ ap (λ b. t (m + n) || b) (some_split m n t)
    ∙ sym (or_assoc (t (m + n)) (some_below n (λ k. t (m + k))) (some_below m t))

-- composition goes by quarters: each quarter of the product is the union of two products of quarters
pub cells_compose-quartered : (m : ℕ) (a b c d e f g h : Cells) → cells_compose (m + m) (quartered m a b c d) (quartered m e f g h)
    ≡ quartered m (cells_union (cells_compose m a e) (cells_compose m b g)) (cells_union (cells_compose m a f) (cells_compose m b h)) (cells_union (cells_compose m c e) (cells_compose m d g)) (cells_union (cells_compose m c f) (cells_compose m d h))
cells_compose-quartered m a b c d e f g h = same_cells _ _ (λ i j. some_split m m (λ k. quartered m a b c d i k && quartered m e f g h k j) ∙ or_comm (some_below m (λ k. quartered m a b c d i (m + k) && quartered m e f g h (m + k) j)) (some_below m (λ k. quartered m a b c d i k && quartered m e f g h k j)) ∙ both i j)
  where
    both : (i j : ℕ) → (some_below m (λ k. quartered m a b c d i k && quartered m e f g h k j) || some_below m (λ k. quartered m a b c d i (m + k) && quartered m e f g h (m + k) j))
        ≡ quartered m (cells_union (cells_compose m a e) (cells_compose m b g)) (cells_union (cells_compose m a f) (cells_compose m b h)) (cells_union (cells_compose m c e) (cells_compose m d g)) (cells_union (cells_compose m c f) (cells_compose m d h)) i j
    both i j = ap (λ x. x || some_below m (λ k. quartered m a b c d i (m + k) && quartered m e f g h (m + k) j))
        (some_same m _ (λ k. cond (ltb i m) (a i k) (c (i - m) k) && cond (ltb j m) (e k j) (f k (j - m))) (λ k l. let t : ltb k m ≡ true = lt-ltb k m l in rw t refl))
        ∙ ap (λ x. some_below m (λ k. cond (ltb i m) (a i k) (c (i - m) k) && cond (ltb j m) (e k j) (f k (j - m))) || x)
        (some_same m _ (λ k. cond (ltb i m) (b i k) (d (i - m) k) && cond (ltb j m) (g k j) (h k (j - m)))
        (λ k l. let t : ltb (m + k) m ≡ false = le-ltb (m + k) m (omega arith) in let s : m + k - m ≡ k = omega arith in rw (t, s) refl))
        ∙ elim (cases_Bool (ltb i m)) [
          | inl x ↦ rw x (elim (cases_Bool (ltb j m)) [ inl y ↦ rw y refl | inr y ↦ rw y refl ])
          | inr x ↦ rw x (elim (cases_Bool (ltb j m)) [ inl y ↦ rw y refl | inr y ↦ rw y refl ])
        ]

-- transposition goes by quarters, of which north-east and south-west change places
pub cells_transpose-quartered : (m : ℕ) (a b c d : Cells) → cells_transpose (quartered m a b c d) ≡ quartered m (cells_transpose a) (cells_transpose c) (cells_transpose b) (cells_transpose d)
cells_transpose-quartered m a b c d = same_cells _ _ (λ i j. elim (cases_Bool (ltb i m)) [
  | inl x ↦ rw x (elim (cases_Bool (ltb j m)) [ inl y ↦ rw y refl | inr y ↦ rw y refl ])
  | inr x ↦ rw x (elim (cases_Bool (ltb j m)) [ inl y ↦ rw y refl | inr y ↦ rw y refl ])
])

-- ---- relations
-- the composition of two relations, by their cells within a square that has all middle elements
pub compose-cells : (m : ℕ) (r s : Relation) → IsRelation r → r.cols ≤ m → compose r s ≡ relation_of r.rows s.cols (cells_compose m (has r) (has s))
unfolding compose
compose-cells m r s v l = relation_of-agree r.rows s.cols _ _ (λ i k a b. sym (some_beyond r.cols m (λ j. has r i j && has s j k) l (λ j h. column r v i j (and_parts _ _ h).0)))
  where
    column : (r : Relation) → IsRelation r → (i j : ℕ) → has r i j ≡ true → j < r.cols
    column r v i j h = let w : (i < r.rows) × (j < r.cols) = all-member (λ p. (p.0 < r.rows) × (p.1 < r.cols)) r.pairs (i, j) v.within h in w.1
