-- The strict order as cells.
-- 1. In a leaf each cell is a bit of one number, which is compared place by place.
-- 2. A square goes by its quarters: those on the diagonal are the same again, the one above is full and the one below has no cell.
-- 3. What lies within the first n rows and columns is the strict order of n elements, and the tree of its square has one height.
use Rattle.std.proofs.Common.{◌≡◌, ◌≢◌, ◌<◌, ◌≤◌, ◌+◌, ◌-◌, ◌*◌, ◌/◌, ◌%◌, ◌^◌, ◌∙◌, ◌&&◌, eqb, ltb, ℕ, Bool, true, false, refl, sym, ap, subst, arith, inl, inr, Some}
use Rattle.std.proofs.Math.Pow.{pow_mono}
use Rattle.std.proofs.lemmas.Bool.{cases_lt, lt-ltb, le-ltb, ltb-true, and_parts, agree_below_at, false≢true}
use Rattle.std.specs.Int.{bit_at}
use Rattle.rel_model.specs.declared.Rel.{Rel}
use Rattle.rel_model.specs.declared.Quad.{Quad}
use Rattle.rel_model.specs.Relation.{Relation, has, relation_of, size_limit}
use Rattle.rel_model.specs.Cells.{no_cells, cells_rect, bits_cells}
use Rattle.rel_model.specs.Operators.{inter}
use Rattle.rel_model.specs.Orders.{less}
use Rattle.rel_model.specs.Quarters.{LiesWithin}
use Rattle.rel_model.specs.Roots.{height_over, tree_room, relation_room}
use Rattle.rel_model.specs.Trees.{quartered}
use Rattle.rel_model.specs.Worker.{Worker, Gives, GivesQuad, Keeps, set_of, quad_set, operator_room, derived_room, height_of_three}
use Rattle.rel_model.proofs.Heights.{height_over-is, height_over-rows, height_over-low, height_over-high}
use Rattle.rel_model.proofs.Members.{type-test, in_test, in_inter}
use Rattle.rel_model.proofs.Relations.{rows-relation_of, cols-relation_of, has-relation_of, relation_of-agree}
use Rattle.rel_model.proofs.Rooms.{operator_room-most, derived_room-least}
use Rattle.rel_model.proofs.Workers.{gives_set as gives_relation}
use Rattle.rel_domains.proofs.Ruled.{rule_room}
use Rattle.rel_model.proofs.TreeLaws.{same_cells}
use Rattle.rel_domains.proofs.Places.{side_step}
use Rattle.rel_steps.proofs.Given.{gives_quad_set, gives_later}
use Rattle.rel_order.specs.Steps.{ascending}

-- ---- leaves
-- a leaf of side 4 and one of side 8, place by place
pub four_bits : (i j : ℕ) → i < 4 → j < 4 → eqb (bit_at 0x8ce (4 * i + j)) 1 ≡ ltb i j
four_bits i j a b =
    let e : (4 * i + j) / 4 ≡ i = omega (arith, b) in
    let f : (4 * i + j) % 4 ≡ j = omega (arith, b) in
    agree_below_at (λ k. eqb (bit_at 0x8ce k) 1) (λ k. ltb (k / 4) (k % 4)) 16 (4 * i + j) refl (omega (arith, a, b))
    ∙ ap (λ k. ltb k ((4 * i + j) % 4)) e ∙ ap (ltb i) f

pub eight_bits : (i j : ℕ) → i < 8 → j < 8 → eqb (bit_at 0x80c0e0f0f8fcfe (8 * i + j)) 1 ≡ ltb i j
eight_bits i j a b =
    let e : (8 * i + j) / 8 ≡ i = omega (arith, b) in
    let f : (8 * i + j) % 8 ≡ j = omega (arith, b) in
    agree_below_at (λ k. eqb (bit_at 0x80c0e0f0f8fcfe k) 1) (λ k. ltb (k / 8) (k % 8)) 64 (8 * i + j) refl (omega (arith, a, b))
    ∙ ap (λ k. ltb k ((8 * i + j) % 8)) e ∙ ap (ltb i) f

-- bits that agree with the order within a leaf make it the strict order as cells: outside of the leaf neither has a
-- cell
pub leaf_ascending : (m bits : ℕ) → ((i j : ℕ) → i < m → j < m → eqb (bit_at bits (m * i + j)) 1 ≡ ltb i j) → bits_cells m bits ≡ ascending m
leaf_ascending m bits h = same_cells _ _ (λ i j. elim (cases_lt j m) [
  | inl b ↦ elim (cases_lt i m) [
    | inl a ↦ rw (lt-ltb i m a, lt-ltb j m b) (h i j a b ∙ sym (right_true (ltb i j)))
    | inr a ↦ rw (le-ltb i m a, le-ltb i j (omega (arith, a, b))) refl
  ]
  | inr b ↦ rw (le-ltb j m b) (right_false (ltb i m) ∙ sym (right_false (ltb i j)))
])
  where
    right_true : (a : Bool) → (a && true) ≡ a
    right_true true = refl
    right_true false = refl

    right_false : (a : Bool) → (a && false) ≡ false
    right_false true = refl
    right_false false = refl

-- ---- quarters
same_order : (a b c d : ℕ) → (a < b → c < d) → (c < d → a < b) → ltb a b ≡ ltb c d
same_order a b c d f g = elim (cases_lt a b) [
  | inl l ↦ lt-ltb a b l ∙ sym (lt-ltb c d (f l))
  | inr l ↦ elim (cases_lt c d) [
    | inl m ↦ (let k = g m in absurd (omega (arith, l, k)))
    | inr m ↦ le-ltb a b l ∙ sym (le-ltb c d m)
  ]
]

-- the strict order by quarters: each half has its own, every element of the first half is less than every one of the
-- second, and none the other way round
pub ascending-quartered : (m : ℕ) → quartered m (ascending m) (cells_rect m m) no_cells (ascending m) ≡ ascending (m + m)
ascending-quartered m = same_cells _ _ (λ i j. elim (cases_lt i m) [
  | inl p ↦ elim (cases_lt j m) [
    | inl q ↦ rw (lt-ltb i m p, lt-ltb j m q, lt-ltb j (m + m) (omega arith)) refl
    | inr q ↦ rw (lt-ltb i m p, le-ltb j m q, lt-ltb i j (omega (arith, p, q))) (same_order (j - m) m j (m + m) (λ l. omega (arith, l)) (λ l. omega (arith, l, q)))
  ]
  | inr p ↦ elim (cases_lt j m) [
    | inl q ↦ rw (le-ltb i m p, lt-ltb j m q, le-ltb i j (omega (arith, p, q))) refl
    | inr q ↦ rw (le-ltb i m p, le-ltb j m q)
        (ap (λ b. b && ltb (j - m) m) (same_order (i - m) (j - m) i j (λ l. omega (arith, l, p)) (λ l. omega (arith, l, p)))
        ∙ ap (λ b. ltb i j && b) (same_order (j - m) m j (m + m) (λ l. omega (arith, l)) (λ l. omega (arith, l, q))))
  ]
])

-- the corner of two squares of half the side with the full one and the empty one
pub upper_given : (w1 w2 w3 : Worker) (least depth half k : ℕ) (part full none q : Quad) → depth ≢ 0 → half ≡ 2 ^ (least + (depth - 1))
    → GivesQuad w1 (least + (depth - 1)) (ascending (2 ^ (least + (depth - 1)))) part → Keeps w1 w2
    → GivesQuad w2 k (cells_rect half half) full → w2.quad none ≡ Some no_cells
    → GivesQuad w3 (part.height + 1) (quartered (2 ^ part.height) (quad_set w2 part) (quad_set w2 full) (quad_set w2 none) (quad_set w2 part)) q
    → GivesQuad w3 (least + depth) (ascending (2 ^ (least + depth))) q
upper_given w1 w2 w3 least depth half k part full none q over e g1 k1 g2 g3 g =
    let h : ℕ = least + (depth - 1) in
    let m = 2 ^ h in
    let s1 : quad_set w2 part ≡ ascending m = gives_quad_set w2 h (ascending m) part (gives_later w1 w2 h (ascending m) part k1 g1) in
    let s2 : quad_set w2 full ≡ cells_rect m m = gives_quad_set w2 k (cells_rect half half) full g2 ∙ ap (λ x. cells_rect x half) e ∙ ap (cells_rect m) e in
    let s3 : quad_set w2 none ≡ no_cells = gives_quad_set w2 none.height no_cells none (record { means = g3; same_height = refl }) in
    let d : m + m ≡ 2 ^ (least + depth) = omega (arith, side_step least depth over) in
    record {
      means = g.means ∙ ap Some (ap (λ x. quartered (2 ^ x) (quad_set w2 part) (quad_set w2 full) (quad_set w2 none) (quad_set w2 part)) g1.same_height
          ∙ ap (λ x. quartered m x (quad_set w2 full) (quad_set w2 none) x) s1 ∙ ap (λ x. quartered m (ascending m) x (quad_set w2 none) (ascending m)) s2
          ∙ ap (λ x. quartered m (ascending m) (cells_rect m m) x (ascending m)) s3 ∙ ascending-quartered m ∙ ap ascending d);
      same_height = (let a = g.same_height in let b = g1.same_height in omega (arith, a, b, over));
    }

-- a leaf
pub leaf_given : (w : Worker) (least height depth bits : ℕ) (q : Quad) → depth ≡ 0 → height ≡ least + depth → bits_cells (2 ^ height) bits ≡ ascending (2 ^ height)
    → GivesQuad w least (bits_cells (2 ^ least) bits) q → GivesQuad w (least + depth) (ascending (2 ^ (least + depth))) q
leaf_given w least height depth bits q z e c g =
    let f : height ≡ least = omega (arith, z, e) in
    record {
      means = g.means ∙ ap Some (ap (λ k. bits_cells (2 ^ k) bits) (sym f) ∙ c ∙ ap (λ k. ascending (2 ^ k)) e);
      same_height = (let a = g.same_height in omega (arith, a, z));
    }

-- ---- the cut
-- a square of a height has trees of that height
pub side-height : (least h : ℕ) → least ≤ h → h ≤ 24 → height_over least (2 ^ h) (2 ^ h) ≡ h
side-height least h l t =
    let p : 2 ^ h ≤ 2 ^ 24 = pow_mono {i = h} {j = 24} t in
    height_over-is least (2 ^ h) (2 ^ h) h p p l (omega arith) (omega arith) (λ k. inl (half_less k))
  where
    half_less : least < h → 2 ^ (h - 1) < 2 ^ h
    half_less k =
        let q : 2 ^ (h - 1 + 1) ≤ 2 ^ h = pow_mono {i = h - 1 + 1} {j = h} (omega (arith, k)) in
        let s = side_step 0 (h - 1 + 1) (λ e. omega (arith, e)) in
        let a : 2 ^ (0 + (h - 1 + 1)) ≡ 2 ^ (h - 1 + 1) = ap (λ n. 2 ^ n) (let z : 0 + (h - 1 + 1) ≡ h - 1 + 1 = omega arith in z) in
        let b : 2 ^ (0 + (h - 1 + 1 - 1)) ≡ 2 ^ (h - 1) = ap (λ n. 2 ^ n) (let z : 0 + (h - 1 + 1 - 1) ≡ h - 1 = omega arith in z) in
        let c : 1 ≤ 2 ^ (h - 1) = pow_mono {i = 0} {j = h - 1} (omega arith) in
        omega (arith, q, s, a, b, c)

-- the strict order of a square of side m, within the first n rows and columns
abbrev pub cut : ℕ → ℕ → Relation
cut n m = inter (relation_of m m (ascending m)) (relation_of m m (cells_rect n n))

cut-has : (n m i j : ℕ) → has (cut n m) i j ≡ true → (i < j) × (i < n) × (j < n)
cut-has n m i j h =
    let t = type-test m m m m (ascending m) refl refl in
    let p = in_inter m m (relation_of m m (ascending m)) (relation_of m m (cells_rect n n)) t i j h in
    let a = and_parts (ltb i j) (ltb j m) (in_test m m m m (ascending m) refl refl i j p.0) in
    let b = and_parts (ltb i n) (ltb j n) (in_test m m m m (cells_rect n n) refl refl i j p.1) in
    (ltb-true i j a.0, ltb-true i n b.0, ltb-true j n b.1)

pub cut-within : (n m : ℕ) → LiesWithin n n (has (cut n m))
cut-within n m = record { row = λ i j h. (cut-has n m i j h).1; col = λ i j h. (cut-has n m i j h).2 }

-- cut to n rows and columns, the strict order of a larger square is that of n elements: between two numbers below n it
-- makes no difference where the square ends
pub cut-less : (n m : ℕ) → n ≤ m → relation_of n n (has (cut n m)) ≡ less n
unfolding less inter
cut-less n m most = relation_of-agree n n (has (cut n m)) (λ i j. ltb i j) (λ i j a b.
    let A = relation_of m m (ascending m) in
    let B = relation_of m m (cells_rect n n) in
    let i_in : i < m = omega (arith, a, most) in
    let j_in : j < m = omega (arith, b, most) in
    has-relation_of A.rows A.cols (λ i j. has A i j && has B i j) i j
    (subst (λ k. i < k) (sym (rows-relation_of m m (ascending m))) i_in) (subst (λ k. j < k) (sym (cols-relation_of m m (ascending m))) j_in)
    ∙ ap (λ x. x && has B i j) (has-relation_of m m (ascending m) i j i_in j_in)
    ∙ ap (λ x. (ltb i j && ltb j m) && x) (has-relation_of m m (cells_rect n n) i j i_in j_in)
    ∙ all_true (ltb i j) (ltb j m) (ltb i n) (ltb j n) (lt-ltb j m j_in) (lt-ltb i n a) (lt-ltb j n b))
  where
    all_true : (a b c d : Bool) → b ≡ true → c ≡ true → d ≡ true → ((a && b) && (c && d)) ≡ a
    all_true true true true true e f g = refl
    all_true true false c d e f g = absurd (false≢true e)
    all_true true true false d e f g = absurd (false≢true f)
    all_true true true true false e f g = absurd (false≢true g)
    all_true false b c d e f g = refl

-- ---- what a worker gives
-- the height of the least square with n rows and columns
pub record IsHigh (least n h : ℕ) : Type 0 where
  pub low : least ≤ h
  pub high : h ≤ 24
  pub covers : n ≤ 2 ^ h
  pub is : h ≡ height_over least n n

pub is_high : (least n h rows cols : ℕ) → least ≤ 3 → n ≤ size_limit → rows ≡ n → cols ≡ n → h ≡ height_over least rows cols → IsHigh least n h
is_high least n h rows cols l m e f g =
    let k : h ≡ height_over least n n = g ∙ ap (λ x. height_over least x cols) e ∙ ap (height_over least n) f in
    let a = height_over-low least n n in
    let b = height_over-high least n n (omega (arith, l)) in
    record {
      low = omega (arith, k, a);
      high = omega (arith, k, b);
      covers = subst (λ x. n ≤ 2 ^ x) (sym k) (height_over-rows least n n m);
      is = k;
    }

-- the strict order of the square of that height
pub order_high : (w : Worker) (least n h bottom : ℕ) (q : Quad) → IsHigh least n h → bottom ≡ least
    → GivesQuad w (least + (h - bottom)) (ascending (2 ^ (least + (h - bottom)))) q → GivesQuad w h (ascending (2 ^ h)) q
order_high w least n h bottom q i e g =
    let l = i.low in
    subst (λ k. GivesQuad w k (ascending (2 ^ k)) q) (let z : least + (h - bottom) ≡ h = omega (arith, l, e) in z) g

-- its side has trees of that height
pub side_high : (least n h side : ℕ) → IsHigh least n h → side ≡ 2 ^ h → height_over least side side ≡ h
side_high least n h side i e = ap (λ k. height_over least k k) e ∙ side-height least h i.low i.high

pub side_most : (least n h side : ℕ) → IsHigh least n h → side ≡ 2 ^ h → side ≤ size_limit
side_most least n h side i e = let p : 2 ^ h ≤ 2 ^ 24 = pow_mono {i = h} {j = 24} i.high in omega (arith, e, p)

-- the set of the cut
pub cut_set : (w3 w4 : Worker) (n h side : ℕ) (order first : Quad) (all kept rel : Rel) → side ≡ 2 ^ h → GivesQuad w3 h (ascending (2 ^ h)) order → GivesQuad w3 h (cells_rect n n) first
    → Gives w3 side side (relation_of side side (quad_set w3 order)) all → Gives w3 side side (relation_of side side (quad_set w3 first)) kept
    → Gives w4 all.rows all.cols (inter (set_of w3 all) (set_of w3 kept)) rel → Gives w4 side side (cut n side) rel
cut_set w3 w4 n h side order first all kept rel e o f a k g =
    let s1 : set_of w3 all ≡ relation_of side side (ascending side) = gives_relation w3 side side _ all a ∙ ap (relation_of side side) (gives_quad_set w3 h (ascending (2 ^ h)) order o ∙ ap ascending (sym e)) in
    let s2 : set_of w3 kept ≡ relation_of side side (cells_rect n n) = gives_relation w3 side side _ kept k ∙ ap (relation_of side side) (gives_quad_set w3 h (cells_rect n n) first f) in
    record {
      means = g.means ∙ ap Some (ap (λ x. inter x (set_of w3 kept)) s1 ∙ ap (inter (relation_of side side (ascending side))) s2);
      row_size = g.row_size ∙ a.row_size;
      col_size = g.col_size ∙ a.col_size;
    }

-- the root of the cut
pub record CutRoot (w : Worker) (least n h : ℕ) (quad : Quad) : Type 0 where
  pub height : quad.height ≡ height_over least n n
  pub within : LiesWithin n n (quad_set w quad)
  pub is : relation_of n n (quad_set w quad) ≡ less n

pub cut_root : (w : Worker) (least n h side : ℕ) (rel : Rel) (quad : Quad) → IsHigh least n h → side ≡ 2 ^ h → Gives w side side (cut n side) rel
    → GivesQuad w (height_over least rel.rows rel.cols) (has (set_of w rel)) quad → CutRoot w least n h quad
cut_root w least n h side rel quad i e g r =
    let s : quad_set w quad ≡ has (cut n side) = gives_quad_set w _ (has (set_of w rel)) quad r ∙ ap has (gives_relation w side side _ rel g) in
    let m = i.covers in
    record {
      height = r.same_height ∙ ap (λ k. height_over least k rel.cols) g.row_size ∙ ap (height_over least side) g.col_size ∙ side_high least n h side i e ∙ i.is;
      within = subst (LiesWithin n n) (sym s) (cut-within n side);
      is = ap (relation_of n n) s ∙ cut-less n side (omega (arith, e, m));
    }

-- ---- rooms
tree_of : (least n h : ℕ) → IsHigh least n h → tree_room (h - least) ≤ operator_room n n
tree_of least n h i = let l = i.low in let e = i.is in rule_room least (h - least) n n (omega (arith, l, e))

-- the trees of three steps have the room of one derived call
pub tree_rooms : (least n h bottom : ℕ) → IsHigh least n h → bottom ≡ least → tree_room (h - bottom) + tree_room (h - least) + operator_room n n ≤ derived_room n n n
tree_rooms least n h bottom i e =
    let k : ℕ = height_of_three n n n in
    let p = operator_room-most n n k (omega arith) (omega arith) in
    let q = derived_room-least n n n in
    let t = tree_of least n h i in
    let b = ap (λ k. tree_room (h - k)) e in
    omega (arith, p, q, t, b)

pub tree_side : (least n h side rows cols : ℕ) → IsHigh least n h → side ≡ 2 ^ h → rows ≡ side → cols ≡ side → relation_room least rows cols ≤ operator_room n n
tree_side least n h side rows cols i e a b =
    let s : height_over least rows cols ≡ h = ap (λ k. height_over least k cols) a ∙ ap (height_over least side) b ∙ side_high least n h side i e in
    subst (λ k. tree_room (k - least) ≤ operator_room n n) (sym s) (tree_of least n h i)
