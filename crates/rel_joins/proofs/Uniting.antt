-- Rows of bits of a closure, united in an order in which each element comes after its successors.
-- 1. From x a walk leads to y exactly if a pair leads from x to y, or to some z from which a walk leads to y.
-- 2. So if the rows of all successors hold columns of the closure, their union with the successors does.
use Rattle.std.proofs.Common.{◌≡◌, ◌<◌, ◌≤◌, ◌+◌, ◌-◌, ◌*◌, ◌%◌, ◌^◌, ◌∙◌, ◌||◌, ◌&&◌, eqb, zero, suc, ℕ, Bool, true, false, List, [], refl, sym, ap, subst, inl, inr, arith, length, get_or, set, take}
use Rattle.std.specs.List.{list_any, AllByRecursion}
use Rattle.std.proofs.lemmas.Bool.{false≢true, cases_lt, cases_Bool, and_parts, or_cases, or_left, or_right, eqb-true, eqb-false, eq-eqb}
use Rattle.std.proofs.lemmas.List.{length-set, get_or-set_same, get_or-set_other}
use Rattle.std.proofs.lemmas.List.Folds.{list_any_at, list_any_more}
use Rattle.rel_model.specs.Closures.{walk, transitive_closure}
use Rattle.rel_model.specs.Listed.{AreWithin, is_among}
use Rattle.rel_model.specs.Relation.{IsIncreasing}
use Rattle.rel_model.proofs.Members.{Inside, inside, from_compose}
use Rattle.rel_model.proofs.Somes.{same_truth, some_passes}
use Rattle.rel_model.proofs.Walking.{type-closure, closure_laws}
use Rattle.rel_domains.proofs.Leaves.{one_bit, shifted}
use Rattle.bit_rows.specs.declared.row.Row.{Row}
use Rattle.bit_rows.specs.Rows.{has_bit, row_has, no_row, rows_cells}
use Rattle.bit_rows.proofs.Rows.{row_has-0, row_has-1, row_has-2, row_has-3, row_has-none}
use Rattle.rel_joins.specs.Reaches.{square_of}
use Rattle.rel_joins.specs.Postorder.{IsPostorder}
use Rattle.rel_joins.specs.Columns.{closed_cells, leads_to, HoldColumns, AreBare}
use Rattle.rel_joins.proofs.Starts.{found}
use Rattle.rel_model.proofs.Grid.{all-weaker}
use Rattle.rel_joins.proofs.Reaches.{square_type}

-- ---- one column
pub bit_is : (k from j : ℕ) → from ≤ k → k - from < 64 → has_bit (1 * 2 ^ (k - from) % 18446744073709551616) j ≡ eqb k (from + j)
bit_is k from j l m = ap (λ (w : ℕ). has_bit w j) (shifted (k - from) m) ∙ one_bit from k j l

pub column_is : (k : ℕ) (r : Row) → ((j : ℕ) → j < 64 → has_bit r.w0 j ≡ eqb k (0 + j)) → ((j : ℕ) → j < 64 → has_bit r.w1 j ≡ eqb k (64 + j))
    → ((j : ℕ) → j < 64 → has_bit r.w2 j ≡ eqb k (128 + j)) → ((j : ℕ) → j < 64 → has_bit r.w3 j ≡ eqb k (192 + j)) → (j : ℕ) → j < 256 → row_has r j ≡ eqb k j
column_is k r a b d e j l =
    elim (cases_lt j 64) [
      | inl p ↦ row_has-0 r j p ∙ a j p ∙ ap (λ (i : ℕ). eqb k i) (omega arith)
      | inr p ↦ elim (cases_lt j 128) [
        | inl q ↦ at 64 (j - 64) (omega (arith, p)) (row_has-1 r (j - 64) (omega (arith, p, q)) ∙ b (j - 64) (omega (arith, p, q)))
        | inr q ↦ elim (cases_lt j 192) [
          | inl s ↦ at 128 (j - 128) (omega (arith, q)) (row_has-2 r (j - 128) (omega (arith, q, s)) ∙ d (j - 128) (omega (arith, q, s)))
          | inr s ↦ at 192 (j - 192) (omega (arith, s)) (row_has-3 r (j - 192) (omega (arith, l, s)) ∙ e (j - 192) (omega (arith, l, s)))
        ]
      ]
    ]
  where
    at : (from i : ℕ) → from + i ≡ j → row_has r (from + i) ≡ eqb k (from + i) → row_has r j ≡ eqb k j
    at from i f h = subst (λ (x : ℕ). row_has r x ≡ eqb k x) f h

-- ---- the union of rows
pub leads_none : (rows : List Row) (col : ℕ) (r : Row) → r ≡ no_row → (j : ℕ) → j < 256 → row_has r j ≡ leads_to rows col [] j
leads_none rows col r e j l = ap (λ (x : Row). row_has x j) e ∙ row_has-none j

-- one more pair
pub leads_more : (rows : List Row) (col k : ℕ) (row : List (ℕ × ℕ)) (p : ℕ × ℕ) (all here next : Row) → k < length row → p ≡ get_or row k (0, 0)
    → ((j : ℕ) → j < 256 → row_has all j ≡ leads_to rows col (take k row) j) → ((j : ℕ) → j < 256 → row_has here j ≡ (rows_cells rows p.1 j || eqb p.1 (col + j)))
    → ((j : ℕ) → row_has next j ≡ (row_has all j || row_has here j)) → (j : ℕ) → j < 256 → row_has next j ≡ leads_to rows col (take (k + 1) row) j
leads_more rows col k row p all here next l e f g h j i =
    h j ∙ ap (λ (t : Bool). t || row_has here j) (f j i) ∙ ap (λ (t : Bool). leads_to rows col (take k row) j || t) (g j i ∙ ap (λ (q : ℕ × ℕ). rows_cells rows q.1 j || eqb q.1 (col + j)) e)
    ∙ sym (list_any_more (λ q. rows_cells rows q.1 j || eqb q.1 (col + j)) row k (0, 0) l)

-- ---- the closure by first steps
-- a pair, and a walk from its end
step_on : (n : ℕ) (pairs : List (ℕ × ℕ)) → AreWithin n n pairs → IsIncreasing pairs → (x y z : ℕ) → is_among pairs x y ≡ true → closed_cells n pairs y z ≡ true → closed_cells n pairs x z ≡ true
step_on n pairs w o x y z h g =
    let r = square_of n pairs in
    let t = square_type n pairs w o in
    let u = type-closure n r t in
    closure_laws.transitive n r t x z (from_compose n n n (transitive_closure r) (transitive_closure r) u u x y z (closure_laws.over n r t x y h) g)

-- what a walk does first
record First (n : ℕ) (pairs : List (ℕ × ℕ)) (x z : ℕ) : Type 0 where
  at : ℕ
  first : is_among pairs x at ≡ true
  then : (closed_cells n pairs at z || eqb at z) ≡ true

first_step : (n : ℕ) (pairs : List (ℕ × ℕ)) → AreWithin n n pairs → IsIncreasing pairs → (x z : ℕ) → closed_cells n pairs x z ≡ true → First n pairs x z
first_step n pairs w o x z h =
    let r = square_of n pairs in
    let t = square_type n pairs w o in
    let a : Inside n n x z = inside n n (transitive_closure r) (type-closure n r t) x z h in
    let j = (closure_laws.walks n r t x z a.row a.col).0 h in
    begins j.steps j.walks a.col
  where
    begins : (k : ℕ) → walk (square_of n pairs) k x z ≡ true → z < n → First n pairs x z
    begins zero g b = absurd (false≢true g)
    begins (suc zero) g b = record { at = z; first = g; then = or_right (closed_cells n pairs z z) (eqb z z) (eq-eqb z z refl) }
    begins (suc (suc k)) g b =
        let p = some_passes n (λ y. is_among pairs x y && walk (square_of n pairs) (suc k) y z) g in
        let q = and_parts _ _ p.passes in
        let r = square_of n pairs in
        let t = square_type n pairs w o in
        let i : Inside n n x p.at = inside n n r t x p.at q.0 in
        record { at = p.at; first = q.0; then = or_left (closed_cells n pairs p.at z) (eqb p.at z) ((closure_laws.walks n r t p.at z i.col b).1 (record { steps = suc k; walks = q.1 })) }

-- the pairs of a row lead where walks do, if the rows of their ends hold the closure
pub reaches_step : (n x col : ℕ) (pairs row : List (ℕ × ℕ)) (rows : List Row) → AreWithin n n pairs → IsIncreasing pairs → ((k : ℕ) → list_any (λ q. eqb q.1 k) row ≡ is_among pairs x k)
    → (j : ℕ) → ((y : ℕ) → is_among pairs x y ≡ true → rows_cells rows y j ≡ closed_cells n pairs y (col + j)) → leads_to rows col row j ≡ closed_cells n pairs x (col + j)
reaches_step n x col pairs row rows w o f j h =
    let z = col + j in
    same_truth _ _
    (λ t. let a = found (λ q. rows_cells rows q.1 j || eqb q.1 z) row t in
    let q = get_or row a.place (0, 0) in
    let pair : is_among pairs x q.1 ≡ true = sym (f q.1) ∙ list_any_at (λ p. eqb p.1 q.1) row a.place (0, 0) a.below (eq-eqb q.1 q.1 refl) in
    elim (or_cases (rows_cells rows q.1 j) (eqb q.1 z) a.passes) [
      | inl b ↦ step_on n pairs w o x q.1 z pair (sym (h q.1 pair) ∙ b)
      | inr b ↦ subst (λ (y : ℕ). closed_cells n pairs x y ≡ true) (eqb-true q.1 z b) (closure_laws.over n (square_of n pairs) (square_type n pairs w o) x q.1 pair)
    ])
    (λ t. let s = first_step n pairs w o x z t in
    let a = found (λ q. eqb q.1 s.at) row (f s.at ∙ s.first) in
    let e = eqb-true (get_or row a.place (0, 0)).1 s.at a.passes in
    list_any_at (λ q. rows_cells rows q.1 j || eqb q.1 z) row a.place (0, 0) a.below
    (subst (λ (y : ℕ). (rows_cells rows y j || eqb y z) ≡ true) (sym e) (ap (λ (b : Bool). b || eqb s.at z) (h s.at s.first) ∙ s.then)))

-- ---- all rows, in order
-- all ends have rows
pub ends_within : {n m : ℕ} (pairs : List (ℕ × ℕ)) → n ≤ m → AreWithin n n pairs → AllByRecursion (λ p. p.1 < m) pairs
ends_within {n} {m} pairs l w = all-weaker (λ p. (p.0 < n) × (p.1 < n)) (λ p. p.1 < m) (λ p h. let b = h.1 in omega (arith, b, l)) pairs w

pub record Uniting (n : ℕ) (pairs : List (ℕ × ℕ)) (order : List ℕ) (count col : ℕ) (old new : List Row) : Type 0 where
  pub len : length new ≡ length old
  pub bare : AreBare n new
  pub hold : HoldColumns n pairs order count col new

pub uniting_none : {n : ℕ} {pairs : List (ℕ × ℕ)} {order : List ℕ} (col : ℕ) (rows : List Row) → AreBare n rows → Uniting n pairs order 0 col rows rows
uniting_none col rows b = record { len = refl; bare = b; hold = λ p j l. absurd (omega (arith, l)) }

-- the rows of what an element leads to are there
pub successors : {n : ℕ} {pairs : List (ℕ × ℕ)} {order : List ℕ} {k col : ℕ} {old rows : List Row} (x : ℕ) → IsPostorder n pairs order → Uniting n pairs order k col old rows → k < length order → get_or order k 0 ≡ x
    → (j : ℕ) → j < 256 → (y : ℕ) → is_among pairs x y ≡ true → rows_cells rows y j ≡ closed_cells n pairs y (col + j)
successors {n} {pairs} {order} {k} {col} {old} {rows} x s u l e j i y h =
    let b = s.come_after.after k y l (subst (λ (z : ℕ). is_among pairs z y ≡ true) (sym e) h) in
    subst (λ (z : ℕ). rows_cells rows z j ≡ closed_cells n pairs z (col + j)) b.here (u.hold b.place j b.below i)

-- one more row
pub uniting_more : {n : ℕ} {pairs : List (ℕ × ℕ)} {order : List ℕ} {k col : ℕ} {old rows new : List Row} (x : ℕ) (r : Row) → IsPostorder n pairs order → n ≤ length old → Uniting n pairs order k col old rows → k < length order → get_or order k 0 ≡ x
    → new ≡ set rows x r → ((j : ℕ) → j < 256 → row_has r j ≡ closed_cells n pairs x (col + j)) → Uniting n pairs order (k + 1) col old new
uniting_more {n} {pairs} {order} {k} {col} {old} {rows} {new} x r s m u l e f h =
    let inside : x < n = subst (λ (z : ℕ). z < n) e (s.come_after.within k l) in
    let long : x < length rows = (let a = u.len in omega (arith, inside, m, a)) in
    record {
      len = ap length f ∙ length-set rows x r ∙ u.len;
      bare = λ y j g. ap (λ (zs : List Row). rows_cells zs y j) f ∙ ap (λ (z : Row). row_has z j) (get_or-set_other rows x y r no_row (λ c. omega (arith, c, g, inside))) ∙ u.bare y j g;
      hold = λ p j i c. ap (λ (zs : List Row). rows_cells zs (get_or order p 0) j) f ∙ elim (cases_Bool (eqb (get_or order p 0) x)) [
        | inl a ↦ (let b = eqb-true (get_or order p 0) x a in
            subst (λ (z : ℕ). rows_cells (set rows x r) z j ≡ closed_cells n pairs z (col + j)) (sym b) (ap (λ (z : Row). row_has z j) (get_or-set_same rows x r no_row long) ∙ h j c))
        | inr a ↦ ap (λ (z : Row). row_has z j) (get_or-set_other rows x (get_or order p 0) r no_row (eqb-false (get_or order p 0) x a)) ∙ elim (cases_lt p k) [
          | inl b ↦ u.hold p j b c
          | inr b ↦ absurd (eqb-false (get_or order p 0) x a (ap (λ (z : ℕ). get_or order z 0) (omega (arith, i, b)) ∙ e))
        ]
      ];
    }

-- a cell of the closure is within the elements
pub closed_inside : (n : ℕ) (pairs : List (ℕ × ℕ)) → AreWithin n n pairs → IsIncreasing pairs → (x y : ℕ) → closed_cells n pairs x y ≡ true → Inside n n x y
closed_inside n pairs w o x y h = let r = square_of n pairs in inside n n (transitive_closure r) (type-closure n r (square_type n pairs w o)) x y h

pub no_cell : (b : Bool) → (b ≡ true → ⊥) → b ≡ false
no_cell true h = absurd (h refl)
no_cell false h = refl

pub uniting_all : {n : ℕ} {pairs : List (ℕ × ℕ)} {order : List ℕ} {k col : ℕ} {old rows : List Row} → AreWithin n n pairs → IsIncreasing pairs → IsPostorder n pairs order → Uniting n pairs order k col old rows → length order ≤ k
    → (x j : ℕ) → j < 256 → rows_cells rows x j ≡ closed_cells n pairs x (col + j)
uniting_all {n} {pairs} {order} {k} {col} {old} {rows} w o s u l x j i =
    elim (cases_lt x n) [
      | inl a ↦ (let b = s.all x a in
          let c = b.below in
          subst (λ (z : ℕ). rows_cells rows z j ≡ closed_cells n pairs z (col + j)) b.here (u.hold b.place j (omega (arith, c, l)) i))
      | inr a ↦ u.bare x j a ∙ sym (no_cell (closed_cells n pairs x (col + j)) (λ h. let d : Inside n n x (col + j) = closed_inside n pairs w o x (col + j) h in let c = d.row in omega (arith, c, a)))
    ]
