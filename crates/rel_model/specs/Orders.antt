-- Orders and classes of elements, each relation by its membership clause (Schmidt and Ströhlein, Relations and Graphs).
-- The numbering of classes is defined by this project.
use Rattle.std.specs.Prelude.{◌≡◌, ◌<◌, ◌↔◌, ◌==◌, ◌&&◌, not, nat_lt, ℕ, Bool, true}
use Rattle.rel_model.specs.Relation.{Relation, has, relation_of}
use Rattle.rel_model.specs.Cells.{some_below}
use Rattle.rel_model.specs.Operators.{inter, transpose, compose, left_residual, differ}
use Rattle.rel_model.specs.Choice.{count_below}
use Rattle.rel_model.specs.Algebra.{HasType}

-- ---- orders
-- the strict order of n elements by their numbers
unfoldable pub less : ℕ → Relation
less n = relation_of n n (λ i j. nat_lt i j)

-- whether a relation has this pair and its two elements are different
abbrev pub is_proper : Relation → ℕ → ℕ → Bool
is_proper r x y = has r x y && not (x == y)

-- the Hasse diagram: the proper pairs (x, y) such that no z has the proper pairs (x, z) and (z, y)
unfoldable pub hasse : Relation → Relation
hasse r = relation_of r.rows r.cols (λ x y. is_proper r x y
    && not (some_below r.rows (λ z. is_proper r x z && is_proper r z y)))

-- the upper bounds of the columns of s: (x, y) if (z, y) in s implies (z, x) in r, for all z
unfoldable pub upper_bounds : Relation → Relation → Relation
upper_bounds r s = relation_of r.rows s.cols (λ x y. not (some_below s.rows (λ z. has s z y && not (has r z x))))

-- the lower bounds of the columns of s: (x, y) if (z, y) in s implies (x, z) in r, for all z
unfoldable pub lower_bounds : Relation → Relation → Relation
lower_bounds r s = relation_of r.rows s.cols (λ x y. not (some_below s.rows (λ z. has s z y && not (has r x z))))

-- the greatest elements of the columns of s: the upper bounds that are in the column
unfoldable pub greatest : Relation → Relation → Relation
greatest r s = inter s (upper_bounds r s)

-- the least elements of the columns of s: the lower bounds that are in the column
unfoldable pub least : Relation → Relation → Relation
least r s = inter s (lower_bounds r s)

-- the least upper bounds of the columns of s
unfoldable pub suprema : Relation → Relation → Relation
suprema r s = least r (upper_bounds r s)

-- the greatest lower bounds of the columns of s
unfoldable pub infima : Relation → Relation → Relation
infima r s = greatest r (lower_bounds r s)

-- ---- classes
-- whether two columns of a relation are equal
abbrev pub same_column : Relation → ℕ → ℕ → Bool
same_column r x y = not (some_below r.rows (λ i. differ (has r i x) (has r i y)))

-- whether an element is the least of its class; a class is the elements with equal columns
abbrev pub leads : Relation → ℕ → Bool
leads r x = not (some_below x (λ y. same_column r y x))

-- how many classes there are
abbrev pub class_count : Relation → ℕ
class_count r = count_below r.rows (leads r)

-- whether an element is in class number k: classes count from 0 by their least elements
abbrev pub is_in_class : Relation → ℕ → ℕ → Bool
is_in_class r x k =
    some_below r.rows (λ e. same_column r e x && (leads r e && (count_below e (leads r) == k)))

-- the classes of elements with equal columns: (x, k) where x is in class number k
unfoldable pub classes : Relation → Relation
classes r = relation_of r.rows (class_count r) (λ x k. is_in_class r x k)

-- ---- what these are
-- an equivalence of n elements: reflexive, symmetric and transitive
pub record IsEquivalence (n : ℕ) (r : Relation) : Type 0 where
  pub type : HasType n n r
  pub reflexive : (x : ℕ) → x < n → has r x x ≡ true
  pub symmetric : (x y : ℕ) → has r x y ≡ true → has r y x ≡ true
  pub transitive : (x y z : ℕ) → has r x y ≡ true → has r y z ≡ true → has r x z ≡ true

-- an order of n elements: reflexive, antisymmetric and transitive
pub record IsOrder (n : ℕ) (r : Relation) : Type 0 where
  pub type : HasType n n r
  pub reflexive : (x : ℕ) → x < n → has r x x ≡ true
  pub antisymmetric : (x y : ℕ) → has r x y ≡ true → has r y x ≡ true → x ≡ y
  pub transitive : (x y z : ℕ) → has r x y ≡ true → has r y z ≡ true → has r x z ≡ true

-- the classes of an equivalence partition its elements: each element is in one class, and two elements are in one class
-- if and only if they are a pair; classes are numbered by their least elements; and the classes composed with their
-- transposition are the equivalence
pub record ClassLaws : Type 0 where
  pub some : (n : ℕ) (r : Relation) → IsEquivalence n r → (x : ℕ) → x < n
      → (k : ℕ) × (has (classes r) x k ≡ true)
  pub one : (n : ℕ) (r : Relation) → IsEquivalence n r → (x k l : ℕ) → has (classes r) x k ≡ true
      → has (classes r) x l ≡ true → k ≡ l
  pub pairs : (n : ℕ) (r : Relation) → IsEquivalence n r → (x y k : ℕ) → has (classes r) x k ≡ true
      → (has (classes r) y k ≡ true) ↔ (has r x y ≡ true)
  pub ordered : (n : ℕ) (r : Relation) → IsEquivalence n r → (x y k l : ℕ) → x < y → leads r x ≡ true
      → leads r y ≡ true → has (classes r) x k ≡ true → has (classes r) y l ≡ true → k < l
  pub product : (n : ℕ) (r : Relation) → IsEquivalence n r → compose (classes r) (transpose (classes r)) ≡ r

-- bounds are residuals
pub record BoundLaws : Type 0 where
  pub upper : (n q : ℕ) (r s : Relation) → HasType n n r → HasType n q s
      → upper_bounds r s ≡ left_residual (transpose r) (transpose s)
  pub lower : (n q : ℕ) (r s : Relation) → HasType n n r → HasType n q s
      → lower_bounds r s ≡ left_residual r (transpose s)

-- in an order, each column has at most one least and one greatest element, hence at most one supremum and one infimum
pub record ExtremeLaws : Type 0 where
  pub least : (n q : ℕ) (r s : Relation) → IsOrder n r → HasType n q s → (x y k : ℕ) → has (least r s) x k ≡ true
      → has (least r s) y k ≡ true → x ≡ y
  pub greatest : (n q : ℕ) (r s : Relation) → IsOrder n r → HasType n q s → (x y k : ℕ)
      → has (greatest r s) x k ≡ true → has (greatest r s) y k ≡ true → x ≡ y
  pub suprema : (n q : ℕ) (r s : Relation) → IsOrder n r → HasType n q s → (x y k : ℕ)
      → has (suprema r s) x k ≡ true → has (suprema r s) y k ≡ true → x ≡ y
  pub infima : (n q : ℕ) (r s : Relation) → IsOrder n r → HasType n q s → (x y k : ℕ)
      → has (infima r s) x k ≡ true → has (infima r s) y k ≡ true → x ≡ y
