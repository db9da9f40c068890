-- The relation of listed pairs of a closure is the closure, and its tree has fewer nodes than a closure may make.
use Rattle.std.proofs.Common.{◌≡◌, ◌<◌, ◌≤◌, ◌-◌, ◌∙◌, ℕ, List, refl, sym, ap, subst, arith}
use Rattle.rel_model.specs.Relation.{Relation, has, relation_of, size_limit}
use Rattle.rel_model.specs.Algebra.{HasType}
use Rattle.rel_model.specs.Closures.{transitive_closure}
use Rattle.rel_model.specs.Listed.{AreWithin, is_among}
use Rattle.rel_model.specs.Roots.{height_over}
use Rattle.rel_model.specs.Worker.{listed_room, product_room, derived_room}
use Rattle.rel_model.proofs.Members.{inside, type-test, in_test, from_test, one_relation}
use Rattle.rel_model.proofs.Rooms.{derived_room-least}
use Rattle.rel_model.proofs.Walking.{type-closure}
use Rattle.rel_joins.specs.Joins.{joined_limit}
use Rattle.rel_joins.specs.Reaches.{square_of, AreClosed}
use Rattle.rel_joins.proofs.Products.{all_of, joined_room}

sized : ℕ → ℕ → List (ℕ × ℕ) → Relation
sized m n pairs = record { rows = m; cols = n; pairs = pairs }

-- a square relation has only its size and its pairs
pub square_same : (n : ℕ) (r : Relation) → HasType n n r → square_of n r.pairs ≡ r
unfolding sized
square_same n r t = ap (λ (m : ℕ). sized m n r.pairs) (sym t.row_size) ∙ ap (λ (m : ℕ). sized r.rows m r.pairs) (sym t.col_size)

closed_in : (n : ℕ) (r : Relation) (closed : List (ℕ × ℕ)) → HasType n n r → AreClosed n r.pairs closed → (i k : ℕ) → is_among closed i k ≡ has (transitive_closure r) i k
closed_in n r closed t e i k = e i k ∙ ap (λ (x : Relation). has (transitive_closure x) i k) (square_same n r t)

-- listed pairs lie within the sizes
pub closed_within : (n : ℕ) (r : Relation) (closed : List (ℕ × ℕ)) → HasType n n r → AreClosed n r.pairs closed → AreWithin n n closed
closed_within n r closed t e =
    all_of (λ q. (q.0 < n) × (q.1 < n)) closed (λ q h.
    let a = inside n n (transitive_closure r) (type-closure n r t) q.0 q.1 (sym (closed_in n r closed t e q.0 q.1) ∙ h) in
    (a.row, a.col))

-- and are those of the closure
closed_is : (n : ℕ) (r : Relation) (closed : List (ℕ × ℕ)) → HasType n n r → AreClosed n r.pairs closed → relation_of n n (is_among closed) ≡ transitive_closure r
closed_is n r closed t e =
    let u = type-closure n r t in
    one_relation n n (relation_of n n (is_among closed)) (transitive_closure r) (type-test n n n n (is_among closed) refl refl) u
    (λ i k h. sym (closed_in n r closed t e i k) ∙ in_test n n n n (is_among closed) refl refl i k h)
    (λ i k h. let a = inside n n (transitive_closure r) u i k h in
    from_test n n n n (is_among closed) refl refl i k a.row a.col (closed_in n r closed t e i k ∙ h))

-- also if another number is given for the columns
pub closed_given : (n m : ℕ) (r : Relation) (closed : List (ℕ × ℕ)) → n ≡ m → HasType n n r → AreClosed n r.pairs closed → relation_of n m (is_among closed) ≡ transitive_closure r
closed_given n m r closed e t h = ap (λ (k : ℕ). relation_of n k (is_among closed)) (sym e) ∙ closed_is n r closed t h

-- lists of pairs that are equal are closed alike
pub closed_same : (n : ℕ) {a b c d : List (ℕ × ℕ)} → a ≡ c → d ≡ b → AreClosed n a b → AreClosed n c d
closed_same n {a} {b} {c} {d} e f h = subst (λ (ps : List (ℕ × ℕ)). AreClosed n ps d) e (subst (AreClosed n a) (sym f) h)

-- ---- nodes
pub closed_room : (count least rows cols : ℕ) → count ≤ joined_limit → 256 < rows → rows ≤ size_limit → least ≤ 3 → rows ≡ cols → listed_room count (height_over least rows cols - least) ≤ derived_room rows rows rows
unfolding product_room
closed_room count least rows cols few large limit low e =
    let a = joined_room count least rows rows rows few large limit low in
    let b = derived_room-least rows rows rows in
    subst (λ (c : ℕ). listed_room count (height_over least rows c - least) ≤ derived_room rows rows rows) e (omega (arith, a, b))
