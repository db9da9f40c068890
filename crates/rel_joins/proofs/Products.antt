-- The relation of joined pairs is the composition, and its tree has fewer nodes than a composition may make.
use Rattle.std.proofs.Common.{◌≡◌, ◌<◌, ◌≤◌, ◌+◌, ◌-◌, ◌*◌, ◌∙◌, ℕ, true, List, [], ◌∷◌, refl, sym, inl, inr, arith}
use Rattle.std.specs.List.{AllByRecursion}
use Rattle.std.proofs.lemmas.Bool.{cases_lt, or_left, or_right}
use Rattle.std.proofs.lemmas.Nat.{mul-le}
use Rattle.std.proofs.Math.Nat.{pow-le-pow_right}
use Rattle.rel_model.specs.Relation.{Relation, relation_of, size_limit}
use Rattle.rel_model.specs.Algebra.{HasType}
use Rattle.rel_model.specs.Listed.{AreWithin, is_among}
use Rattle.rel_model.specs.Operators.{compose}
use Rattle.rel_model.specs.Roots.{height_over}
use Rattle.rel_model.specs.Worker.{height_of, height_of_three, listed_room, product_room}
use Rattle.rel_model.proofs.Heights.{power_up, height_of-covers, height_over-high}
use Rattle.rel_model.proofs.Pairs.{member, same, same_itself}
use Rattle.rel_model.proofs.Members.{inside, type-test, in_test, from_test, one_relation, type-compose, in_compose, from_compose}
use Rattle.rel_joins.specs.Joins.{joined_limit, AreJoined}
use Rattle.rel_joins.proofs.Joins.{led, leads_from}

-- what holds of each pair that is listed
pub all_of : (P : ℕ × ℕ → Type 0) (ps : List (ℕ × ℕ)) → ((q : ℕ × ℕ) → member q ps ≡ true → P q) → AllByRecursion P ps
all_of P [] h = tt
all_of P (p ∷ ps) h = (h p (or_left (same p p) (member p ps) (same_itself p)), all_of P ps (λ q m. h q (or_right (same p q) (member q ps) m)))

-- joined pairs lie within the sizes
pub joined_within : (m n p : ℕ) (r s : Relation) (joined : List (ℕ × ℕ)) → HasType m n r → HasType n p s → AreJoined r.pairs s.pairs joined → AreWithin m p joined
joined_within m n p r s joined t u e =
    all_of (λ q. (q.0 < m) × (q.1 < p)) joined (λ q h.
    let w = led r.pairs s.pairs q.0 q.1 (sym (e q.0 q.1) ∙ h) in
    let a = inside m n r t q.0 w.at w.first in
    let b = inside n p s u w.at q.1 w.second in
    (a.row, b.col))

-- a pair is joined exactly if it is in the composition, since both say that there is a middle element
pub joined_is : (m n p : ℕ) (r s : Relation) (joined : List (ℕ × ℕ)) → HasType m n r → HasType n p s → AreJoined r.pairs s.pairs joined → relation_of m p (is_among joined) ≡ compose r s
joined_is m n p r s joined t u e =
    let both = type-compose m n p r s t u in
    one_relation m p (relation_of m p (is_among joined)) (compose r s) (type-test m p m p (is_among joined) refl refl) both
    (λ i k h. let w = led r.pairs s.pairs i k (sym (e i k) ∙ in_test m p m p (is_among joined) refl refl i k h) in
    from_compose m n p r s t u i w.at k w.first w.second)
    (λ i k h. let w = in_compose r s i k h in
    let a = inside m p (compose r s) both i k h in
    from_test m p m p (is_among joined) refl refl i k a.row a.col (e i k ∙ leads_from r.pairs s.pairs i w.at k w.first w.second))

-- ---- nodes
high_enough : (rows : ℕ) → 256 < rows → rows ≤ size_limit → 9 ≤ height_of rows
high_enough rows l b =
    elim (cases_lt (height_of rows) 9) [
      | inl a ↦ let c = height_of-covers rows b in let p = power_up (height_of rows) 8 (omega (arith, a)) in absurd (omega (arith, c, p, l))
      | inr a ↦ a
    ]

-- At most 2^22 pairs make at most 73 nodes each, and a composition of such height may make 16 * 8^9.
pub joined_room : (count least rows middle cols : ℕ) → count ≤ joined_limit → 256 < rows → rows ≤ size_limit → least ≤ 3 → listed_room count (height_over least rows cols - least) ≤ product_room rows middle cols
unfolding product_room
joined_room count least rows middle cols few large limit low =
    let h = height_of_three rows middle cols in
    let a = high_enough rows large limit in
    let b = height_over-high least rows cols (omega (arith, low)) in
    let p = mul-le count (3 * (height_over least rows cols - least) + 1) 4194304 73 few (omega (arith, b)) in
    let q = pow-le-pow_right {n = 8} (omega arith) {i = 9} {j = h} (omega (arith, a)) in
    omega (arith, p, q)
