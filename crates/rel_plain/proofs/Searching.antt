-- A search by halving finds a pair in an increasing list exactly where the list has it.
use Rattle.std.proofs.Common.{◌≡◌, ◌≤◌, ◌<◌, ◌||◌, ◌&&◌, eqb, ltb, ℕ, true, false, zero, suc, List, [], ◌∷◌, length, get_or, Ordering, Less, Equal, Greater, Result, Ok, Err, refl, sym, ap, subst, ◌∙◌, arith, inl, inr}
use Rattle.std.specs.Prelude.{is_ok}
use Rattle.std.specs.Ordering.{MatchOrdering, nat_cmp, ordering_then, ordering_index}
use Rattle.std.specs.Cmp.{ranks}
use Rattle.std.specs.List.{AllByRecursion}
use Rattle.std.specs.List.Sorted.{IsSearchInRange, IsBinarySearchResult}
use Rattle.std.proofs.lemmas.Bool.{cases_Bool, cases_eq, cases_lt, and_from, or_right, eq-eqb, lt-ltb}
use Rattle.std.proofs.lemmas.List.Folds.{list_any_at}
use Rattle.rel_model.specs.Relation.{before, IsIncreasing}
use Rattle.rel_model.proofs.Pairs.{same, member, same-true, before-irreflexive, before-asymmetric, before-trans}

-- how two pairs stand to each other, by row and then by column
abbrev pub order : ℕ × ℕ → ℕ × ℕ → Ordering
order p q = ordering_then (nat_cmp p.0 q.0) (nat_cmp p.1 q.1)

order-ranks : (p q : ℕ × ℕ) → MatchOrdering (order p q) (before p q ≡ true) (same p q ≡ true) (before q p ≡ true)
order-ranks p q = by_parts (nat_cmp p.0 q.0) (nat_cmp p.1 q.1) (ranks p.0 q.0) (ranks p.1 q.1)
  where
    by_parts : (a b : Ordering) → MatchOrdering a (p.0 < q.0) (p.0 ≡ q.0) (q.0 < p.0) → MatchOrdering b (p.1 < q.1) (p.1 ≡ q.1) (q.1 < p.1) → MatchOrdering (ordering_then a b) (before p q ≡ true) (same p q ≡ true) (before q p ≡ true)
    by_parts Less b h k = ap (λ t. t || (eqb p.0 q.0 && ltb p.1 q.1)) (lt-ltb p.0 q.0 h)
    by_parts Equal Less h k = or_right _ _ (and_from _ _ (eq-eqb p.0 q.0 h) (lt-ltb p.1 q.1 k))
    by_parts Equal Equal h k = and_from _ _ (eq-eqb p.0 q.0 h) (eq-eqb p.1 q.1 k)
    by_parts Equal Greater h k = or_right _ _ (and_from _ _ (eq-eqb q.0 p.0 (sym h)) (lt-ltb q.1 p.1 k))
    by_parts Greater b h k = ap (λ t. t || (eqb q.0 p.0 && ltb q.1 p.1)) (lt-ltb q.0 p.0 h)

-- what holds of each pair holds of the one at a place
all-at : (P : ℕ × ℕ → Type 0) (ps : List (ℕ × ℕ)) (i : ℕ) (d : ℕ × ℕ) → AllByRecursion P ps → i < length ps → P (get_or ps i d)
all-at P [] i d h l = absurd (omega arith)
all-at P (p ∷ ps) zero d h l = h.0
all-at P (p ∷ ps) (suc i) d h l = all-at P ps i d h.1 (omega arith)

before-at : (ps : List (ℕ × ℕ)) → IsIncreasing ps → (a b : ℕ) (d : ℕ × ℕ) → a < b → b < length ps → before (get_or ps a d) (get_or ps b d) ≡ true
before-at [] up a b d l k = absurd (omega arith)
before-at (p ∷ ps) up a zero d l k = absurd (omega arith)
before-at (p ∷ ps) up zero (suc b) d l k = all-at (λ q. before p q ≡ true) ps b d up.0 (omega arith)
before-at (p ∷ ps) up (suc a) (suc b) d l k = before-at ps up.1 a b d (omega arith) (omega arith)

-- a later pair stands no lower to q
climb : (x y q : ℕ × ℕ) → before x y ≡ true → ordering_index (order x q) ≤ ordering_index (order y q)
climb x y q h = by_both (order x q) (order y q) (order-ranks x q) (order-ranks y q)
  where
    by_both : (a b : Ordering) → MatchOrdering a (before x q ≡ true) (same x q ≡ true) (before q x ≡ true) → MatchOrdering b (before y q ≡ true) (same y q ≡ true) (before q y ≡ true) → ordering_index a ≤ ordering_index b
    by_both Less b m n = omega arith
    by_both Equal Less m n = absurd (before-asymmetric x y h (subst (λ z. before y z ≡ true) (sym (same-true x q m)) n))
    by_both Equal Equal m n = omega arith
    by_both Equal Greater m n = omega arith
    by_both Greater Less m n = absurd (before-asymmetric q y (before-trans q x y m h) n)
    by_both Greater Equal m n = absurd (before-asymmetric q x m (subst (λ z. before x z ≡ true) (same-true y q n) h))
    by_both Greater Greater m n = omega arith

-- along an increasing list the pairs rise, as a search by halving asks
rising : (ps : List (ℕ × ℕ)) → IsIncreasing ps → (q : ℕ × ℕ) (a b : ℕ) (d : ℕ × ℕ) → a ≤ b → b < length ps → ordering_index (order (get_or ps a d) q) ≤ ordering_index (order (get_or ps b d) q)
rising ps up q a b d l k =
    elim (cases_eq a b) [
      | inl e ↦ omega (arith, ap (λ i. ordering_index (order (get_or ps i d) q)) e)
      | inr n ↦ climb (get_or ps a d) (get_or ps b d) q (before-at ps up a b d (omega arith) k)
    ]

-- a list has not what none of its places has
absent : (q : ℕ × ℕ) (ps : List (ℕ × ℕ)) → ((k : ℕ) (d : ℕ × ℕ) → k < length ps → same (get_or ps k d) q ≡ false) → member q ps ≡ false
absent q [] h = refl
absent q (p ∷ ps) h = ap (λ t. t || member q ps) (h zero p (omega arith)) ∙ absent q ps (λ k d l. h (suc k) d (omega arith))

below-other : (x q : ℕ × ℕ) → before x q ≡ true → same x q ≡ false
below-other x q h = elim (cases_Bool (same x q)) [ inl s ↦ absurd (before-irreflexive q (subst (λ z. before z q ≡ true) (same-true x q s) h)) | inr s ↦ s ]

above-other : (x q : ℕ × ℕ) → before q x ≡ true → same x q ≡ false
above-other x q h = elim (cases_Bool (same x q)) [ inl s ↦ absurd (before-irreflexive q (subst (λ z. before q z ≡ true) (same-true x q s) h)) | inr s ↦ s ]

-- the search succeeds exactly where the pair is in the list
pub searched : (ps : List (ℕ × ℕ)) (q : ℕ × ℕ) → IsIncreasing ps → (r : Result ℕ ℕ) → IsSearchInRange r (length ps) → IsBinarySearchResult (λ p. order p q) ps r → is_ok r ≡ member q ps
searched ps q up (Ok i) within at = sym (list_any_at (λ p. same p q) ps i q within (subst (λ o. MatchOrdering o (before (get_or ps i q) q ≡ true) (same (get_or ps i q) q ≡ true) (before q (get_or ps i q) ≡ true)) (at q) (order-ranks (get_or ps i q) q)))
searched ps q up (Err i) within parted =
    let both = parted (λ a b d l k. rising ps up q a b d l k) in
    sym (absent q ps (λ k d l. elim (cases_lt k i) [
      | inl b ↦ below-other (get_or ps k d) q (subst (λ o. MatchOrdering o (before (get_or ps k d) q ≡ true) (same (get_or ps k d) q ≡ true) (before q (get_or ps k d) ≡ true)) (both.0 k d (omega arith) b) (order-ranks (get_or ps k d) q))
      | inr c ↦ above-other (get_or ps k d) q (subst (λ o. MatchOrdering o (before (get_or ps k d) q ≡ true) (same (get_or ps k d) q ≡ true) (before q (get_or ps k d) ≡ true)) (both.1 k d c l) (order-ranks (get_or ps k d) q))
    ]))
