-- What the tests of base calls come to: what a worker tells of its relations is what the meaning says of their pairs.
use Rattle.std.proofs.Common.{◌≡◌, ◌<◌, ◌↔◌, ◌&&◌, not, ℕ, Bool, true, false, refl, sym, ap, subst, ◌∙◌}
use Rattle.std.proofs.lemmas.Bool.{and_parts, and_from, not-true, false≢true}
use Rattle.rel_model.specs.Relation.{Relation, IsRelation, has, relation_of}
use Rattle.rel_model.specs.Algebra.{HasType}
use Rattle.rel_model.specs.Cells.{some_below}
use Rattle.rel_model.proofs.Members.{type-test}
use Rattle.rel_model.specs.Operators.{empty, diff}
use Rattle.rel_model.proofs.Somes.{same_truth, not_true, some_from, some_none, some_agree}
use Rattle.rel_model.proofs.Relations.{IsRelation-relation_of, rows-relation_of, cols-relation_of, has-relation_of, same_relation}
use Rattle.lang_model.specs.Mean.{is_within, is_empty}

-- ---- being within
none_below : (n : ℕ) (t : ℕ → Bool) → some_below n t ≡ false → (k : ℕ) → k < n → t k ≡ false
none_below n t h k l = not_true (t k) (λ g. false≢true (sym h ∙ some_from n t k l g))

implied : (a b : Bool) → (a && not b) ≡ false → a ≡ true → b ≡ true
implied true true e h = refl
implied true false e h = absurd (false≢true (sym e))
implied false b e h = absurd (false≢true h)

none_but : (a b : Bool) → (a ≡ true → b ≡ true) → (a && not b) ≡ false
none_but true b f = ap not (f refl)
none_but false b f = refl

within_all : (r s : Relation) → is_within r s ≡ true → (i j : ℕ) → i < r.rows → j < r.cols → has r i j ≡ true → has s i j ≡ true
within_all r s h i j a b =
    let row = λ (x : ℕ). some_below r.cols (λ y. has r x y && not (has s x y)) in
    let none = none_below r.rows row (not-true (some_below r.rows row) h) i a in
    implied (has r i j) (has s i j) (none_below r.cols (λ y. has r i y && not (has s i y)) none j b)

all_within : (r s : Relation) → ((i j : ℕ) → i < r.rows → j < r.cols → has r i j ≡ true → has s i j ≡ true) → is_within r s ≡ true
all_within r s f = ap not (some_none r.rows (λ x. some_below r.cols (λ y. has r x y && not (has s x y)))
    (λ i a. some_none r.cols (λ y. has r i y && not (has s i y)) (λ j b. none_but (has r i j) (has s i j) (f i j a b))))

within_itself : (r : Relation) → is_within r r ≡ true
within_itself r = all_within r r (λ i j a b h. h)

-- ---- answers of workers
-- two relations of one type are the same exactly where each is within the other
pub same_test : (r s : Relation) (told : Bool) → IsRelation r → IsRelation s → r.rows ≡ s.rows → r.cols ≡ s.cols
    → (told ≡ true) ↔ (r ≡ s) → (is_within r s && is_within s r) ≡ told
same_test r s told v w m n e = same_truth (is_within r s && is_within s r) told
    (λ h. let p = and_parts (is_within r s) (is_within s r) h in
    e.1 (same_relation r s v w m n (λ i j a b. same_truth (has r i j) (has s i j) (within_all r s p.0 i j a b)
    (within_all s r p.1 i j (subst (λ (x : ℕ). i < x) m a) (subst (λ (x : ℕ). j < x) n b)))))
    (λ y. let q : r ≡ s = e.0 y in
    and_from (is_within r s) (is_within s r) (subst (λ x. is_within r x ≡ true) q (within_itself r)) (subst (λ x. is_within x r ≡ true) q (within_itself r)))

-- a relation is empty exactly where no pair is in it
pub empty_test : (r : Relation) (m n : ℕ) (told : Bool) → IsRelation r → r.rows ≡ m → r.cols ≡ n
    → (told ≡ true) ↔ (r ≡ empty m n) → is_empty r ≡ told
unfolding empty
empty_test r m n told v a b e = same_truth (is_empty r) told
    (λ h. let none = not-true (some_below r.rows (λ x. some_below r.cols (λ y. has r x y))) h in
    e.1 (same_relation r (relation_of m n (λ i j. false)) v (IsRelation-relation_of m n (λ i j. false))
    (a ∙ sym (rows-relation_of m n (λ i j. false))) (b ∙ sym (cols-relation_of m n (λ i j. false)))
    (λ i j x y. none_below r.cols (λ k. has r i k) (none_below r.rows (λ k. some_below r.cols (λ l. has r k l)) none i x) j y
    ∙ sym (has-relation_of m n (λ k l. false) i j (subst (λ (z : ℕ). i < z) a x) (subst (λ (z : ℕ). j < z) b y)))))
    (λ h. let q : r ≡ relation_of m n (λ i j. false) = e.0 h in
    ap not (some_none r.rows (λ x. some_below r.cols (λ y. has r x y)) (λ i x. some_none r.cols (λ y. has r i y)
    (λ j y. ap (λ z. has z i j) q ∙ has-relation_of m n (λ k l. false) i j (subst (λ (z : ℕ). i < z) a x) (subst (λ (z : ℕ). j < z) b y)))))

-- a relation is within another exactly where their difference is empty
pub diff_test : (r s : Relation) → is_empty (diff r s) ≡ is_within r s
unfolding diff relation_of
diff_test r s = ap not (some_agree r.rows _ _ (λ i a. some_agree r.cols _ _
    (λ j b. has-relation_of r.rows r.cols (λ x y. has r x y && not (has s x y)) i j a b)))

-- the type of a difference
pub type_of_diff : (r s : Relation) (m n : ℕ) → r.rows ≡ m → r.cols ≡ n → HasType m n (diff r s)
unfolding diff
type_of_diff r s m n a b = type-test r.rows r.cols m n _ a b

-- so the emptiness of the difference of two relations tells whether one is within the other
pub within_test : (r s : Relation) (m n : ℕ) (told : Bool) → r.rows ≡ m → r.cols ≡ n
    → (told ≡ true) ↔ (diff r s ≡ empty m n) → is_within r s ≡ told
within_test r s m n told a b e =
    let d = type_of_diff r s m n a b in
    sym (diff_test r s) ∙ empty_test (diff r s) m n told d.valid d.row_size d.col_size e
