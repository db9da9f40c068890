-- Two lists have a pair in common exactly where the intersection of their relations is not empty.
use Rattle.std.proofs.Common.{◌≡◌, ◌<◌, ◌&&◌, ◌||◌, ◌↔◌, ℕ, Bool, true, false, List, [], ◌∷◌, sym, ap, subst, ◌∙◌, inl, inr}
use Rattle.std.proofs.lemmas.Bool.{cases_Bool, and_from, and_parts, or_cases, or_right, false≢true}
use Rattle.std.specs.List.{list_any}
use Rattle.rel_model.specs.Relation.{Relation, has, relation_of}
use Rattle.rel_model.specs.Operators.{empty, inter}
use Rattle.rel_model.proofs.Pairs.{member, same-true, same_itself, all-member}
use Rattle.rel_model.proofs.Relations.{has-relation_of, relation_of-agree}
use Rattle.rel_plain.specs.Kept.{IsKept}
use Rattle.rel_plain.proofs.Stored.{stored}
use Rattle.rel_plain.proofs.Operating.{sized}

-- whether a pair of the first list is in the second
abbrev pub shares : List (ℕ × ℕ) → List (ℕ × ℕ) → Bool
shares xs ys = list_any (λ q. member q ys) xs

-- a pair that is in both is shared
shared : (xs ys : List (ℕ × ℕ)) (q : ℕ × ℕ) → member q xs ≡ true → member q ys ≡ true → shares xs ys ≡ true
shared [] ys q h k = absurd (false≢true h)
shared (x ∷ xs) ys q h k =
    elim (or_cases _ _ h) [
      | inl s ↦ ap (λ t. t || shares xs ys) (subst (λ z. member z ys ≡ true) (sym (same-true x q s)) k)
      | inr s ↦ or_right _ _ (shared xs ys q s k)
    ]

-- where lists share, a pair is in both
common : (xs ys : List (ℕ × ℕ)) → shares xs ys ≡ true → (q : ℕ × ℕ) × (member q xs ≡ true) × (member q ys ≡ true)
common [] ys h = absurd (false≢true h)
common (x ∷ xs) ys h =
    elim (or_cases _ _ h) [
      | inl s ↦ (x, ap (λ t. t || member x xs) (same_itself x), s)
      | inr s ↦ let r = common xs ys s in (r.0, or_right _ _ r.1, r.2)
    ]

-- lists share nothing exactly where the intersection of their relations is empty
pub meets_decides : (m n p q : ℕ) (xs ys : List (ℕ × ℕ)) (a b : Relation) (t : Bool) → m ≡ p → n ≡ q → IsKept (stored m n xs) → a ≡ relation_of m n (has (stored m n xs)) → b ≡ relation_of p q (has (stored p q ys)) → a.rows ≡ m → a.cols ≡ n → t ≡ shares xs ys → (t ≡ false) ↔ (inter a b ≡ empty m n)
unfolding inter empty
meets_decides m n p q xs ys a b t e f v g h ra ca d = (to, from)
  where
    in_a : (i j : ℕ) → i < m → j < n → has a i j ≡ member (i, j) xs
    in_a i j x y = ap (λ r. has r i j) g ∙ has-relation_of m n (has (stored m n xs)) i j x y

    in_b : (i j : ℕ) → i < m → j < n → has b i j ≡ member (i, j) ys
    in_b i j x y = ap (λ r. has r i j) h ∙ has-relation_of p q (has (stored p q ys)) i j (subst (λ z. i < z) e x) (subst (λ z. j < z) f y)

    apart : t ≡ false → (i j : ℕ) → i < m → j < n → (has a i j && has b i j) ≡ false
    apart z i j x y = elim (cases_Bool (has a i j && has b i j)) [
      | inl s ↦ let k = and_parts _ _ s in
          absurd (false≢true (sym z ∙ d ∙ shared xs ys (i, j) (sym (in_a i j x y) ∙ k.0) (sym (in_b i j x y) ∙ k.1)))
      | inr s ↦ s
    ]

    to : t ≡ false → inter a b ≡ empty m n
    to z = sym (sized m n a _ ra ca) ∙ relation_of-agree m n _ _ (apart z)

    from : inter a b ≡ empty m n → t ≡ false
    from z = elim (cases_Bool (shares xs ys)) [
      | inr s ↦ d ∙ s
      | inl s ↦ let c = common xs ys s in
          let w : (c.0.0 < m) × (c.0.1 < n) = all-member (λ p. (p.0 < m) × (p.1 < n)) xs c.0 v.valid.within c.1 in
          let both : (has a c.0.0 c.0.1 && has b c.0.0 c.0.1) ≡ true = and_from _ _ (in_a c.0.0 c.0.1 w.0 w.1 ∙ c.1) (in_b c.0.0 c.0.1 w.0 w.1 ∙ c.2) in
          absurd (false≢true (sym (has-relation_of m n (λ i j. false) c.0.0 c.0.1 w.0 w.1) ∙ ap (λ r. has r c.0.0 c.0.1) (sym (sized m n a _ ra ca ∙ z)) ∙ has-relation_of m n (λ i j. has a i j && has b i j) c.0.0 c.0.1 w.0 w.1 ∙ both))
    ]
