-- Relations are compared by the lists that are kept.
use Rattle.std.proofs.Common.{◌≡◌, ◌↔◌, ℕ, Bool, true, eqb, List, [], ◌∷◌, length, refl, sym, ap, subst, ◌∙◌, arith}
use Rattle.std.specs.Prelude.{IsTrue}
use Rattle.std.proofs.lemmas.Bool.{and_parts, and_from, eqb-true, false≢true}
use lib.Pointwise.{pointwise}
use Rattle.rel_model.proofs.Pairs.{same, same-true, same_itself}
use Rattle.rel_model.specs.Relation.{Relation, has, relation_of}
use Rattle.rel_model.specs.Operators.{empty}
use Rattle.rel_model.proofs.Relations.{of_itself}
use Rattle.rel_plain.specs.Kept.{IsKept}
use Rattle.rel_plain.proofs.Stored.{stored}
use Rattle.rel_plain.proofs.Operating.{empty_is}

-- one list, where the relations are one
pub same_pairs : (m n : ℕ) (ps qs : List (ℕ × ℕ)) → IsKept (stored m n ps) → IsKept (stored m n qs) → relation_of m n (has (stored m n ps)) ≡ relation_of m n (has (stored m n qs)) → ps ≡ qs
same_pairs m n ps qs v w e = ap (λ r. r.pairs) (of_itself (stored m n ps) v.valid ∙ e ∙ sym (of_itself (stored m n qs) w.valid))

-- lists that are equal pair by pair are equal
pairs_equal : (xs ys : List (ℕ × ℕ)) → pointwise (λ x y. same x y) xs ys ≡ true → xs ≡ ys
pairs_equal [] [] h = refl
pairs_equal [] (y ∷ ys) h = absurd (false≢true h)
pairs_equal (x ∷ xs) [] h = absurd (false≢true h)
pairs_equal (x ∷ xs) (y ∷ ys) h = let a = and_parts _ _ h in ap (λ z. z ∷ xs) (same-true x y a.0) ∙ ap (λ zs. y ∷ zs) (pairs_equal xs ys a.1)

equal_pairs : (xs : List (ℕ × ℕ)) → pointwise (λ x y. same x y) xs xs ≡ true
equal_pairs [] = refl
equal_pairs (x ∷ xs) = and_from _ _ (same_itself x) (equal_pairs xs)

-- the lists are equal exactly where the relations are
pub same_decides : (m n p q : ℕ) (xs ys : List (ℕ × ℕ)) (a b : Relation) (t : Bool) → m ≡ p → n ≡ q → IsKept (stored m n xs) → IsKept (stored p q ys) → a ≡ relation_of m n (has (stored m n xs)) → b ≡ relation_of p q (has (stored p q ys)) → t ≡ pointwise (λ x y. same x y) xs ys → IsTrue t ↔ (a ≡ b)
same_decides m n p q xs ys a b t e f v w g h d =
    let w' : IsKept (stored m n ys) = subst (λ x. IsKept (stored x n ys)) (sym e) (subst (λ y. IsKept (stored p y ys)) (sym f) w) in
    let h' : b ≡ relation_of m n (has (stored m n ys)) = h ∙ ap (λ x. relation_of x q (has (stored x q ys))) (sym e) ∙ ap (λ y. relation_of m y (has (stored m y ys))) (sym f) in (
      (λ is. g ∙ ap (λ ps. relation_of m n (has (stored m n ps))) (pairs_equal xs ys (sym d ∙ is)) ∙ sym h'),
      (λ is. d ∙ ap (λ zs. pointwise (λ x y. same x y) xs zs) (sym (same_pairs m n xs ys v w' (sym g ∙ is ∙ h'))) ∙ equal_pairs xs),
    )

-- the list is empty exactly where the relation is
pub empty_decides : (m n : ℕ) (xs : List (ℕ × ℕ)) (a : Relation) (t : Bool) → IsKept (stored m n xs) → a ≡ relation_of m n (has (stored m n xs)) → t ≡ eqb (length xs) 0 → IsTrue t ↔ (a ≡ empty m n)
empty_decides m n [] a t v g d = ((λ _. g ∙ empty_is m n), (λ _. d))
empty_decides m n (x ∷ xs) a t v g d = (
  (λ is. absurd (too_long (eqb-true (length (x ∷ xs)) 0 (sym d ∙ is)))),
  (λ is. absurd (too_long (ap length (same_pairs m n (x ∷ xs) [] v (record { valid = record { within = tt; increasing = tt }; row_limit = v.row_limit; col_limit = v.col_limit }) (sym g ∙ is ∙ sym (empty_is m n)))))),
)
  where
    too_long : length (x ∷ xs) ≡ 0 → ⊥
    too_long e = omega arith
