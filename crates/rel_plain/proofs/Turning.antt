-- A list of pairs, turned round by halves, is the transposition.
use Rattle.std.proofs.Common.{◌≡◌, ◌<◌, ◌&&◌, ◌||◌, ℕ, Bool, true, false, eqb, List, [], ◌∷◌, ◌++◌, refl, sym, ap, ◌∙◌}
use Rattle.std.specs.List.{AllByRecursion}
use Rattle.std.proofs.lemmas.List.Folds.{list_any-append}
use Rattle.rel_model.proofs.Pairs.{same, member}
use Rattle.rel_model.specs.Relation.{Relation, has, relation_of}
use Rattle.rel_model.specs.Operators.{transpose}
use Rattle.rel_model.proofs.Relations.{relation_of-agree, has-relation_of}
use Rattle.rel_plain.specs.Merge.{picked}
use Rattle.rel_plain.specs.Kept.{IsKept}
use Rattle.rel_plain.specs.Turn.{IsTurned}
use Rattle.rel_plain.specs.Merge.{IsMerge}
use Rattle.rel_model.proofs.Pairs.{all-member}
use Rattle.rel_plain.proofs.Merging.{all-from-member}
use Rattle.rel_plain.proofs.Stored.{stored}

-- no pair, turned
pub turned_none : IsTurned [] []
turned_none = record { increasing = tt; members = λ i j. refl }

and_swap : (a b : Bool) → (a && b) ≡ (b && a)
and_swap true true = refl
and_swap true false = refl
and_swap false true = refl
and_swap false false = refl

-- one pair, turned
pub turned_one : (x y : ℕ) → IsTurned ((x, y) ∷ []) ((y, x) ∷ [])
turned_one x y = record { increasing = (tt, tt); members = λ i j. ap (λ b. b || false) (and_swap (eqb y i) (eqb x j)) }

-- the halves turned and merged are the whole turned
pub turned_merge : (ps front back left right zs : List (ℕ × ℕ)) → front ++ back ≡ ps → IsTurned front left → IsTurned back right → IsMerge (record { left = true; both = true; right = true }) left right zs → IsTurned ps zs
turned_merge ps front back left right zs e t u is = record {
  increasing = is.increasing;
  members = λ i j. is.members i j
      ∙ either (member (i, j) left) (member (i, j) right)
      ∙ ap (λ b. b || member (i, j) right) (t.members i j) ∙ ap (λ b. member (j, i) front || b) (u.members i j)
      ∙ sym (list_any-append (λ p. same p (j, i)) front back) ∙ ap (member (j, i)) e;
}
  where
    either : (a b : Bool) → picked (record { left = true; both = true; right = true }) a b ≡ (a || b)
    either true true = refl
    either true false = refl
    either false true = refl
    either false false = refl

-- what lies within the sizes lies, turned, within them exchanged
all-IsTurned : (m n : ℕ) (ps qs : List (ℕ × ℕ)) → IsTurned ps qs → AllByRecursion (λ p. (p.0 < m) × (p.1 < n)) ps → AllByRecursion (λ p. (p.0 < n) × (p.1 < m)) qs
all-IsTurned m n ps qs t h = all-from-member (λ p. (p.0 < n) × (p.1 < m)) qs (λ q k. let w : (q.1 < m) × (q.0 < n) = all-member (λ p. (p.0 < m) × (p.1 < n)) ps (q.1, q.0) h (sym (t.members q.0 q.1) ∙ k) in (w.1, w.0))

-- a kept relation's turned list is kept
pub IsKept-turned : (m n : ℕ) (ps qs : List (ℕ × ℕ)) → IsKept (stored m n ps) → IsTurned ps qs → IsKept (stored n m qs)
IsKept-turned m n ps qs v t = record { valid = record { within = all-IsTurned m n ps qs t v.valid.within; increasing = t.increasing }; row_limit = v.col_limit; col_limit = v.row_limit }

-- the turned list has the membership of the transposition
pub transpose_is : (m n : ℕ) (ps qs : List (ℕ × ℕ)) (a : Relation) → IsTurned ps qs → a ≡ relation_of m n (has (stored m n ps)) → a.rows ≡ m → a.cols ≡ n → relation_of n m (has (stored n m qs)) ≡ transpose a
unfolding transpose
transpose_is m n ps qs a t e r c =
    relation_of-agree n m _ _ (λ i j l k. t.members i j ∙ sym (ap (λ x. has x j i) e ∙ has-relation_of m n _ j i k l))
    ∙ ap (λ x. relation_of x m (λ i j. has a j i)) (sym c) ∙ ap (λ y. relation_of a.cols y (λ i j. has a j i)) (sym r)
