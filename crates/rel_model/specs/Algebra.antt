-- The laws of the algebra of relations, for all relations of fitting types (Schmidt and Ströhlein, Relations and
-- Graphs; Schröder and Dedekind for those that bear their names).
use Rattle.std.specs.Prelude.{◌≡◌, ◌<◌, ◌↔◌, ◌+◌, ℕ, true}
use Rattle.rel_model.specs.Relation.{Relation, IsRelation, has}
use Rattle.rel_model.specs.Operators.{union, inter, complement, transpose, transposed_by, compose, right_residual}
use Rattle.rel_model.specs.Operators.{left_residual, symmetric_quotient, identity}
use Rattle.rel_model.specs.Closures.{transitive_closure, reflexive_closure, IsWithin, AreJoined}

-- a relation from a domain of m to one of n elements
pub record HasType (m n : ℕ) (r : Relation) : Type 0 where
  pub valid : IsRelation r
  pub row_size : r.rows ≡ m
  pub col_size : r.cols ≡ n

-- transposition distributes over unions, intersections and complements, reverses compositions, keeps inclusion, and is
-- its own inverse
pub record TransposeLaws : Type 0 where
  pub twice : (r : Relation) → IsRelation r → transpose (transpose r) ≡ r
  pub union : (m n : ℕ) (r s : Relation) → HasType m n r → HasType m n s
      → transpose (union r s) ≡ union (transpose r) (transpose s)
  pub inter : (m n : ℕ) (r s : Relation) → HasType m n r → HasType m n s
      → transpose (inter r s) ≡ inter (transpose r) (transpose s)
  pub complement : (m n : ℕ) (r : Relation) → HasType m n r → transpose (complement r) ≡ complement (transpose r)
  pub compose : (m n p : ℕ) (r s : Relation) → HasType m n r → HasType n p s
      → transpose (compose r s) ≡ compose (transpose s) (transpose r)
  pub within : (m n : ℕ) (r s : Relation) → HasType m n s → IsWithin r s → IsWithin (transpose r) (transpose s)

-- an even number of transpositions cancels out, and an odd number is one; k of them after l of them are k + l
pub record TurnLaws : Type 0 where
  pub even : (k : ℕ) (r : Relation) → IsRelation r → transposed_by (k + k) r ≡ r
  pub odd : (k : ℕ) (r : Relation) → IsRelation r → transposed_by (k + k + 1) r ≡ transpose r
  pub more : (k l : ℕ) (r : Relation) → transposed_by k (transposed_by l r) ≡ transposed_by (k + l) r

-- the complement is its own inverse, and De Morgan's laws
pub record ComplementLaws : Type 0 where
  pub twice : (r : Relation) → IsRelation r → complement (complement r) ≡ r
  pub of_union : (m n : ℕ) (r s : Relation) → HasType m n r → HasType m n s
      → union (complement r) (complement s) ≡ complement (inter r s)
  pub of_inter : (m n : ℕ) (r s : Relation) → HasType m n r → HasType m n s
      → inter (complement r) (complement s) ≡ complement (union r s)

-- an operand of a union or an intersection that occurs earlier may be dropped (absorption): each operand lies within a
-- union, and an intersection lies within each of its operands
pub record RepeatLaws : Type 0 where
  pub of_union : (m n : ℕ) (r s : Relation) → HasType m n r → HasType m n s → IsWithin s r → union r s ≡ r
  pub of_inter : (m n : ℕ) (r s : Relation) → HasType m n r → HasType m n s → IsWithin r s → inter r s ≡ r
  pub left_of_union : (m n : ℕ) (r s : Relation) → HasType m n r → HasType m n s → IsWithin r (union r s)
  pub right_of_union : (m n : ℕ) (r s : Relation) → HasType m n r → HasType m n s → IsWithin s (union r s)
  pub left_of_inter : (m n : ℕ) (r s : Relation) → HasType m n r → HasType m n s → IsWithin (inter r s) r
  pub right_of_inter : (m n : ℕ) (r s : Relation) → HasType m n r → HasType m n s → IsWithin (inter r s) s

-- composition is associative, has the identities, and distributes over unions from both sides
pub record ComposeLaws : Type 0 where
  pub associative : (m n p q : ℕ) (r s t : Relation) → HasType m n r → HasType n p s → HasType p q t
      → compose (compose r s) t ≡ compose r (compose s t)
  pub left_identity : (m n : ℕ) (r : Relation) → HasType m n r → compose (identity m) r ≡ r
  pub right_identity : (m n : ℕ) (r : Relation) → HasType m n r → compose r (identity n) ≡ r
  pub over_union : (m n p : ℕ) (r s t : Relation) → HasType m n r → HasType n p s → HasType n p t
      → compose r (union s t) ≡ union (compose r s) (compose r t)
  pub union_over : (m n p : ℕ) (r s t : Relation) → HasType m n r → HasType m n s → HasType n p t
      → compose (union r s) t ≡ union (compose r t) (compose s t)

-- unions, intersections and compositions are monotone, and the complement is antitone
pub record MonotoneLaws : Type 0 where
  pub union : (m n : ℕ) (r s t u : Relation) → HasType m n r → HasType m n s → HasType m n t → HasType m n u
      → IsWithin r t → IsWithin s u → IsWithin (union r s) (union t u)
  pub inter : (m n : ℕ) (r s t u : Relation) → HasType m n r → HasType m n s → HasType m n t → HasType m n u
      → IsWithin r t → IsWithin s u → IsWithin (inter r s) (inter t u)
  pub complement : (m n : ℕ) (r s : Relation) → HasType m n r → HasType m n s → IsWithin r s
      → IsWithin (complement s) (complement r)
  pub compose : (m n p : ℕ) (r s t u : Relation) → HasType m n r → HasType n p s → HasType m n t → HasType n p u
      → IsWithin r t → IsWithin s u → IsWithin (compose r s) (compose t u)

-- both residuals are complements of compositions; each is the greatest relation whose composition with r lies within s
pub record ResidualLaws : Type 0 where
  pub right : (m n p : ℕ) (r s : Relation) → HasType m n r → HasType m p s
      → right_residual r s ≡ complement (compose (transpose r) (complement s))
  pub left : (m n p : ℕ) (r s : Relation) → HasType n p r → HasType m p s
      → left_residual s r ≡ complement (compose (complement s) (transpose r))
  pub right_greatest : (m n p : ℕ) (r x s : Relation) → HasType m n r → HasType n p x → HasType m p s
      → IsWithin (compose r x) s ↔ IsWithin x (right_residual r s)
  pub left_greatest : (m n p : ℕ) (r x s : Relation) → HasType n p r → HasType m n x → HasType m p s
      → IsWithin (compose x r) s ↔ IsWithin x (left_residual s r)

-- the symmetric quotient is the intersection of two residuals
abbrev pub QuotientByResiduals : Type 0
QuotientByResiduals = (m n p : ℕ) (r s : Relation) → HasType m n r → HasType m p s
    → symmetric_quotient r s ≡ inter (right_residual r s) (left_residual (transpose r) (transpose s))

-- Schröder's rule: three inclusions are equivalent
pub record SchroederLaws : Type 0 where
  pub first_second : (m n p : ℕ) (r s t : Relation) → HasType m n r → HasType n p s → HasType m p t
      → IsWithin (compose r s) t ↔ IsWithin (compose (transpose r) (complement t)) (complement s)
  pub first_third : (m n p : ℕ) (r s t : Relation) → HasType m n r → HasType n p s → HasType m p t
      → IsWithin (compose r s) t ↔ IsWithin (compose (complement t) (transpose s)) (complement r)

-- Dedekind's rule
abbrev pub DedekindRule : Type 0
DedekindRule = (m n p : ℕ) (r s t : Relation) → HasType m n r → HasType n p s → HasType m p t
    → IsWithin (inter (compose r s) t) (compose (inter r (compose t (transpose s))) (inter s (compose (transpose r) t)))

-- the transitive closure has exactly the pairs that a walk of any length joins, and is the least transitive relation
-- that contains the given one
pub record ClosureLaws : Type 0 where
  pub walks : (n : ℕ) (r : Relation) → HasType n n r → (x y : ℕ) → x < n → y < n
      → (has (transitive_closure r) x y ≡ true) ↔ AreJoined r x y
  pub over : (n : ℕ) (r : Relation) → HasType n n r → IsWithin r (transitive_closure r)
  pub transitive : (n : ℕ) (r : Relation) → HasType n n r
      → IsWithin (compose (transitive_closure r) (transitive_closure r)) (transitive_closure r)
  pub least : (n : ℕ) (r s : Relation) → HasType n n r → HasType n n s → IsWithin r s → IsWithin (compose s s) s
      → IsWithin (transitive_closure r) s
  pub reflexive : (n : ℕ) (r : Relation) → HasType n n r → reflexive_closure r ≡ union r (identity n)
