-- Laws of complements, of repeated operands and of numbers of transpositions, by membership.
use Rattle.std.proofs.Common.{◌≡◌, ◌⊎◌, ◌+◌, ℕ, zero, suc, true, refl, ap, ◌∙◌, inl, inr, arith}
use Rattle.std.proofs.lemmas.Bool.{cases_Bool}
use Rattle.rel_model.specs.Relation.{Relation, IsRelation, has}
use Rattle.rel_model.specs.Operators.{union, inter, complement, transpose, transposed_by}
use Rattle.rel_model.specs.Algebra.{HasType, TurnLaws, ComplementLaws, RepeatLaws}
use Rattle.rel_model.proofs.OperatorLaws.{transposed_by-even, transposed_by-odd}
use Rattle.rel_model.proofs.Members.{inside, one_relation, type-union, in_union, left_union, right_union, type-inter, in_inter, from_inter, type-complement, from_complement, apart}

-- a relation has a pair or lacks it
has_or : (r : Relation) (i j : ℕ) → (has r i j ≡ true) ⊎ (has r i j ≡ true → ⊥)
has_or r i j = elim (cases_Bool (has r i j)) [ inl e ↦ inl e | inr e ↦ inr (λ h. cc) ]

-- ---- transpositions
turn_more : (k l : ℕ) (r : Relation) → transposed_by k (transposed_by l r) ≡ transposed_by (k + l) r
turn_more zero l r = let e : l ≡ zero + l = omega arith in ap (λ n. transposed_by n r) e
turn_more (suc k) l r =
    let e : suc (k + l) ≡ suc k + l = omega arith in
    ap transpose (turn_more k l r) ∙ ap (λ n. transposed_by n r) e

pub turn_laws : TurnLaws
turn_laws = record { even = transposed_by-even; odd = transposed_by-odd; more = turn_more }

-- ---- complements
complement-twice : (r : Relation) → IsRelation r → complement (complement r) ≡ r
complement-twice r v =
    let t : HasType r.rows r.cols r = record { valid = v; row_size = refl; col_size = refl } in
    let c = type-complement r.rows r.cols r t in
    let d = type-complement r.rows r.cols (complement r) c in
    one_relation r.rows r.cols _ _ d t
    (λ i j h. let w = inside r.rows r.cols (complement (complement r)) d i j h in elim (has_or r i j) [
      | inl a ↦ a
      | inr b ↦ absurd (apart (complement r) i j h (from_complement r.rows r.cols r t i j w.row w.col b))
    ])
    (λ i j h. let w = inside r.rows r.cols r t i j h in from_complement r.rows r.cols (complement r) c i j w.row w.col
    (λ g. apart r i j g h))

-- De Morgan's law for union: a pair that the intersection lacks is lacking in one of the two relations
complement-union : (m n : ℕ) (r s : Relation) → HasType m n r → HasType m n s
    → union (complement r) (complement s) ≡ complement (inter r s)
complement-union m n r s t u =
    let cr = type-complement m n r t in
    let cs = type-complement m n s u in
    let a = type-union m n (complement r) (complement s) cr in
    let b = type-inter m n r s t in
    let c = type-complement m n (inter r s) b in
    one_relation m n _ _ a c
    (λ i j h. let w = inside m n (union (complement r) (complement s)) a i j h in from_complement m n
    (inter r s) b i j w.row w.col (λ g. let p = in_inter m n r s t i j g in elim
    (in_union m n (complement r) (complement s) cr i j h) [
      | inl x ↦ apart r i j x p.0
      | inr y ↦ apart s i j y p.1
    ]))
    (λ i j h. let w = inside m n (complement (inter r s)) c i j h in elim (has_or r i j) [
      | inl x ↦ right_union m n (complement r) (complement s) cr cs i j
          (from_complement m n s u i j w.row w.col (λ g. apart (inter r s) i j h (from_inter m n r s t i j x g)))
      | inr y ↦ left_union m n (complement r) (complement s) cr i j (from_complement m n r t i j w.row w.col y)
    ])

-- De Morgan's law for intersection: a pair that the union lacks is lacking in both relations
complement-inter : (m n : ℕ) (r s : Relation) → HasType m n r → HasType m n s
    → inter (complement r) (complement s) ≡ complement (union r s)
complement-inter m n r s t u =
    let cr = type-complement m n r t in
    let cs = type-complement m n s u in
    let a = type-inter m n (complement r) (complement s) cr in
    let b = type-union m n r s t in
    let c = type-complement m n (union r s) b in
    one_relation m n _ _ a c
    (λ i j h. let w = inside m n (inter (complement r) (complement s)) a i j h in let p = in_inter m n (complement r)
    (complement s) cr i j h in from_complement m n (union r s) b i j w.row w.col
    (λ g. elim (in_union m n r s t i j g) [
      | inl x ↦ apart r i j p.0 x
      | inr y ↦ apart s i j p.1 y
    ]))
    (λ i j h. let w = inside m n (complement (union r s)) c i j h in from_inter m n (complement r) (complement s) cr i j
    (from_complement m n r t i j w.row w.col (λ g. apart (union r s) i j h (left_union m n r s t i j g)))
    (from_complement m n s u i j w.row w.col (λ g. apart (union r s) i j h (right_union m n r s t u i j g))))

pub complement_laws : ComplementLaws
complement_laws = record { twice = complement-twice; of_union = complement-union; of_inter = complement-inter }

-- ---- repeated operands
pub repeat_laws : RepeatLaws
repeat_laws = record {
  of_union = λ m n r s t u f. one_relation m n _ _ (type-union m n r s t) t
      (λ i j h. elim (in_union m n r s t i j h) [ inl a ↦ a | inr b ↦ f i j b ]) (left_union m n r s t);
  of_inter = λ m n r s t u f. one_relation m n _ _ (type-inter m n r s t) t
      (λ i j h. (in_inter m n r s t i j h).0) (λ i j h. from_inter m n r s t i j h (f i j h));
  left_of_union = λ m n r s t u. left_union m n r s t;
  right_of_union = λ m n r s t u. right_union m n r s t u;
  left_of_inter = λ m n r s t u i j h. (in_inter m n r s t i j h).0;
  right_of_inter = λ m n r s t u i j h. (in_inter m n r s t i j h).1;
}
