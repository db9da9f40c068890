-- Laws of the operators, from their membership clauses.
use Rattle.std.proofs.Common.{◌≡◌, ◌&&◌, ◌+◌, ◌∙◌, ℕ, Bool, true, not, zero, suc, refl, sym, ap, arith}
use Rattle.rel_model.specs.Relation.{Relation, IsRelation, has, relation_of}
use Rattle.rel_model.specs.Operators.{full, diff, complement, transpose, transposed_by}
use Rattle.rel_model.proofs.Relations.{IsRelation-relation_of, rows-relation_of, cols-relation_of, has-relation_of, relation_of-agree, of_itself}

-- the relation of one test on equal sizes
pub relation_of-sizes : (m n p q : ℕ) (t : ℕ → ℕ → Bool) → m ≡ p → n ≡ q → relation_of m n t ≡ relation_of p q t
relation_of-sizes m n p q t e f = ap (λ x. relation_of x n t) e ∙ ap (λ y. relation_of p y t) f

-- what the full relation has and this one lacks is the complement
pub diff-full : (m n : ℕ) (r : Relation) → r.rows ≡ m → r.cols ≡ n → diff (full m n) r ≡ complement r
unfolding full diff complement
diff-full m n r e f =
    let L = relation_of m n (λ i j. true) in
    relation_of-sizes L.rows L.cols m n (λ i j. has L i j && not (has r i j)) (rows-relation_of m n _) (cols-relation_of m n _)
    ∙ relation_of-agree m n (λ i j. has L i j && not (has r i j)) (λ i j. not (has r i j)) (λ i j a b. ap (λ x. x && not (has r i j)) (has-relation_of m n (λ i j. true) i j a b))
    ∙ relation_of-sizes m n r.rows r.cols (λ i j. not (has r i j)) (sym e) (sym f)

pub rows-transpose : (r : Relation) → (transpose r).rows ≡ r.cols
unfolding transpose
rows-transpose r = rows-relation_of r.cols r.rows _

pub cols-transpose : (r : Relation) → (transpose r).cols ≡ r.rows
unfolding transpose
cols-transpose r = cols-relation_of r.cols r.rows _

-- a relation transposed twice is itself
pub transpose-transpose : (r : Relation) → IsRelation r → transpose (transpose r) ≡ r
unfolding transpose
transpose-transpose r v =
    let T = relation_of r.cols r.rows (λ i j. has r j i) in
    relation_of-sizes T.cols T.rows r.rows r.cols (λ i j. has T j i) (cols-relation_of r.cols r.rows _) (rows-relation_of r.cols r.rows _)
    ∙ relation_of-agree r.rows r.cols (λ i j. has T j i) (has r) (λ i j a b. has-relation_of r.cols r.rows (λ i j. has r j i) j i b a)
    ∙ sym (of_itself r v)

pub IsRelation-transpose : (r : Relation) → IsRelation (transpose r)
unfolding transpose
IsRelation-transpose r = IsRelation-relation_of r.cols r.rows _

pub IsRelation-transposed_by : (n : ℕ) (r : Relation) → IsRelation r → IsRelation (transposed_by n r)
IsRelation-transposed_by zero r v = v
IsRelation-transposed_by (suc n) r v = IsRelation-transpose (transposed_by n r)

-- an even number of transpositions changes nothing
pub transposed_by-even : (k : ℕ) (r : Relation) → IsRelation r → transposed_by (k + k) r ≡ r
transposed_by-even zero r v = refl
transposed_by-even (suc k) r v =
    let e : suc k + suc k ≡ suc (suc (k + k)) = omega arith in
    ap (λ n. transposed_by n r) e ∙ transpose-transpose (transposed_by (k + k) r) (IsRelation-transposed_by (k + k) r v) ∙ transposed_by-even k r v

pub transposed_by-odd : (k : ℕ) (r : Relation) → IsRelation r → transposed_by (k + k + 1) r ≡ transpose r
transposed_by-odd k r v =
    let e : k + k + 1 ≡ suc (k + k) = omega arith in
    ap (λ n. transposed_by n r) e ∙ ap transpose (transposed_by-even k r v)
