-- The lists that the plain worker makes are the relations of the algebra's operators.
use Rattle.std.proofs.Common.{◌≡◌, ◌&&◌, ◌||◌, not, ℕ, Bool, true, false, eqb, [], ◌∷◌, refl, sym, ap, subst, ◌∙◌, inl, inr}
use Rattle.std.specs.Prelude.{IfOk, Result}
use Rattle.std.proofs.lemmas.Bool.{cases_eq, eq-eqb, ne_eqb}
use Rattle.rel_model.specs.declared.Rel.{Rel}
use Rattle.rel_model.specs.Relation.{Relation, has, relation_of}
use Rattle.rel_model.specs.Operators.{empty, single, union, inter, diff}
use Rattle.rel_model.specs.Worker.{Worker, Gives}
use Rattle.rel_model.proofs.Relations.{relation_of-agree}
use Rattle.rel_plain.specs.Merge.{picked}
use Rattle.rel_plain.proofs.Stored.{stored}

-- the sizes of a relation in place of its own
pub sized : (m n : ℕ) (a : Relation) (t : ℕ → ℕ → Bool) → a.rows ≡ m → a.cols ≡ n → relation_of m n t ≡ relation_of a.rows a.cols t
sized m n a t e f = ap (λ x. relation_of x n t) (sym e) ∙ ap (λ y. relation_of a.rows y t) (sym f)

pub union_is : (m n : ℕ) (a b : Relation) → a.rows ≡ m → a.cols ≡ n → relation_of m n (λ i j. picked (record { left = true; both = true; right = true }) (has a i j) (has b i j)) ≡ union a b
unfolding union
union_is m n a b e f = relation_of-agree m n _ _ (λ i j _ _. law (has a i j) (has b i j)) ∙ sized m n a _ e f
  where
    law : (x y : Bool) → picked (record { left = true; both = true; right = true }) x y ≡ (x || y)
    law true true = refl
    law true false = refl
    law false true = refl
    law false false = refl

pub inter_is : (m n : ℕ) (a b : Relation) → a.rows ≡ m → a.cols ≡ n → relation_of m n (λ i j. picked (record { left = false; both = true; right = false }) (has a i j) (has b i j)) ≡ inter a b
unfolding inter
inter_is m n a b e f = relation_of-agree m n _ _ (λ i j _ _. law (has a i j) (has b i j)) ∙ sized m n a _ e f
  where
    law : (x y : Bool) → picked (record { left = false; both = true; right = false }) x y ≡ (x && y)
    law true true = refl
    law true false = refl
    law false true = refl
    law false false = refl

pub diff_is : (m n : ℕ) (a b : Relation) → a.rows ≡ m → a.cols ≡ n → relation_of m n (λ i j. picked (record { left = true; both = false; right = false }) (has a i j) (has b i j)) ≡ diff a b
unfolding diff
diff_is m n a b e f = relation_of-agree m n _ _ (λ i j _ _. law (has a i j) (has b i j)) ∙ sized m n a _ e f
  where
    law : (x y : Bool) → picked (record { left = true; both = false; right = false }) x y ≡ (x && not y)
    law true true = refl
    law true false = refl
    law false true = refl
    law false false = refl

pub empty_is : (m n : ℕ) → relation_of m n (has (stored m n [])) ≡ empty m n
unfolding empty
empty_is m n = refl

eqb_sym : (a b : ℕ) → eqb a b ≡ eqb b a
eqb_sym a b = elim (cases_eq a b) [ inl e ↦ eq-eqb a b e ∙ sym (eq-eqb b a (sym e)) | inr n ↦ ne_eqb a b n ∙ sym (ne_eqb b a (λ e. n (sym e))) ]

pub single_is : (m n x y : ℕ) → relation_of m n (has (stored m n ((x, y) ∷ []))) ≡ single m n x y
unfolding single
single_is m n x y = relation_of-agree m n _ _ (λ i j _ _. or_nothing (eqb x i && eqb y j) ∙ ap (λ b. b && eqb y j) (eqb_sym x i) ∙ ap (λ b. eqb i x && b) (eqb_sym y j))
  where
    or_nothing : (b : Bool) → (b || false) ≡ b
    or_nothing true = refl
    or_nothing false = refl

-- the value of an answer in other words
pub gives_same : (w : Worker) (m n : ℕ) {E : Type 0} (r : Result Rel E) (a b : Relation) → a ≡ b → IfOk r (Gives w m n a) → IfOk r (Gives w m n b)
gives_same w m n r a b e h = subst (λ v. IfOk r (Gives w m n v)) e h
