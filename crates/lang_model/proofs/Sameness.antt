-- What stands at the parts of a rule, and trees that are one up to places: they have one value, by induction on the
-- tree.
use Rattle.std.proofs.Common.{◌≡◌, ◌≢◌, ◌∙◌, Bool, true, false, cond, ◌∷◌, Option, Some, None, refl, sym, ap}
use Rattle.std.proofs.lemmas.Bool.{and_parts, eqb-true, false≢true}
use Rattle.std.specs.Cmp.Lexicographic.{same_text as text_of_test}
use Rattle.lang_model.specs.declared.syntax.Op2.{Op2}
use Rattle.lang_model.specs.declared.syntax.Op2.TheVariants.{Or, And, Times, Under, Over}
use Rattle.rel_model.specs.Relation.{Relation}
use Rattle.rel_model.specs.Operators.{complement, transposed_by}
use Rattle.lang_model.specs.State.{State}
use Rattle.lang_model.specs.Trees.{Tree, NameTree, CallTree, BaseTree, InjectTree, PairTree, MinusTree, TurnedTree, ChainTree, Trees, NoTree, MoreTrees, Branches, NoBranch, MoreBranches}
use Rattle.lang_model.specs.Mean.{result_of_both}
use Rattle.lang_model.specs.Rewriting.{same_operator, same_tree, same_trees, same_branches, where_some}
use Rattle.lang_model.proofs.Values.{value, values, value_along, value_named, value_of_quotient}

pub record Found {A B : Type 0} (o : Option A) (f : A → Option B) (y : B) : Type 0 where
  pub at : A
  pub first : o ≡ Some at
  pub then : f at ≡ Some y

pub found : {A B : Type 0} (o : Option A) (f : A → Option B) (y : B) → where_some o f ≡ Some y → Found o f y
found None f y h = absurd (let z : None ≡ Some y = h in cc)
found (Some x) f y h = record { at = x; first = refl; then = h }

-- what is given where a test passes
pub passed : {A : Type 0} (b : Bool) (o : Option A) (y : A) → cond b o None ≡ Some y → (b ≡ true) × (o ≡ Some y)
passed true o y h = (refl, h)
passed false o y h = absurd (let z : None ≡ Some y = h in cc)

pub same_some : {A : Type 0} {x y : A} → Some x ≡ Some y → x ≡ y
same_some e = cc

-- operators that are one
pub same_op : (a b : Op2) → same_operator a b ≡ true → a ≡ b
same_op Or Or h = refl
same_op And And h = refl
same_op Times Times h = refl
same_op Under Under h = refl
same_op Over Over h = refl
same_op a b h = absurd (false≢true h)

module _ (S : State) where
  -- trees that are one up to places have one value
  mutual
    pub same_value : (t u : Tree) → same_tree t u ≡ true → value S t ≡ value S u
    same_value (NameTree at name) (NameTree there other) h = ap (λ n. value_named (S n))
        (text_of_test name other (sym h))
    same_value (CallTree at name args) (CallTree there other others) h = refl
    same_value (BaseTree at base args) (BaseTree there other others) h = ap value_of_quotient
        (same_values args others (and_parts _ _ h).1)
    same_value (InjectTree at base domain) (InjectTree there other another) h = refl
    same_value (PairTree at left right) (PairTree there other another) h = refl
    same_value (MinusTree at of) (MinusTree there other) h = ap complement (same_value of other h)
    same_value (TurnedTree at of times) (TurnedTree there other signs) h =
        let k = and_parts _ _ h in
        (λ i. transposed_by (eqb-true times signs k.0 i) (same_value of other k.1 i))
    same_value (ChainTree first links) (ChainTree other others) h =
        let k = and_parts _ _ h in
        ap (λ r. value_along S r links) (same_value first other k.0) ∙ same_value_along links others k.1 (value S other)
    same_value t u h = absurd (false≢true h)

    same_values : (args others : Trees) → same_trees args others ≡ true → values S args ≡ values S others
    same_values NoTree NoTree h = refl
    same_values (MoreTrees t args) (MoreTrees u others) h =
        let k = and_parts _ _ h in
        (λ i. same_value t u k.0 i ∷ same_values args others k.1 i)
    same_values t u h = absurd (false≢true h)

    same_value_along : (links others : Branches) → same_branches links others ≡ true → (r : Relation)
        → value_along S r links ≡ value_along S r others
    same_value_along NoBranch NoBranch h r = refl
    same_value_along (MoreBranches at op right links) (MoreBranches there other another others) h r =
        let k = and_parts _ _ h in
        let j = and_parts _ _ k.1 in
        (λ i. value_along S (result_of_both (same_op op other k.0 i) r (same_value right another j.0 i)) links)
        ∙ same_value_along links others j.1 (result_of_both other r (value S another))
    same_value_along t u h r = absurd (false≢true h)
