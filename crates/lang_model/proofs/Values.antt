-- A calm tree whose types fit has a value, whatever the turns: the relation that its operators make of those of its
-- names. Its static type is that of this value.
use Rattle.std.proofs.Common.{◌≡◌, ◌∙◌, ◌==◌, ◌++◌, ℕ, zero, suc, Bool, true, false, cond, List, [], ◌∷◌, Option, Some, None, IfSome, option_map, refl, sym, ap}
use Rattle.std.proofs.lemmas.Bool.{and_parts, false≢true}
use Rattle.lang_model.specs.declared.syntax.Place.{Place}
use Rattle.lang_model.specs.declared.syntax.Base.{Base}
use Rattle.lang_model.specs.declared.syntax.Base.TheVariants.{Syq}
use Rattle.lang_model.specs.declared.syntax.Op2.{Op2}
use Rattle.lang_model.specs.declared.syntax.Op2.TheVariants.{Or, And, Times, Under, Over}
use Rattle.lang_model.specs.declared.faults.StaticShape.{StaticShape}
use Rattle.lang_model.specs.declared.faults.TypeFault.TheVariants.{Mismatch}
use Rattle.rel_model.specs.Relation.{Relation, IsRelation, relation_of}
use Rattle.rel_model.specs.Operators.{empty, union, inter, complement, transpose, transposed_by, compose, right_residual, left_residual, symmetric_quotient}
use Rattle.rel_model.proofs.Relations.{IsRelation-relation_of}
use Rattle.rel_model.proofs.OperatorLaws.{IsRelation-transposed_by}
use Rattle.lang_model.specs.State.{State}
use Rattle.lang_model.specs.Trees.{Tree, NameTree, CallTree, BaseTree, InjectTree, PairTree, MinusTree, TurnedTree, ChainTree, Trees, NoTree, MoreTrees, Branches, NoBranch, MoreBranches}
use Rattle.lang_model.specs.Outcomes.{Got, following, and_then, Makes, with_turns}
use Rattle.lang_model.specs.Rooms.{link_cost}
use Rattle.lang_model.specs.BaseNames.{base_text}
use Rattle.lang_model.specs.Types.{Fits, Misfit, sizes, type_of, takes, type_of_link, type_turned_by, type_turned, typed_link, spelling}
use Rattle.lang_model.specs.Mean.{Around, fitting, linked, based, base_made_of_two, complemented, turned, named, mean_tree, mean_trees, mean_branches, result_of_both}
use Rattle.lang_model.specs.Shape.{AroundTypes, passing, typed_name, typed_based, shape_tree, shape_trees, shape_branches}
use Rattle.lang_model.specs.Eval.{types_in}
use Rattle.lang_model.specs.Calm.{AreRelations}
use Rattle.lang_model.specs.Rewriting.{is_quotient, is_calm, are_calm, are_calm_along}
use Rattle.lang_model.proofs.Sounding.{passes, fits_same}

-- ---- values
-- the relation of a name, and the empty one where it has none
abbrev pub value_named : Option Relation → Relation
value_named None = empty 0 0
value_named (Some r) = r

-- the symmetric quotient of two
abbrev pub value_of_quotient : List Relation → Relation
value_of_quotient (r ∷ s ∷ []) = symmetric_quotient r s
value_of_quotient _ = empty 0 0

abbrev mutual
  pub value : State → Tree → Relation
  value S (NameTree at name) = value_named (S name)
  value S (CallTree at name args) = empty 0 0
  value S (BaseTree at base args) = value_of_quotient (values S args)
  value S (InjectTree at base domain) = empty 0 0
  value S (PairTree at left right) = empty 0 0
  value S (MinusTree at of) = complement (value S of)
  value S (TurnedTree at of times) = transposed_by times (value S of)
  value S (ChainTree first links) = value_along S (value S first) links

  pub values : State → Trees → List Relation
  values S NoTree = []
  values S (MoreTrees t args) = value S t ∷ values S args

  -- that of links behind a value so far, from left to right
  pub value_along : State → Relation → Branches → Relation
  value_along S r NoBranch = r
  value_along S r (MoreBranches at op right links) = value_along S (result_of_both op r (value S right)) links

-- ---- trees that have one
-- a name has a relation
abbrev pub IsNamed : Option Relation → Type 0
IsNamed None = ⊥
IsNamed (Some r) = IsRelation r

-- the operands of a symmetric quotient have as many rows
abbrev pub Quotes : List Relation → Type 0
Quotes (r ∷ s ∷ []) = (r.rows == s.rows) ≡ true
Quotes _ = Unit {0}

-- the types of a calm tree fit
abbrev mutual
  pub HasValue : State → Tree → Type 0
  HasValue S (NameTree at name) = IsNamed (S name)
  HasValue S (CallTree at name args) = ⊥
  HasValue S (BaseTree at base args) = (is_quotient base ≡ true) × (HaveValues S args × Quotes (values S args))
  HasValue S (InjectTree at base domain) = ⊥
  HasValue S (PairTree at left right) = ⊥
  HasValue S (MinusTree at of) = HasValue S of
  HasValue S (TurnedTree at of times) = HasValue S of
  HasValue S (ChainTree first links) = HasValue S first × HaveValue S (value S first) links

  pub HaveValues : State → Trees → Type 0
  HaveValues S NoTree = Unit {0}
  HaveValues S (MoreTrees t args) = HasValue S t × HaveValues S args

  -- those of links behind a value so far
  pub HaveValue : State → Relation → Branches → Type 0
  HaveValue S r NoBranch = Unit {0}
  HaveValue S r (MoreBranches at op right links) =
      HasValue S right × ((takes op (sizes r) (sizes (value S right)) ≡ true)
      × HaveValue S (result_of_both op r (value S right)) links)

-- ---- single operations
valid-both : (op : Op2) (r s : Relation) → IsRelation (result_of_both op r s)
unfolding union inter compose right_residual left_residual
valid-both Or r s = IsRelation-relation_of _ _ _
valid-both And r s = IsRelation-relation_of _ _ _
valid-both Times r s = IsRelation-relation_of _ _ _
valid-both Under r s = IsRelation-relation_of _ _ _
valid-both Over r s = IsRelation-relation_of _ _ _

valid-empty : IsRelation (empty 0 0)
unfolding empty
valid-empty = IsRelation-relation_of _ _ _

valid-quotient : (rs : List Relation) → IsRelation (value_of_quotient rs)
unfolding symmetric_quotient
valid-quotient [] = valid-empty
valid-quotient (r ∷ []) = valid-empty
valid-quotient (r ∷ s ∷ []) = IsRelation-relation_of _ _ _
valid-quotient (r ∷ s ∷ t ∷ ts) = valid-empty

valid-complement : (r : Relation) → IsRelation (complement r)
unfolding complement
valid-complement r = IsRelation-relation_of _ _ _

pub sizes-complement : (r : Relation) → sizes (complement r) ≡ sizes r
unfolding complement relation_of
sizes-complement r = refl

pub sizes-transpose : (r : Relation) → sizes (transpose r) ≡ type_turned (sizes r)
unfolding transpose relation_of
sizes-transpose r = refl

sizes-turned : (n : ℕ) (r : Relation) → sizes (transposed_by n r) ≡ type_turned_by n (sizes r)
sizes-turned zero r = refl
sizes-turned (suc n) r = sizes-transpose (transposed_by n r) ∙ ap type_turned (sizes-turned n r)

-- an operator's result has the sizes that its type makes of the operands' sizes, operator by operator
sizes-both : (op : Op2) (r s : Relation) → sizes (result_of_both op r s) ≡ type_of_link op (sizes r) (sizes s)
unfolding union inter compose right_residual left_residual relation_of
sizes-both Or r s = refl
sizes-both And r s = refl
sizes-both Times r s = refl
sizes-both Under r s = refl
sizes-both Over r s = refl

-- the types of relations
abbrev types_of_all : List Relation → List StaticShape
types_of_all [] = []
types_of_all (r ∷ rs) = sizes r ∷ types_of_all rs

types_of_more : (rs : List Relation) (r : Relation) → types_of_all (rs ++ r ∷ []) ≡ types_of_all rs ++ sizes r ∷ []
types_of_more [] r = refl
types_of_more (x ∷ xs) r = ap (λ ts. sizes x ∷ ts) (types_of_more xs r)

append-more : (rs : List Relation) (r : Relation) (ts : List Relation) → (rs ++ r ∷ []) ++ ts ≡ rs ++ r ∷ ts
append-more [] r ts = refl
append-more (x ∷ xs) r ts = ap (λ ys. x ∷ ys) (append-more xs r ts)

append-none : (rs : List Relation) → rs ++ [] ≡ rs
append-none [] = refl
append-none (x ∷ xs) = ap (λ ys. x ∷ ys) (append-none xs)

-- ---- a symmetric quotient
typed-quotient : (at : Place) (base : Base) → is_quotient base ≡ true → (rs : List Relation) → Quotes rs
    → typed_based at base (types_of_all rs) ≡ Fits (sizes (value_of_quotient rs))
unfolding typed_based symmetric_quotient empty relation_of
typed-quotient at Syq e [] q = refl
typed-quotient at Syq e (r ∷ []) q = refl
typed-quotient at Syq e (r ∷ s ∷ []) q = ap (λ b. cond b (Fits (type_of (Some r.cols) (Some s.cols)))
    (Misfit (Mismatch at (base_text Syq) (sizes r) (sizes s)))) q
typed-quotient at Syq e (r ∷ s ∷ t ∷ ts) q = refl
typed-quotient at base e rs q = absurd (false≢true e)

based-quotient : (at : Place) (base : Base) → is_quotient base ≡ true → (rs : List Relation) → Quotes rs → (n : ℕ)
    → (with_turns (based at base rs) n).answer ≡ Got (value_of_quotient rs) n
unfolding based
based-quotient at Syq e [] q n = refl
based-quotient at Syq e (r ∷ []) q n = refl
based-quotient at Syq e (r ∷ s ∷ []) q n = ap (λ b. (with_turns
    (fitting (cond b (Fits (type_of (Some r.cols) (Some s.cols)))
    (Misfit (Mismatch at (base_text Syq) (sizes r) (sizes s)))) (base_made_of_two Syq r s)) n).answer) q
based-quotient at Syq e (r ∷ s ∷ t ∷ ts) q n = refl
based-quotient at base e rs q n = absurd (false≢true e)

-- types that passed say that the rows are as many
quotes-from : (at : Place) (base : Base) → is_quotient base ≡ true → (rs : List Relation) (s : StaticShape)
    → typed_based at base (types_of_all rs) ≡ Fits s → Quotes rs
unfolding typed_based
quotes-from at Syq e [] s h = tt
quotes-from at Syq e (r ∷ []) s h = tt
quotes-from at Syq e (r ∷ q ∷ []) s h = by (r.rows == q.rows) h
  where
    by : (b : Bool) → cond b (Fits (type_of (Some r.cols) (Some q.cols)))
        (Misfit (Mismatch at (base_text Syq) (sizes r) (sizes q))) ≡ Fits s → b ≡ true
    by true h = refl
    by false h = absurd (let z : Misfit (Mismatch at (base_text Syq) (sizes r) (sizes q)) ≡ Fits s = h in cc)
quotes-from at Syq e (r ∷ q ∷ t ∷ ts) s h = tt
quotes-from at base e rs s h = absurd (false≢true e)

-- ---- links
typed-both : (at : Place) (op : Op2) (r s : Relation) → takes op (sizes r) (sizes s) ≡ true
    → typed_link at op (sizes r) (sizes s) ≡ Fits (sizes (result_of_both op r s))
typed-both at op r s h = ap (λ b. cond b (Fits (type_of_link op (sizes r) (sizes s)))
    (Misfit (Mismatch at (spelling op) (sizes r) (sizes s)))) h ∙ ap Fits (sym (sizes-both op r s))

linked-both : (at : Place) (op : Op2) (r s : Relation) → takes op (sizes r) (sizes s) ≡ true
    → linked at op r s ≡ Makes (result_of_both op r s) (link_cost op r s)
unfolding linked
linked-both at op r s h = ap (λ b. fitting (cond b (Fits (type_of_link op (sizes r) (sizes s)))
    (Misfit (Mismatch at (spelling op) (sizes r) (sizes s)))) (Makes (result_of_both op r s) (link_cost op r s))) h

takes-from : (at : Place) (op : Op2) (s t u : StaticShape) → typed_link at op s t ≡ Fits u → takes op s t ≡ true
takes-from at op s t u h = by (takes op s t) h
  where
    by : (b : Bool) → cond b (Fits (type_of_link op s t)) (Misfit (Mismatch at (spelling op) s t)) ≡ Fits u → b ≡ true
    by true h = refl
    by false h = absurd (let z : Misfit (Mismatch at (spelling op) s t) ≡ Fits u = h in cc)

complement_made : (r : Relation) (n : ℕ) → (with_turns (complemented r) n).answer ≡ Got (complement r) n
unfolding complemented
complement_made r n = refl

-- turning a relation transposes it as many times: nothing is refused, and no turn of a loop is spent
turned_made : (times : ℕ) (r : Relation) (n : ℕ) → (with_turns (turned times r) n).answer ≡ Got
    (transposed_by times r) n
unfolding turned
turned_made times r n = refl

-- ---- trees
module _ (S : State) where
  mutual
    pub valid-value : (t : Tree) → HasValue S t → IsRelation (value S t)
    valid-value (NameTree at name) h = at_name (S name) h
      where
        at_name : (o : Option Relation) → IsNamed o → IsRelation (value_named o)
        at_name None h = absurd h
        at_name (Some r) h = h
    valid-value (CallTree at name args) h = absurd h
    valid-value (BaseTree at base args) h = valid-quotient (values S args)
    valid-value (InjectTree at base domain) h = absurd h
    valid-value (PairTree at left right) h = absurd h
    valid-value (MinusTree at of) h = valid-complement (value S of)
    valid-value (TurnedTree at of times) h = IsRelation-transposed_by times (value S of) (valid-value of h)
    valid-value (ChainTree first links) h = valid-along links (value S first) (valid-value first h.0)

    valid-along : (links : Branches) (r : Relation) → IsRelation r → IsRelation (value_along S r links)
    valid-along NoBranch r v = v
    valid-along (MoreBranches at op right links) r v = valid-along links (result_of_both op r (value S right))
        (valid-both op r (value S right))

  -- its static type is that of the value
  module _ (A : AroundTypes) where
    mutual
      pub shape-value : (t : Tree) → HasValue S t → shape_tree A (types_in S) t ≡ Fits (sizes (value S t))
      shape-value (NameTree at name) h = at_name (S name) h
        where
          at_name : (o : Option Relation) → IsNamed o → typed_name at name (option_map sizes o) ≡ Fits
              (sizes (value_named o))
          at_name None h = absurd h
          at_name (Some r) h = refl
      shape-value (CallTree at name args) h = absurd h
      shape-value (BaseTree at base args) h =
          ap (λ p. passing p (λ ts. typed_based at base ts)) (shapes-value args [] (let k = h.1 in k.0))
          ∙ typed-quotient at base h.0 (values S args) (let k = h.1 in k.1)
      shape-value (InjectTree at base domain) h = absurd h
      shape-value (PairTree at left right) h = absurd h
      shape-value (MinusTree at of) h = shape-value of h ∙ ap Fits (sym (sizes-complement (value S of)))
      shape-value (TurnedTree at of times) h =
          ap (λ p. passing p (λ s. Fits (type_turned_by times s))) (shape-value of h)
          ∙ ap Fits (sym (sizes-turned times (value S of)))
      shape-value (ChainTree first links) h =
          ap (λ p. passing p (λ t. shape_branches A (types_in S) t links)) (shape-value first h.0)
          ∙ shape_along-value links (value S first) h.1

      shapes-value : (args : Trees) (rs : List Relation) → HaveValues S args
          → shape_trees A (types_in S) (types_of_all rs) args ≡ Fits (types_of_all (rs ++ values S args))
      shapes-value NoTree rs h = ap (λ xs. Fits (types_of_all xs)) (sym (append-none rs))
      shapes-value (MoreTrees t args) rs h =
          ap (λ p. passing p (λ s. shape_trees A (types_in S) (types_of_all rs ++ s ∷ []) args)) (shape-value t h.0)
          ∙ ap (λ ss. shape_trees A (types_in S) ss args) (sym (types_of_more rs (value S t)))
          ∙ shapes-value args (rs ++ value S t ∷ []) h.1
          ∙ ap (λ xs. Fits (types_of_all xs)) (append-more rs (value S t) (values S args))

      shape_along-value : (links : Branches) (r : Relation) → HaveValue S r links
          → shape_branches A (types_in S) (sizes r) links ≡ Fits (sizes (value_along S r links))
      shape_along-value NoBranch r h = refl
      shape_along-value (MoreBranches at op right links) r h =
          let k = h.1 in
          ap (λ p. passing p (λ t. passing (typed_link at op (sizes r) t) (λ u. shape_branches A (types_in S) u links)))
          (shape-value right h.0)
          ∙ ap (λ p. passing p (λ u. shape_branches A (types_in S) u links)) (typed-both at op r (value S right) k.0)
          ∙ shape_along-value links (result_of_both op r (value S right)) k.1

    -- a calm tree that has a static type has a value
    module _ (valid : AreRelations S) where
      mutual
        pub value-from : (t : Tree) → is_calm t ≡ true → (s : StaticShape) → shape_tree A (types_in S) t ≡ Fits s
            → HasValue S t
        value-from (NameTree at name) c s h = at_name (S name) (valid name) h
          where
            at_name : (o : Option Relation) → IfSome o IsRelation → typed_name at name (option_map sizes o) ≡ Fits s
                → IsNamed o
            at_name None v h = absurd (let z : Misfit _ ≡ Fits s = h in cc)
            at_name (Some r) v h = v
        value-from (CallTree at name args) c s h = absurd (false≢true c)
        value-from (BaseTree at base args) c s h =
            let k = and_parts _ _ c in
            let p = passes _ _ s h in
            let v = values-from args k.1 [] p.through p.first in (
              k.0,
              (
                v,
                quotes-from at base k.0 (values S args) s
                    (ap (typed_based at base) (fits_same (sym (shapes-value args [] v) ∙ p.first)) ∙ p.then),
              ),
            )
        value-from (InjectTree at base domain) c s h = absurd (false≢true c)
        value-from (PairTree at left right) c s h = absurd (false≢true c)
        value-from (MinusTree at of) c s h = value-from of c s h
        value-from (TurnedTree at of times) c s h = let p = passes _ _ s h in value-from of c p.through p.first
        value-from (ChainTree first links) c s h =
            let k = and_parts _ _ c in
            let p = passes _ _ s h in
            let v = value-from first k.0 p.through p.first in (
              v,
              value_along-from links k.1 (value S first) s
                  (ap (λ t. shape_branches A (types_in S) t links) (fits_same (sym (shape-value first v) ∙ p.first))
                  ∙ p.then),
            )

        values-from : (args : Trees) → are_calm args ≡ true → (ss : List StaticShape) (ts : List StaticShape)
            → shape_trees A (types_in S) ss args ≡ Fits ts → HaveValues S args
        values-from NoTree c ss ts h = tt
        values-from (MoreTrees t args) c ss ts h =
            let k = and_parts _ _ c in
            let p = passes _ _ ts h in
            (value-from t k.0 p.through p.first, values-from args k.1 (ss ++ p.through ∷ []) ts p.then)

        value_along-from : (links : Branches) → are_calm_along links ≡ true → (r : Relation) (s : StaticShape)
            → shape_branches A (types_in S) (sizes r) links ≡ Fits s → HaveValue S r links
        value_along-from NoBranch c r s h = tt
        value_along-from (MoreBranches at op right links) c r s h =
            let k = and_parts _ _ c in
            let p = passes _ _ s h in
            let q = passes _ _ s p.then in
            let v = value-from right k.0 p.through p.first in
            let same : sizes (value S right) ≡ p.through = fits_same (sym (shape-value right v) ∙ p.first) in
            let fit = takes-from at op (sizes r) (sizes (value S right)) q.through
            (ap (typed_link at op (sizes r)) same ∙ q.first) in
            let type : sizes (result_of_both op r (value S right)) ≡ q.through = fits_same
            (sym (typed-both at op r (value S right) fit) ∙ ap (typed_link at op (sizes r)) same ∙ q.first) in (
              v,
              (
                fit,
                value_along-from links k.1 (result_of_both op r (value S right)) s
                    (ap (λ t. shape_branches A (types_in S) t links) type ∙ q.then),
              ),
            )

  -- it comes to the value
  module _ (B : Around) where
    mutual
      pub mean-value : (t : Tree) → HasValue S t → (n : ℕ) → (mean_tree B S t n).answer ≡ Got (value S t) n
      mean-value (NameTree at name) h n = at_name (S name) h
        where
          at_name : (o : Option Relation) → IsNamed o → (with_turns (named at name o) n).answer ≡ Got (value_named o) n
          at_name None h = absurd h
          at_name (Some r) h = refl
      mean-value (CallTree at name args) h n = absurd h
      mean-value (BaseTree at base args) h n =
          let k = h.1 in
          ap (λ a. (following a (λ vs m. with_turns (based at base vs) m)).answer) (means-value args [] k.0 n)
          ∙ based-quotient at base h.0 (values S args) k.1 n
      mean-value (InjectTree at base domain) h n = absurd h
      mean-value (PairTree at left right) h n = absurd h
      mean-value (MinusTree at of) h n = ap (λ a. (following a (λ r m. with_turns (complemented r) m)).answer)
          (mean-value of h n) ∙ complement_made (value S of) n
      mean-value (TurnedTree at of times) h n = ap (λ a. (following a (λ r m. with_turns (turned times r) m)).answer)
          (mean-value of h n) ∙ turned_made times (value S of) n
      mean-value (ChainTree first links) h n = ap (λ a. (following a (λ r m. mean_branches B S r links m)).answer)
          (mean-value first h.0 n) ∙ mean_along-value links (value S first) h.1 n

      means-value : (args : Trees) (rs : List Relation) → HaveValues S args → (n : ℕ)
          → (mean_trees B S rs args n).answer ≡ Got (rs ++ values S args) n
      means-value NoTree rs h n = ap (λ xs. Got xs n) (sym (append-none rs))
      means-value (MoreTrees t args) rs h n =
          ap (λ a. (following a (λ r m. mean_trees B S (rs ++ r ∷ []) args m)).answer) (mean-value t h.0 n)
          ∙ means-value args (rs ++ value S t ∷ []) h.1 n
          ∙ ap (λ xs. Got xs n) (append-more rs (value S t) (values S args))

      mean_along-value : (links : Branches) (r : Relation) → HaveValue S r links → (n : ℕ)
          → (mean_branches B S r links n).answer ≡ Got (value_along S r links) n
      mean_along-value NoBranch r h n = refl
      mean_along-value (MoreBranches at op right links) r h n =
          let k = h.1 in
          ap (λ a. (following a (λ q m. and_then (with_turns (linked at op r q) m)
          (λ t j. mean_branches B S t links j))).answer) (mean-value right h.0 n)
          ∙ ap (λ o. (following (with_turns o n).answer (λ t j. mean_branches B S t links j)).answer)
          (linked-both at op r (value S right) k.0)
          ∙ mean_along-value links (result_of_both op r (value S right)) k.1 n
