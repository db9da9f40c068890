-- Each step keeps the static type and the meaning of the whole tree, where the types fit; and so does the calm tree.
use Rattle.std.proofs.Common.{◌≡◌, ◌∙◌, ◌++◌, ℕ, zero, suc, true, List, [], ◌∷◌, Option, Some, None, refl, sym, ap, subst, inl, inr}
use Rattle.std.proofs.lemmas.Bool.{and_from}
use Rattle.std.specs.List.{AllByRecursion}
use Rattle.std.specs.Cmp.Lexicographic.{nat_list_eq_equiv}
use Rattle.lang_model.specs.declared.syntax.Op2.{Op2}
use Rattle.lang_model.specs.declared.syntax.Op2.TheVariants.{Or, And, Times, Under, Over}
use Rattle.lang_model.specs.declared.faults.StaticShape.{StaticShape}
use Rattle.rel_model.specs.Relation.{Relation}
use Rattle.lang_model.specs.State.{State}
use Rattle.lang_model.specs.Limits.{rank_limit}
use Rattle.lang_model.specs.Tokens.{same_text}
use Rattle.lang_model.specs.BaseNames.{base_text}
use Rattle.lang_model.specs.Trees.{Tree, NameTree, CallTree, BaseTree, InjectTree, PairTree, MinusTree, TurnedTree, ChainTree, Trees, NoTree, MoreTrees, Branches, NoBranch, MoreBranches, tree_of}
use Rattle.lang_model.specs.Outcomes.{Answer, Got, Not, Came, following, and_then, with_turns}
use Rattle.lang_model.specs.Types.{Fits, sizes, typed_link, typed_pair, type_turned_by}
use Rattle.lang_model.specs.Mean.{Around, around_command, linked, based, paired, complemented, turned, mean_tree, mean_trees, mean_branches}
use Rattle.lang_model.specs.Shape.{AroundTypes, around_types, passing, typed_based, shape_tree, shape_trees, shape_branches, types_of_calls}
use Rattle.lang_model.specs.Eval.{types_in}
use Rattle.lang_model.specs.Calm.{AreRelations, CalmMeansTheSame, StepsAreSteps}
use Rattle.lang_model.specs.Rewriting.{Step, same_operator, same_tree, same_trees, same_branches, numbered, least_rule, result_of_rule, is_result, is_step, here, inside, next_step, next_in, next_along, weight, steps_within, steps_behind, steps_of, calm_within, calm_behind, calmed}
use Rattle.lang_model.proofs.Sounding.{passes}
use Rattle.lang_model.proofs.Sizes.{equal_passes}
use Rattle.lang_model.proofs.Values.{value, HasValue, shape-value, value-from, mean-value}
use Rattle.lang_model.proofs.Sameness.{same_some}
use Rattle.lang_model.proofs.Ruling.{Means, one, turns, again, right_residual_rule, left_residual_rule, product_rule, turned_rule, negated_rule, quotient_rule}
use Rattle.lang_model.proofs.Repeats.{repeats_rule}
use Rattle.lang_model.proofs.Lighter.{least_by, at_node, in_part}

-- the rule of the least number keeps the value
least_means : (S : State) (t : Tree) (x : ℕ × Tree) → HasValue S t → least_rule t ≡ Some x → Means S x.1 (value S t)
least_means S t x v = least_by (λ u. Means S u (value S t)) t x
    (λ u. one S t u v) (λ u. turns S t u v) (λ u. again S t u v) (λ u. repeats_rule S t u v)
    (λ u. right_residual_rule S t u v)
    (λ u. left_residual_rule S t u v) (λ u. product_rule S t u v) (λ u. turned_rule S t u v) (λ u. negated_rule S t u v)
    (λ u. quotient_rule S t u v)

-- one answer after another, where the first is the same
following_same : {T U : Type 0} {a b : Answer T} (f : T → ℕ → Came U) → a ≡ b
    → (following a f).answer ≡ (following b f).answer
following_same f e = ap (λ x. (following x f).answer) e

-- and where what follows is the same
following_each : {T U : Type 0} (a : Answer T) (f g : T → ℕ → Came U)
    → ((x : T) (n : ℕ) → (f x n).answer ≡ (g x n).answer) → (following a f).answer ≡ (following a g).answer
following_each (Got x n) f g h = h x n
following_each (Not why) f g h = refl

module _ (S : State) (valid : AreRelations S) (A : AroundTypes) (B : Around) where
  -- the static type and the meaning stay
  record Kept (t u : Tree) (s : StaticShape) : Type 0 where
    pub type : shape_tree A (types_in S) u ≡ Fits s
    pub mean : (n : ℕ) → (mean_tree B S u n).answer ≡ (mean_tree B S t n).answer

  record KeptIn (args others : Trees) (ss : List StaticShape) (ts : List StaticShape) : Type 0 where
    pub types : shape_trees A (types_in S) ss others ≡ Fits ts
    pub means : (rs : List Relation) (n : ℕ) → (mean_trees B S rs others n).answer ≡ (mean_trees B S rs args n).answer

  record KeptAlong (links others : Branches) (s : StaticShape) (t : StaticShape) : Type 0 where
    pub type : shape_branches A (types_in S) s others ≡ Fits t
    pub mean : (r : Relation) (n : ℕ) → (mean_branches B S r others n).answer ≡ (mean_branches B S r links n).answer

  -- a step at a node keeps its type and meaning: a calm node whose types fit has a value, and the rule keeps that value
  kept_here : (t : Tree) (x : Step × Tree) (s : StaticShape) → here t ≡ Some x → shape_tree A (types_in S) t ≡ Fits s
      → Kept t x.1 s
  kept_here t x s h f =
      let n = at_node t x h in
      let v = value-from S A valid t n.calm s f in
      let m = least_means S t n.rule v n.least in
      let u = (n.rule).1 in
      subst (λ y. Kept t y s) n.after
      (record {
        type = shape-value S A u m.has ∙ ap (λ r. Fits (sizes r)) m.value ∙ sym (shape-value S A t v) ∙ f;
        mean = λ n. mean-value S B u m.has n ∙ ap (λ r. Got r n) m.value ∙ sym (mean-value S B t v n);
      })

  mutual
    kept : (t : Tree) (x : Step × Tree) (s : StaticShape) → next_step t ≡ Some x → shape_tree A (types_in S) t ≡ Fits s
        → Kept t x.1 s
    kept (NameTree at name) x s h f = kept_here (NameTree at name) x s h f
    kept (CallTree at name args) x s h f = elim (in_part (CallTree at name) (next_in args)
        (here (CallTree at name args)) x h) [
          | inl p ↦ (
              let q = passes _ _ s f in
              let i = kept_in args p.part [] q.through p.first q.first in
              subst (λ y. Kept (CallTree at name args) y s) p.after (record {
                type = ap (λ z. passing z (λ ts. A.calls at name ts)) i.types ∙ q.then;
                mean = λ n. following_same (λ vs m. B.calls at name vs m) (i.means [] n);
              }))
          | inr q ↦ kept_here (CallTree at name args) x s q f
        ]
    kept (BaseTree at base args) x s h f = elim (in_part (BaseTree at base) (next_in args)
        (here (BaseTree at base args)) x h) [
          | inl p ↦ (
              let q = passes _ _ s f in
              let i = kept_in args p.part [] q.through p.first q.first in
              subst (λ y. Kept (BaseTree at base args) y s) p.after (record {
                type = ap (λ z. passing z (λ ts. typed_based at base ts)) i.types ∙ q.then;
                mean = λ n. following_same (λ vs m. with_turns (based at base vs) m) (i.means [] n);
              }))
          | inr q ↦ kept_here (BaseTree at base args) x s q f
        ]
    kept (InjectTree at base domain) x s h f = kept_here (InjectTree at base domain) x s h f
    kept (PairTree at left right) x s h f = elim (in_part (λ t. PairTree at t right) (next_step left)
        (inside (PairTree at left) (next_step right) (here (PairTree at left right))) x h) [
          | inl p ↦ (
              let q = passes _ _ s f in
              let i = kept left p.part q.through p.first q.first in
              subst (λ y. Kept (PairTree at left right) y s) p.after (record {
                type = ap (λ z. passing z (λ l. passing (shape_tree A (types_in S) right) (λ r. typed_pair at l r))) i.type
                    ∙ q.then;
                mean = λ n. following_same (λ r m. and_then (mean_tree B S right m) (λ o k. with_turns (paired at r o) k))
                    (i.mean n);
              }))
          | inr o ↦ elim (in_part (PairTree at left) (next_step right) (here (PairTree at left right)) x o) [
            | inl p ↦ (
                let q = passes _ _ s f in
                let r = passes _ _ s q.then in
                let i = kept right p.part r.through p.first r.first in
                subst (λ y. Kept (PairTree at left right) y s) p.after (record {
                  type = ap (λ z. passing z (λ l. passing (shape_tree A (types_in S) (p.part).1)
                      (λ r. typed_pair at l r))) q.first
                      ∙ ap (λ z. passing z (λ r. typed_pair at q.through r)) i.type ∙ r.then;
                  mean = λ n. following_each (mean_tree B S left n).answer _ _
                      (λ r m. following_same (λ o k. with_turns (paired at r o) k) (i.mean m));
                }))
            | inr q ↦ kept_here (PairTree at left right) x s q f
          ]
        ]
    kept (MinusTree at of) x s h f = elim (in_part (MinusTree at) (next_step of) (here (MinusTree at of)) x h) [
      | inl p ↦ (
          let i = kept of p.part s p.first f in
          subst (λ y. Kept (MinusTree at of) y s) p.after (record {
            type = i.type;
            mean = λ n. following_same (λ r m. with_turns (complemented r) m) (i.mean n);
          }))
      | inr q ↦ kept_here (MinusTree at of) x s q f
    ]
    kept (TurnedTree at of times) x s h f = elim (in_part (λ t. TurnedTree at t times) (next_step of)
        (here (TurnedTree at of times)) x h) [
          | inl p ↦ (
              let q = passes _ _ s f in
              let i = kept of p.part q.through p.first q.first in
              subst (λ y. Kept (TurnedTree at of times) y s) p.after (record {
                type = ap (λ z. passing z (λ u. Fits (type_turned_by times u))) i.type ∙ q.then;
                mean = λ n. following_same (λ r m. with_turns (turned times r) m) (i.mean n);
              }))
          | inr q ↦ kept_here (TurnedTree at of times) x s q f
        ]
    kept (ChainTree first links) x s h f = elim (in_part (λ t. ChainTree t links) (next_step first)
        (inside (ChainTree first) (next_along links) (here (ChainTree first links))) x h) [
          | inl p ↦ (
              let q = passes _ _ s f in
              let i = kept first p.part q.through p.first q.first in
              subst (λ y. Kept (ChainTree first links) y s) p.after (record {
                type = ap (λ z. passing z (λ u. shape_branches A (types_in S) u links)) i.type ∙ q.then;
                mean = λ n. following_same (λ r m. mean_branches B S r links m) (i.mean n);
              }))
          | inr o ↦ elim (in_part (ChainTree first) (next_along links) (here (ChainTree first links)) x o) [
            | inl p ↦ (
                let q = passes _ _ s f in
                let i = kept_along links p.part q.through s p.first q.then in
                subst (λ y. Kept (ChainTree first links) y s) p.after (record {
                  type = ap (λ z. passing z (λ u. shape_branches A (types_in S) u (p.part).1)) q.first ∙ i.type;
                  mean = λ n. following_each (mean_tree B S first n).answer _ _ (λ r m. i.mean r m);
                }))
            | inr q ↦ kept_here (ChainTree first links) x s q f
          ]
        ]

    kept_in : (args : Trees) (x : Step × Trees) (ss ts : List StaticShape) → next_in args ≡ Some x
        → shape_trees A (types_in S) ss args ≡ Fits ts → KeptIn args x.1 ss ts
    kept_in NoTree x ss ts h f = absurd (let z : None ≡ Some x = h in cc)
    kept_in (MoreTrees t args) x ss ts h f = elim (in_part (λ u. MoreTrees u args) (next_step t)
        (inside (MoreTrees t) (next_in args) None) x h) [
          | inl p ↦ (
              let q = passes _ _ ts f in
              let i = kept t p.part q.through p.first q.first in
              subst (λ y. KeptIn (MoreTrees t args) y ss ts) p.after (record {
                types = ap (λ z. passing z (λ u. shape_trees A (types_in S) (ss ++ u ∷ []) args)) i.type ∙ q.then;
                means = λ rs n. following_same (λ r m. mean_trees B S (rs ++ r ∷ []) args m) (i.mean n);
              }))
          | inr o ↦ elim (in_part (MoreTrees t) (next_in args) None x o) [
            | inl p ↦ (
                let q = passes _ _ ts f in
                let i = kept_in args p.part (ss ++ q.through ∷ []) ts p.first q.then in
                subst (λ y. KeptIn (MoreTrees t args) y ss ts) p.after (record {
                  types = ap (λ z. passing z (λ u. shape_trees A (types_in S) (ss ++ u ∷ []) (p.part).1)) q.first ∙ i.types;
                  means = λ rs n. following_each (mean_tree B S t n).answer _ _ (λ r m. i.means (rs ++ r ∷ []) m);
                }))
            | inr q ↦ absurd (let z : None ≡ Some x = q in cc)
          ]
        ]

    kept_along : (links : Branches) (x : Step × Branches) (s t : StaticShape) → next_along links ≡ Some x
        → shape_branches A (types_in S) s links ≡ Fits t → KeptAlong links x.1 s t
    kept_along NoBranch x s t h f = absurd (let z : None ≡ Some x = h in cc)
    kept_along (MoreBranches at op right links) x s t h f = elim
        (in_part (λ u. MoreBranches at op u links) (next_step right)
        (inside (MoreBranches at op right) (next_along links) None) x h) [
          | inl p ↦ (
              let q = passes _ _ t f in
              let i = kept right p.part q.through p.first q.first in
              subst (λ y. KeptAlong (MoreBranches at op right links) y s t) p.after (record {
                type = ap (λ z. passing z (λ u. passing (typed_link at op s u)
                    (λ v. shape_branches A (types_in S) v links))) i.type ∙ q.then;
                mean = λ r n. following_same (λ o m. and_then (with_turns (linked at op r o) m)
                    (λ v k. mean_branches B S v links k)) (i.mean n);
              }))
          | inr o ↦ elim (in_part (MoreBranches at op right) (next_along links) None x o) [
            | inl p ↦ (
                let q = passes _ _ t f in
                let w = passes _ _ t q.then in
                let i = kept_along links p.part w.through t p.first w.then in
                subst (λ y. KeptAlong (MoreBranches at op right links) y s t) p.after (record {
                  type = ap (λ z. passing z (λ u. passing (typed_link at op s u)
                      (λ v. shape_branches A (types_in S) v (p.part).1))) q.first
                      ∙ ap (λ z. passing z (λ v. shape_branches A (types_in S) v (p.part).1)) w.first ∙ i.type;
                  mean = λ r n. following_each (mean_tree B S right n).answer _ _
                      (λ o m. following_each (with_turns (linked at op r o) m).answer _ _ (λ v k. i.mean v k));
                }))
            | inr q ↦ absurd (let z : None ≡ Some x = q in cc)
          ]
        ]

  -- ---- all steps
  kept_within : (k : ℕ) (t : Tree) (s : StaticShape) → shape_tree A (types_in S) t ≡ Fits s → Kept t (calm_within k t) s
  kept_within zero t s f = record { type = f; mean = λ n. refl }
  kept_within (suc k) t s f = at_step (next_step t) refl
      (λ x h. let i = kept t x s h f in let j = kept_within k x.1 s i.type
      in record { type = j.type; mean = λ n. j.mean n ∙ i.mean n })
    where
      at_step : (o : Option (Step × Tree)) → next_step t ≡ o
          → ((x : Step × Tree) → next_step t ≡ Some x → Kept t (calm_within k x.1) s)
          → Kept t (calm_behind t o (calm_within k)) s
      at_step None e g = record { type = f; mean = λ n. refl }
      at_step (Some x) e g = g x e

pub calm_means_the_same : CalmMeansTheSame
unfolding calmed
calm_means_the_same = record {
  meaning = λ script state e type n valid f. (kept_within state valid
      (around_types (types_of_calls script.items.items rank_limit) []) (around_command script) (weight (tree_of e))
      (tree_of e) type f).mean n;
  type = λ script state e type valid f. (kept_within state valid
      (around_types (types_of_calls script.items.items rank_limit) []) (around_command script) (weight (tree_of e))
      (tree_of e) type f).type;
}

-- ---- steps are steps
operator_itself : (op : Op2) → same_operator op op ≡ true
operator_itself Or = refl
operator_itself And = refl
operator_itself Times = refl
operator_itself Under = refl
operator_itself Over = refl

itself : (n : List ℕ) → same_text n n ≡ true
itself n = nat_list_eq_equiv.refl n

mutual
  tree_itself : (t : Tree) → same_tree t t ≡ true
  tree_itself (NameTree at name) = itself name
  tree_itself (CallTree at name args) = and_from _ _ (itself name) (trees_itself args)
  tree_itself (BaseTree at base args) = and_from _ _ (itself (base_text base)) (trees_itself args)
  tree_itself (InjectTree at base domain) = and_from _ _ (itself (base_text base)) (itself domain)
  tree_itself (PairTree at left right) = and_from _ _ (tree_itself left) (tree_itself right)
  tree_itself (MinusTree at of) = tree_itself of
  tree_itself (TurnedTree at of times) = and_from _ _ (equal_passes times times refl) (tree_itself of)
  tree_itself (ChainTree first links) = and_from _ _ (tree_itself first) (branches_itself links)

  trees_itself : (args : Trees) → same_trees args args ≡ true
  trees_itself NoTree = refl
  trees_itself (MoreTrees t args) = and_from _ _ (tree_itself t) (trees_itself args)

  branches_itself : (links : Branches) → same_branches links links ≡ true
  branches_itself NoBranch = refl
  branches_itself (MoreBranches at op right links) = and_from _ _ (operator_itself op)
      (and_from _ _ (tree_itself right) (branches_itself links))

-- the least rule's number is that of its result
numbered_at : (P : ℕ × Tree → Type 0) (n : ℕ) (o : Option Tree) (others : Option (ℕ × Tree)) (x : ℕ × Tree)
    → ((u : Tree) → o ≡ Some u → P (n, u)) → (others ≡ Some x → P x) → numbered n o others ≡ Some x → P x
numbered_at P n None others x f g h = g h
numbered_at P n (Some t) others x f g h = subst P (same_some h) (f t refl)

result_of_least : (t : Tree) (x : ℕ × Tree) → least_rule t ≡ Some x → result_of_rule x.0 t ≡ Some x.1
unfolding result_of_rule
result_of_least t x =
    let P : ℕ × Tree → Type 0 = λ y. result_of_rule y.0 t ≡ Some y.1 in
    numbered_at P 1 _ _ x (λ u h. h) (numbered_at P 2 _ _ x (λ u h. h)
    (numbered_at P 3 _ _ x (λ u h. h) (numbered_at P 4 _ _ x (λ u h. h) (numbered_at P 5 _ _ x (λ u h. h)
    (numbered_at P 6 _ _ x (λ u h. h) (numbered_at P 7 _ _ x (λ u h. h)
    (numbered_at P 8 _ _ x (λ u h. h) (numbered_at P 9 _ _ x (λ u h. h)
    (numbered_at P 10 _ _ x (λ u h. h) (λ n. absurd (let z : None ≡ Some x = n in cc)))))))))))

step_here : (t : Tree) (x : Step × Tree) → here t ≡ Some x → is_step x.0 ≡ true
step_here t x h =
    let n = at_node t x h in
    subst (λ s. is_step s ≡ true) n.step
    (and_from _ _ n.calm (ap (is_result (n.rule).1) (result_of_least t n.rule n.least) ∙ tree_itself (n.rule).1))

mutual
  -- each step is valid, by induction on the tree: it is in a part, or it is that of the least rule at a calm node
  stepped : (t : Tree) (x : Step × Tree) → next_step t ≡ Some x → is_step x.0 ≡ true
  stepped (NameTree at name) x h = step_here (NameTree at name) x h
  stepped (CallTree at name args) x h = elim (in_part (CallTree at name) (next_in args)
      (here (CallTree at name args)) x h) [
        | inl p ↦ subst (λ s. is_step s ≡ true) p.step (stepped_in args p.part p.first)
        | inr q ↦ step_here (CallTree at name args) x q
      ]
  stepped (BaseTree at base args) x h = elim (in_part (BaseTree at base) (next_in args)
      (here (BaseTree at base args)) x h) [
        | inl p ↦ subst (λ s. is_step s ≡ true) p.step (stepped_in args p.part p.first)
        | inr q ↦ step_here (BaseTree at base args) x q
      ]
  stepped (InjectTree at base domain) x h = step_here (InjectTree at base domain) x h
  stepped (PairTree at left right) x h = elim (in_part (λ t. PairTree at t right) (next_step left)
      (inside (PairTree at left) (next_step right) (here (PairTree at left right))) x h) [
        | inl p ↦ subst (λ s. is_step s ≡ true) p.step (stepped left p.part p.first)
        | inr q ↦ elim (in_part (PairTree at left) (next_step right) (here (PairTree at left right)) x q) [
          | inl p ↦ subst (λ s. is_step s ≡ true) p.step (stepped right p.part p.first)
          | inr r ↦ step_here (PairTree at left right) x r
        ]
      ]
  stepped (MinusTree at of) x h = elim (in_part (MinusTree at) (next_step of) (here (MinusTree at of)) x h) [
    | inl p ↦ subst (λ s. is_step s ≡ true) p.step (stepped of p.part p.first)
    | inr q ↦ step_here (MinusTree at of) x q
  ]
  stepped (TurnedTree at of times) x h = elim (in_part (λ t. TurnedTree at t times) (next_step of)
      (here (TurnedTree at of times)) x h) [
        | inl p ↦ subst (λ s. is_step s ≡ true) p.step (stepped of p.part p.first)
        | inr q ↦ step_here (TurnedTree at of times) x q
      ]
  stepped (ChainTree first links) x h = elim (in_part (λ t. ChainTree t links) (next_step first)
      (inside (ChainTree first) (next_along links) (here (ChainTree first links))) x h) [
        | inl p ↦ subst (λ s. is_step s ≡ true) p.step (stepped first p.part p.first)
        | inr q ↦ elim (in_part (ChainTree first) (next_along links) (here (ChainTree first links)) x q) [
          | inl p ↦ subst (λ s. is_step s ≡ true) p.step (stepped_along links p.part p.first)
          | inr r ↦ step_here (ChainTree first links) x r
        ]
      ]

  stepped_in : (args : Trees) (x : Step × Trees) → next_in args ≡ Some x → is_step x.0 ≡ true
  stepped_in NoTree x h = absurd (let z : None ≡ Some x = h in cc)
  stepped_in (MoreTrees t args) x h = elim (in_part (λ u. MoreTrees u args) (next_step t)
      (inside (MoreTrees t) (next_in args) None) x h) [
        | inl p ↦ subst (λ s. is_step s ≡ true) p.step (stepped t p.part p.first)
        | inr q ↦ elim (in_part (MoreTrees t) (next_in args) None x q) [
          | inl p ↦ subst (λ s. is_step s ≡ true) p.step (stepped_in args p.part p.first)
          | inr r ↦ absurd (let z : None ≡ Some x = r in cc)
        ]
      ]

  stepped_along : (links : Branches) (x : Step × Branches) → next_along links ≡ Some x → is_step x.0 ≡ true
  stepped_along NoBranch x h = absurd (let z : None ≡ Some x = h in cc)
  stepped_along (MoreBranches at op right links) x h = elim
      (in_part (λ t. MoreBranches at op t links) (next_step right)
      (inside (MoreBranches at op right) (next_along links) None) x h) [
        | inl p ↦ subst (λ s. is_step s ≡ true) p.step (stepped right p.part p.first)
        | inr q ↦ elim (in_part (MoreBranches at op right) (next_along links) None x q) [
          | inl p ↦ subst (λ s. is_step s ≡ true) p.step (stepped_along links p.part p.first)
          | inr r ↦ absurd (let z : None ≡ Some x = r in cc)
        ]
      ]

all_steps : (k : ℕ) (t : Tree) → AllByRecursion (λ s. is_step s ≡ true) (steps_within k t)
all_steps zero t = tt
all_steps (suc k) t = at_step (next_step t) refl (λ x. all_steps k x.1)
  where
    at_step : (o : Option (Step × Tree)) → next_step t ≡ o
        → ((x : Step × Tree) → AllByRecursion (λ s. is_step s ≡ true) (steps_within k x.1))
        → AllByRecursion (λ s. is_step s ≡ true) (steps_behind o (steps_within k))
    at_step None e f = tt
    at_step (Some x) e f = (stepped t x e, f x)

pub steps_are_steps : StepsAreSteps
unfolding steps_of
steps_are_steps t = all_steps (weight t) t
