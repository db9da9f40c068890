-- A run of steps in a part is a run of the whole, where the parts before it have no next step. So what a tree comes to,
-- and by which steps, is told part by part.
--
-- 1. `Goes` is a run: each step is the next one of the tree before it. Runs are lifted into a whole and joined.
-- 2. The weight falls with each step, so that the steps within any number that is no less than the weight are all.
-- 3. Each tree runs to its calm tree by all its steps; of arguments and links the same holds from the left.
use Rattle.std.proofs.Common.{◌≡◌, ◌∙◌, ◌++◌, ◌≤◌, ◌<◌, ℕ, zero, suc, List, [], ◌∷◌, Option, Some, None, refl, sym, ap, subst, arith}
use Rattle.lang_model.specs.Trees.{Tree, NameTree, CallTree, BaseTree, InjectTree, PairTree, MinusTree, TurnedTree, ChainTree, Trees, NoTree, MoreTrees, Branches, NoBranch, MoreBranches}
use Rattle.lang_model.specs.Rewriting.{Step, inside, here, next_step, next_in, next_along, weight, steps_behind, steps_within, calm_behind, calm_within, steps_of, calmed}
use Rattle.lang_model.proofs.Lighter.{weight-some, steps_end}
use Rattle.rv_rewrite.specs.Running.{steps_in, calmed_in, steps_along, calmed_along, StillInside}

-- a run of steps
abbrev pub Goes : {A : Type 0} → (A → Option (Step × A)) → A → List Step → A → Type 0
Goes next t [] u = t ≡ u
Goes {A = A} next t (s ∷ ss) u = (v : A) × (next t ≡ Some (s, v)) × Goes next v ss u

-- a step in a part is one of the whole
abbrev pub Lifts : {A B : Type 0} → (A → Option (Step × A)) → (B → Option (Step × B)) → (A → B) → Type 0
Lifts {A = A} next other f = (t : A) (x : Step × A) → next t ≡ Some x → other (f t) ≡ Some (x.0, f x.1)

pub lifted : {A B : Type 0} (next : A → Option (Step × A)) (other : B → Option (Step × B)) (f : A → B) → Lifts next other f
    → (ss : List Step) (t u : A) → Goes next t ss u → Goes other (f t) ss (f u)
lifted next other f h [] t u g = ap f g
lifted next other f h (s ∷ ss) t u g = (f g.0, h t (s, g.0) g.1, lifted next other f h ss g.0 u g.2)

pub joined : {A : Type 0} (next : A → Option (Step × A)) (ss rs : List Step) (t v u : A) → Goes next t ss v → Goes next v rs u
    → Goes next t (ss ++ rs) u
joined next [] rs t v u g h = subst (λ x. Goes next x rs u) (sym g) h
joined next (s ∷ ss) rs t v u g h = (g.0, g.1, joined next ss rs g.0 v u g.2 h)

-- ---- enough steps
record Enough (j k : ℕ) (t : Tree) : Type 0 where
  pub steps : steps_within j t ≡ steps_within k t
  pub calm : calm_within j t ≡ calm_within k t

-- two numbers no less than the weight allow the same steps and lead to the same calm tree: each step makes the tree
-- lighter, so that what is left of both is still enough
enough : (j k : ℕ) (t : Tree) → weight t ≤ j → weight t ≤ k → Enough j k t
enough zero k t l m = absurd (omega (arith, weight-some t, l))
enough (suc j) zero t l m = absurd (omega (arith, weight-some t, m))
enough (suc j) (suc k) t l m = at_step (next_step t) refl (λ v. enough j k v)
  where
    at_step : (o : Option (Step × Tree)) → next_step t ≡ o → ((v : Tree) → weight v ≤ j → weight v ≤ k → Enough j k v)
        → Enough (suc j) (suc k) t
    at_step None e f = record {
      steps = ap (λ o. steps_behind o (steps_within j)) e ∙ sym (ap (λ o. steps_behind o (steps_within k)) e);
      calm = ap (λ o. calm_behind t o (calm_within j)) e ∙ sym (ap (λ o. calm_behind t o (calm_within k)) e);
    }
    at_step (Some x) e f =
        let w : weight x.1 < weight t = steps_end.lower t x.0 x.1 e in
        let i = f x.1 (omega (arith, w, l)) (omega (arith, w, m)) in
        record {
          steps = ap (λ o. steps_behind o (steps_within j)) e ∙ ap (λ ss. x.0 ∷ ss) i.steps
              ∙ sym (ap (λ o. steps_behind o (steps_within k)) e);
          calm = ap (λ o. calm_behind t o (calm_within j)) e ∙ i.calm ∙ sym (ap (λ o. calm_behind t o (calm_within k)) e);
        }

-- steps come first, and lead to another tree
pub record Then (t : Tree) (ss : List Step) (u : Tree) : Type 0 where
  pub steps : steps_of t ≡ ss ++ steps_of u
  pub calm : calmed t ≡ calmed u

record ThenWithin (k : ℕ) (t : Tree) (ss : List Step) (u : Tree) : Type 0 where
  pub steps : steps_within k t ≡ ss ++ steps_of u
  pub calm : calm_within k t ≡ calmed u

-- the steps of a run come first among those of its tree, and the rest are those of the tree that it leads to: by
-- induction on the run, since each step makes the tree lighter
then_within : (ss : List Step) (k : ℕ) (t u : Tree) → weight t ≤ k → Goes next_step t ss u → ThenWithin k t ss u
unfolding steps_of calmed
then_within [] k t u l g = subst (λ x. ThenWithin k t [] x) g (
    let e = enough k (weight t) t l (omega arith) in record { steps = e.steps; calm = e.calm })
then_within (s ∷ ss) zero t u l g = absurd (omega (arith, weight-some t, l))
then_within (s ∷ ss) (suc k) t u l g =
    let w : weight g.0 < weight t = steps_end.lower t s g.0 g.1 in
    let i = then_within ss k g.0 u (omega (arith, w, l)) g.2 in
    record {
      steps = ap (λ o. steps_behind o (steps_within k)) g.1 ∙ ap (λ rs. s ∷ rs) i.steps;
      calm = ap (λ o. calm_behind t o (calm_within k)) g.1 ∙ i.calm;
    }

pub ran : (ss : List Step) (t u : Tree) → Goes next_step t ss u → Then t ss u
unfolding steps_of calmed
ran ss t u g = let w = then_within ss (weight t) t u (omega arith) g in record { steps = w.steps; calm = w.calm }

-- ---- each tree runs to its calm tree
all_within : (k : ℕ) (t : Tree) → Goes next_step t (steps_within k t) (calm_within k t)
all_within zero t = refl
all_within (suc k) t = at_step (next_step t) refl (λ v. all_within k v)
  where
    at_step : (o : Option (Step × Tree)) → next_step t ≡ o → ((v : Tree) → Goes next_step v (steps_within k v) (calm_within k v))
        → Goes next_step t (steps_behind o (steps_within k)) (calm_behind t o (calm_within k))
    at_step None e f = refl
    at_step (Some x) e f = (x.1, e, f x.1)

pub all_of : (t : Tree) → Goes next_step t (steps_of t) (calmed t)
unfolding steps_of calmed
all_of t = all_within (weight t) t

pub last : (t : Tree) → next_step (calmed t) ≡ None
last = steps_end.last

-- a tree with no next step
pub record Rests (t : Tree) : Type 0 where
  pub steps : steps_of t ≡ []
  pub calm : calmed t ≡ t

pub rests : (t : Tree) → next_step t ≡ None → Rests t
unfolding steps_of calmed
rests t e = record { steps = none (weight t); calm = same (weight t) }
  where
    none : (k : ℕ) → steps_within k t ≡ []
    none zero = refl
    none (suc k) = ap (λ o. steps_behind o (steps_within k)) e

    same : (k : ℕ) → calm_within k t ≡ t
    same zero = refl
    same (suc k) = ap (λ o. calm_behind t o (calm_within k)) e

-- ---- arguments and links
first_in : (args : Trees) → Lifts next_step next_in (λ t. MoreTrees t args)
first_in args t x e = ap (λ o. inside (λ u. MoreTrees u args) o (inside (MoreTrees t) (next_in args) None)) e

then_in : (t : Tree) → next_step t ≡ None → Lifts next_in next_in (MoreTrees t)
then_in t n args x e = ap (λ o. inside (λ u. MoreTrees u args) o (inside (MoreTrees t) (next_in args) None)) n
    ∙ ap (λ o. inside (MoreTrees t) o None) e

pub all_in : (args : Trees) → Goes next_in args (steps_in args) (calmed_in args)
all_in NoTree = refl
all_in (MoreTrees t args) = joined next_in (steps_of t) (steps_in args) _ (MoreTrees (calmed t) args) _
    (lifted next_step next_in (λ u. MoreTrees u args) (first_in args) (steps_of t) t (calmed t) (all_of t))
    (lifted next_in next_in (MoreTrees (calmed t)) (then_in (calmed t) (last t)) (steps_in args) args (calmed_in args) (all_in args))

pub last_in : (args : Trees) → next_in (calmed_in args) ≡ None
last_in NoTree = refl
last_in (MoreTrees t args) =
    ap (λ o. inside (λ u. MoreTrees u (calmed_in args)) o (inside (MoreTrees (calmed t)) (next_in (calmed_in args)) None)) (last t)
    ∙ ap (λ o. inside (MoreTrees (calmed t)) o None) (last_in args)

first_along : (at : _) (op : _) (links : Branches) → Lifts next_step next_along (λ t. MoreBranches at op t links)
first_along at op links t x e = ap (λ o. inside (λ u. MoreBranches at op u links) o (inside (MoreBranches at op t) (next_along links) None)) e

then_along : (at : _) (op : _) (t : Tree) → next_step t ≡ None → Lifts next_along next_along (MoreBranches at op t)
then_along at op t n links x e = ap (λ o. inside (λ u. MoreBranches at op u links) o (inside (MoreBranches at op t) (next_along links) None)) n
    ∙ ap (λ o. inside (MoreBranches at op t) o None) e

pub all_along : (links : Branches) → Goes next_along links (steps_along links) (calmed_along links)
all_along NoBranch = refl
all_along (MoreBranches at op t links) = joined next_along (steps_of t) (steps_along links) _ (MoreBranches at op (calmed t) links) _
    (lifted next_step next_along (λ u. MoreBranches at op u links) (first_along at op links) (steps_of t) t (calmed t) (all_of t))
    (lifted next_along next_along (MoreBranches at op (calmed t)) (then_along at op (calmed t) (last t)) (steps_along links) links (calmed_along links) (all_along links))

pub last_along : (links : Branches) → next_along (calmed_along links) ≡ None
last_along NoBranch = refl
last_along (MoreBranches at op t links) =
    ap (λ o. inside (λ u. MoreBranches at op u (calmed_along links)) o (inside (MoreBranches at op (calmed t)) (next_along (calmed_along links)) None)) (last t)
    ∙ ap (λ o. inside (MoreBranches at op (calmed t)) o None) (last_along links)

-- ---- nodes, by their parts
pub then_call : (at : _) (name : _) (args : Trees) → Then (CallTree at name args) (steps_in args) (CallTree at name (calmed_in args))
then_call at name args = ran _ _ _ (lifted next_in next_step (CallTree at name)
    (λ t x e. ap (λ o. inside (CallTree at name) o (here (CallTree at name t))) e) (steps_in args) args _ (all_in args))

pub then_base : (at : _) (base : _) (args : Trees) → Then (BaseTree at base args) (steps_in args) (BaseTree at base (calmed_in args))
then_base at base args = ran _ _ _ (lifted next_in next_step (BaseTree at base)
    (λ t x e. ap (λ o. inside (BaseTree at base) o (here (BaseTree at base t))) e) (steps_in args) args _ (all_in args))

pub then_minus : (at : _) (ss : List Step) (t u : Tree) → Goes next_step t ss u → Then (MinusTree at t) ss (MinusTree at u)
then_minus at ss t u g = ran ss _ _ (lifted next_step next_step (MinusTree at)
    (λ t x e. ap (λ o. inside (MinusTree at) o (here (MinusTree at t))) e) ss t u g)

pub then_turned : (at : _) (n : ℕ) (ss : List Step) (t u : Tree) → Goes next_step t ss u → Then (TurnedTree at t n) ss (TurnedTree at u n)
then_turned at n ss t u g = ran ss _ _ (lifted next_step next_step (λ t. TurnedTree at t n)
    (λ t x e. ap (λ o. inside (λ u. TurnedTree at u n) o (here (TurnedTree at t n))) e) ss t u g)

pub then_pair : (at : _) (l r : Tree) → Then (PairTree at l r) (steps_of l ++ steps_of r) (PairTree at (calmed l) (calmed r))
then_pair at l r = ran _ _ _ (joined next_step (steps_of l) (steps_of r) _ (PairTree at (calmed l) r) _
    (lifted next_step next_step (λ t. PairTree at t r)
    (λ t x e. ap (λ o. inside (λ u. PairTree at u r) o (inside (PairTree at t) (next_step r) (here (PairTree at t r)))) e) (steps_of l) l _ (all_of l))
    (lifted next_step next_step (PairTree at (calmed l))
    (λ t x e. ap (λ o. inside (λ u. PairTree at u t) o (inside (PairTree at (calmed l)) (next_step t) (here (PairTree at (calmed l) t)))) (last l)
    ∙ ap (λ o. inside (PairTree at (calmed l)) o (here (PairTree at (calmed l) t))) e) (steps_of r) r _ (all_of r)))

pub then_chain : (first : Tree) (links : Branches) → Then (ChainTree first links) (steps_of first ++ steps_along links) (ChainTree (calmed first) (calmed_along links))
then_chain first links = ran _ _ _ (joined next_step (steps_of first) (steps_along links) _ (ChainTree (calmed first) links) _
    (lifted next_step next_step (λ t. ChainTree t links)
    (λ t x e. ap (λ o. inside (λ u. ChainTree u links) o (inside (ChainTree t) (next_along links) (here (ChainTree t links)))) e) (steps_of first) first _ (all_of first))
    (lifted next_along next_step (ChainTree (calmed first))
    (λ t x e. ap (λ o. inside (λ u. ChainTree u t) o (inside (ChainTree (calmed first)) (next_along t) (here (ChainTree (calmed first) t)))) (last first)
    ∙ ap (λ o. inside (ChainTree (calmed first)) o (here (ChainTree (calmed first) t))) e) (steps_along links) links _ (all_along links)))

-- ---- a node whose parts have no next step
pub still_here : (t : Tree) → StillInside t → next_step t ≡ here t
still_here (NameTree at name) s = refl
still_here (CallTree at name args) s = ap (λ o. inside (CallTree at name) o (here (CallTree at name args))) s
still_here (BaseTree at base args) s = ap (λ o. inside (BaseTree at base) o (here (BaseTree at base args))) s
still_here (InjectTree at base domain) s = refl
still_here (PairTree at l r) s =
    ap (λ o. inside (λ t. PairTree at t r) o (inside (PairTree at l) (next_step r) (here (PairTree at l r)))) s.0
    ∙ ap (λ o. inside (PairTree at l) o (here (PairTree at l r))) s.1
still_here (MinusTree at of) s = ap (λ o. inside (MinusTree at) o (here (MinusTree at of))) s
still_here (TurnedTree at of n) s = ap (λ o. inside (λ t. TurnedTree at t n) o (here (TurnedTree at of n))) s
still_here (ChainTree first links) s =
    ap (λ o. inside (λ t. ChainTree t links) o (inside (ChainTree first) (next_along links) (here (ChainTree first links)))) s.0
    ∙ ap (λ o. inside (ChainTree first) o (here (ChainTree first links))) s.1

no_part : {A B : Type 0} (whole : A → B) (o : Option (Step × A)) (other : Option (Step × B)) → inside whole o other ≡ None
    → (o ≡ None) × (other ≡ None)
no_part whole None other e = (refl, e)
no_part whole (Some x) other e = absurd (let z : Some (x.0, whole x.1) ≡ None = e in cc)

-- the parts of a tree with no next step have none
pub still_parts : (t : Tree) → next_step t ≡ None → StillInside t
still_parts (NameTree at name) e = tt
still_parts (CallTree at name args) e = (no_part (CallTree at name) (next_in args) _ e).0
still_parts (BaseTree at base args) e = (no_part (BaseTree at base) (next_in args) _ e).0
still_parts (InjectTree at base domain) e = tt
still_parts (PairTree at l r) e =
    let p = no_part (λ t. PairTree at t r) (next_step l) _ e in
    (p.0, (no_part (PairTree at l) (next_step r) _ p.1).0)
still_parts (MinusTree at of) e = (no_part (MinusTree at) (next_step of) _ e).0
still_parts (TurnedTree at of n) e = (no_part (λ t. TurnedTree at t n) (next_step of) _ e).0
still_parts (ChainTree first links) e =
    let p = no_part (λ t. ChainTree t links) (next_step first) _ e in
    (p.0, (no_part (ChainTree first) (next_along links) _ p.1).0)

pub still_links : (at : _) (op : _) (t : Tree) (links : Branches) → next_along (MoreBranches at op t links) ≡ None
    → (next_step t ≡ None) × (next_along links ≡ None)
still_links at op t links e =
    let p = no_part (λ u. MoreBranches at op u links) (next_step t) _ e in
    (p.0, (no_part (MoreBranches at op t) (next_along links) _ p.1).0)
