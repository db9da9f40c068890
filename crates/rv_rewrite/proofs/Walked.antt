-- What the walk comes to at a node, from what it came to in the parts.
use Rattle.std.proofs.Common.{◌≡◌, ◌∙◌, ◌++◌, ◌&&◌, ◌≤◌, ℕ, Bool, true, false, List, [], ◌∷◌, length, drop, None, refl, sym, ap, subst, append-nil}
use Rattle.std.proofs.lemmas.List.{drop_all}
use Rattle.lang_model.specs.declared.syntax.Expr.{Expr}
use Rattle.lang_model.specs.declared.syntax.Link.{Link}
use Rattle.lang_model.specs.Trees.{Tree, CallTree, BaseTree, PairTree, MinusTree, TurnedTree, ChainTree, Trees, MoreTrees, Branches, MoreBranches, tree_of}
use Rattle.lang_model.specs.Rewriting.{Step as STEP, is_calm, are_calm, are_calm_along, next_step, steps_of, calmed}
use Rattle.rv_rewrite.specs.declared.step.Step.{Step}
use Rattle.rv_rewrite.specs.Steps.{steps_by_trees}
use Rattle.rv_rewrite.specs.Items.{args_of, links_of, args_ahead, links_ahead}
use Rattle.rv_rewrite.specs.Running.{StillInside, Noted, Walks, WalksIn, WalksAlong, steps_in, calmed_in, steps_along, calmed_along}
use Rattle.rv_rewrite.proofs.Items.{args_ahead-more, links_ahead-more, args_ahead-all, links_ahead-all}
use Rattle.rv_rewrite.proofs.Runs.{Then, rests, all_of, last, last_in, last_along, then_call, then_base, then_minus, then_turned, then_pair, then_chain}
use Rattle.rv_rewrite.proofs.Settled.{left_over, none_restless}

-- ---- notes one after another
pub first_then : (kept : Bool) (old mid new : List Step) (ss rs : List STEP) → Noted kept old mid ss [] → Noted kept mid new rs [] → Noted kept old new (ss ++ rs) []
first_then kept old mid new ss rs n m = λ k. left_over kept old mid ss (ss ++ rs) rs refl n k ∙ m k

pub whole : (kept : Bool) (old mid new : List Step) (t u : Tree) (ss : List STEP) → Then t ss u → Noted kept old mid ss [] → Noted kept mid new (steps_of u) []
    → Noted kept old new (steps_of t) []
whole kept old mid new t u ss h n m = λ k. ap (λ z. steps_by_trees old ++ z) h.steps ∙ first_then kept old mid new ss (steps_of u) n m k

-- a walk of the parts, and then of the node with these parts
pub through : (kept : Bool) (old mid new : List Step) (t u e : Tree) (ss : List STEP) (calm : Bool) → Then t ss u → Noted kept old mid ss []
    → Walks kept mid new u e calm → Walks kept old new t e calm
through kept old mid new t u e ss calm h n w = record {
  after = w.after ∙ sym h.calm;
  calm_or_not = w.calm_or_not;
  noted = whole kept old mid new t u ss h n w.noted;
}

-- a node that is not calm, with its parts walked
pub restless : (kept : Bool) (old mid : List Step) (t u : Tree) (ss : List STEP) → Then t ss u → Noted kept old mid ss [] → is_calm u ≡ false → StillInside u
    → Walks kept old mid t u false
restless kept old mid t u ss h n c s =
    let r = rests u (none_restless u c s) in
    record {
      after = sym r.calm ∙ sym h.calm;
      calm_or_not = sym c;
      noted = λ k. ap (λ z. steps_by_trees old ++ z) (h.steps ∙ ap (λ z. ss ++ z) r.steps ∙ append-nil ss) ∙ n k;
    }

pub leaf : (kept : Bool) (old : List Step) (t : Tree) (calm : Bool) → is_calm t ≡ calm → next_step t ≡ None → Walks kept old old t t calm
leaf kept old t calm c n =
    let r = rests t n in
    record { after = sym r.calm; calm_or_not = sym c; noted = λ k. ap (λ z. steps_by_trees old ++ z) r.steps }

-- ---- nodes
pub walked_call : (kept : Bool) (old new : List Step) (at : _) (name : List ℕ) (t u : Trees) (calm : Bool) → WalksIn kept old new t u calm
    → Walks kept old new (CallTree at name t) (CallTree at name u) false
walked_call kept old new at name t u calm w = subst (λ z. Walks kept old new (CallTree at name t) (CallTree at name z) false) (sym w.after)
    (restless kept old new _ _ (steps_in t) (then_call at name t) w.noted refl (last_in t))

pub walked_pair : (kept : Bool) (old mid new : List Step) (at : _) (l r e f : Tree) (a b : Bool) → Walks kept old mid l e a → Walks kept mid new r f b
    → Walks kept old new (PairTree at l r) (PairTree at e f) false
walked_pair kept old mid new at l r e f a b v w = subst (λ z. Walks kept old new (PairTree at l r) z false) (λ i. PairTree at (sym v.after i) (sym w.after i))
    (restless kept old new _ _ (steps_of l ++ steps_of r) (then_pair at l r) (first_then kept old mid new (steps_of l) (steps_of r) v.noted w.noted) refl (last l, last r))

pub walked_base : (kept : Bool) (old mid new : List Step) (at : _) (base : _) (t u : Trees) (calm all : Bool) (e : Tree) → WalksIn kept old mid t u calm
    → Walks kept mid new (BaseTree at base u) e all → Walks kept old new (BaseTree at base t) e all
walked_base kept old mid new at base t u calm all e w f =
    through kept old mid new _ (BaseTree at base (calmed_in t)) e (steps_in t) all (then_base at base t) w.noted
    (subst (λ z. Walks kept mid new (BaseTree at base z) e all) w.after f)

pub walked_minus : (kept : Bool) (old mid new : List Step) (at : _) (t u e : Tree) (calm all : Bool) → Walks kept old mid t u calm
    → Walks kept mid new (MinusTree at u) e all → Walks kept old new (MinusTree at t) e all
walked_minus kept old mid new at t u e calm all w f =
    through kept old mid new _ (MinusTree at (calmed t)) e (steps_of t) all (then_minus at (steps_of t) t (calmed t) (all_of t)) w.noted
    (subst (λ z. Walks kept mid new (MinusTree at z) e all) w.after f)

pub walked_turned : (kept : Bool) (old mid new : List Step) (at : _) (n : ℕ) (t u e : Tree) (calm all : Bool) → Walks kept old mid t u calm
    → Walks kept mid new (TurnedTree at u n) e all → Walks kept old new (TurnedTree at t n) e all
walked_turned kept old mid new at n t u e calm all w f =
    through kept old mid new _ (TurnedTree at (calmed t) n) e (steps_of t) all (then_turned at n (steps_of t) t (calmed t) (all_of t)) w.noted
    (subst (λ z. Walks kept mid new (TurnedTree at z n) e all) w.after f)

pub walked_chain : (kept : Bool) (old one two new : List Step) (t u : Tree) (links others : Branches) (e : Tree) (a b all : Bool) → Walks kept old one t u a
    → WalksAlong kept one two links others b → Walks kept two new (ChainTree u others) e all → Walks kept old new (ChainTree t links) e all
walked_chain kept old one two new t u links others e a b all v w f =
    through kept old two new _ (ChainTree (calmed t) (calmed_along links)) e (steps_of t ++ steps_along links) all (then_chain t links)
    (first_then kept old one two (steps_of t) (steps_along links) v.noted w.noted)
    (subst (λ z. Walks kept two new z e all) (λ i. ChainTree (v.after i) (w.after i)) f)

-- what is walked rests
pub rests_at : (kept : Bool) (old new : List Step) (t u : Tree) (calm : Bool) → Walks kept old new t u calm → next_step u ≡ None
rests_at kept old new t u calm w = ap next_step w.after ∙ last t

pub rests_in : (kept : Bool) (old new : List Step) (t u : Trees) (calm : Bool) → WalksIn kept old new t u calm → StillInside (CallTree (record { line = 0; column = 0 }) [] u)
rests_in kept old new t u calm w = subst (λ z. StillInside (CallTree (record { line = 0; column = 0 }) [] z)) (sym w.after) (last_in t)

pub rests_along : (kept : Bool) (old new : List Step) (t : Tree) (links u : Branches) (calm : Bool) → next_step t ≡ None → WalksAlong kept old new links u calm → StillInside (ChainTree t u)
rests_along kept old new t links u calm n w = subst (λ z. StillInside (ChainTree t z)) (sym w.after) (n, last_along links)

-- ---- arguments and links so far
pub record ArgsSoFar (kept : Bool) (old new : List Step) (all done : List Expr) (calm : Bool) (left : List Expr) : Type 0 where
  pub after : calmed_in (args_of all) ≡ args_ahead done (calmed_in (args_of left))
  pub calm_or_not : calm ≡ are_calm (args_of done)
  pub noted : Noted kept old new (steps_in (args_of all)) (steps_in (args_of left))

and_assoc : (a b c : Bool) → ((a && b) && c) ≡ (a && (b && c))
and_assoc true b c = refl
and_assoc false b c = refl

and_true : (a : Bool) → (a && true) ≡ a
and_true true = refl
and_true false = refl

calm_more : (xs : List Expr) (y : Expr) → are_calm (args_of (xs ++ y ∷ [])) ≡ (are_calm (args_of xs) && is_calm (tree_of y))
calm_more [] y = and_true (is_calm (tree_of y))
calm_more (x ∷ xs) y = ap (λ b. is_calm (tree_of x) && b) (calm_more xs y) ∙ sym (and_assoc (is_calm (tree_of x)) (are_calm (args_of xs)) (is_calm (tree_of y)))

calm_more_along : (xs : List Link) (y : Link) → are_calm_along (links_of (xs ++ y ∷ [])) ≡ (are_calm_along (links_of xs) && is_calm (tree_of y.right))
calm_more_along [] y = and_true (is_calm (tree_of y.right))
calm_more_along (x ∷ xs) y = ap (λ b. is_calm (tree_of x.right) && b) (calm_more_along xs y) ∙ sym (and_assoc (is_calm (tree_of x.right)) (are_calm_along (links_of xs)) (is_calm (tree_of y.right)))

pub no_args_yet : (kept : Bool) (old : List Step) (all : List Expr) → ArgsSoFar kept old old all [] true all
no_args_yet kept old all = record { after = refl; calm_or_not = refl; noted = λ k. refl }

pub one_arg_more : (kept : Bool) (old mid new : List Step) (all done : List Expr) (calm now both : Bool) (left : List Expr) (x y : Expr) (more : List Expr)
    → left ≡ x ∷ more → both ≡ (calm && now) → ArgsSoFar kept old mid all done calm left → Walks kept mid new (tree_of x) (tree_of y) now
    → ArgsSoFar kept old new all (done ++ y ∷ []) both more
one_arg_more kept old mid new all done calm now both left x y more e b h w = record {
  after = h.after ∙ ap (λ z. args_ahead done (calmed_in (args_of z))) e
      ∙ ap (λ z. args_ahead done (MoreTrees z (calmed_in (args_of more)))) (sym w.after) ∙ sym (args_ahead-more done y (calmed_in (args_of more)));
  calm_or_not = b ∙ (λ i. h.calm_or_not i && w.calm_or_not i) ∙ sym (calm_more done y);
  noted = λ k. h.noted k ∙ ap (λ z. steps_by_trees mid ++ steps_in (args_of z)) e
      ∙ left_over kept mid new (steps_of (tree_of x)) (steps_of (tree_of x) ++ steps_in (args_of more)) (steps_in (args_of more)) refl w.noted k;
}

pub all_args : (kept : Bool) (old new : List Step) (all done : List Expr) (calm : Bool) (i : ℕ) → length all ≤ i
    → ArgsSoFar kept old new all done calm (drop i all) → WalksIn kept old new (args_of all) (args_of done) calm
all_args kept old new all done calm i l h = record {
  after = sym (h.after ∙ ap (λ z. args_ahead done (calmed_in (args_of z))) (drop_all i all l) ∙ args_ahead-all done);
  calm_or_not = h.calm_or_not;
  noted = λ k. h.noted k ∙ ap (λ z. steps_by_trees new ++ steps_in (args_of z)) (drop_all i all l);
}

pub record LinksSoFar (kept : Bool) (old new : List Step) (all done : List Link) (calm : Bool) (left : List Link) : Type 0 where
  pub after : calmed_along (links_of all) ≡ links_ahead done (calmed_along (links_of left))
  pub calm_or_not : calm ≡ are_calm_along (links_of done)
  pub noted : Noted kept old new (steps_along (links_of all)) (steps_along (links_of left))

pub no_links_yet : (kept : Bool) (old : List Step) (all : List Link) → LinksSoFar kept old old all [] true all
no_links_yet kept old all = record { after = refl; calm_or_not = refl; noted = λ k. refl }

-- a link more is walked: it goes behind those that are done, with the operand that came of its walk, and the steps of
-- its operand are noted behind theirs
pub one_link_more : (kept : Bool) (old mid new : List Step) (all done : List Link) (calm now both : Bool) (left : List Link) (x y : Link) (more : List Link)
    → left ≡ x ∷ more → both ≡ (calm && now) → y.at ≡ x.at → y.op ≡ x.op → LinksSoFar kept old mid all done calm left
    → Walks kept mid new (tree_of x.right) (tree_of y.right) now
    → LinksSoFar kept old new all (done ++ y ∷ []) both more
one_link_more kept old mid new all done calm now both left x y more e b p o h w = record {
  after = h.after ∙ ap (λ z. links_ahead done (calmed_along (links_of z))) e
      ∙ (λ i. links_ahead done (MoreBranches (sym p i) (sym o i) (sym w.after i) (calmed_along (links_of more))))
      ∙ sym (links_ahead-more done y (calmed_along (links_of more)));
  calm_or_not = b ∙ (λ i. h.calm_or_not i && w.calm_or_not i) ∙ sym (calm_more_along done y);
  noted = λ k. h.noted k ∙ ap (λ z. steps_by_trees mid ++ steps_along (links_of z)) e
      ∙ left_over kept mid new (steps_of (tree_of x.right)) (steps_of (tree_of x.right) ++ steps_along (links_of more)) (steps_along (links_of more)) refl w.noted k;
}

pub all_the_links : (kept : Bool) (old new : List Step) (all done : List Link) (calm : Bool) (i : ℕ) → length all ≤ i
    → LinksSoFar kept old new all done calm (drop i all) → WalksAlong kept old new (links_of all) (links_of done) calm
all_the_links kept old new all done calm i l h = record {
  after = sym (h.after ∙ ap (λ z. links_ahead done (calmed_along (links_of z))) (drop_all i all l) ∙ links_ahead-all done);
  calm_or_not = h.calm_or_not;
  noted = λ k. h.noted k ∙ ap (λ z. steps_by_trees new ++ steps_along (links_of z)) (drop_all i all l);
}

-- the same trees, named otherwise
pub at_trees : (kept : Bool) (old new : List Step) (t u s v : Tree) (calm : Bool) → s ≡ t → v ≡ u → Walks kept old new t u calm → Walks kept old new s v calm
at_trees kept old new t u s v calm d e w = subst (λ z. Walks kept old new z v calm) (sym d) (subst (λ z. Walks kept old new t z calm) (sym e) w)
