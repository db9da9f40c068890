-- The steps at a node: where no rule applies it is its own calm tree, and a rule's result has its calm tree.
use Rattle.std.proofs.Common.{◌≡◌, ◌∙◌, ◌++◌, ◌≤◌, ◌<◌, ℕ, Bool, true, false, cond, List, [], ◌∷◌, Option, Some, None, option_map, refl, sym, ap, append_assoc, append-nil, arith}
use Rattle.std.proofs.lemmas.Bool.{false≢true}
use Rattle.lang_model.specs.declared.syntax.Expr.{Expr}
use Rattle.lang_model.specs.Trees.{Tree, NameTree, CallTree, BaseTree, InjectTree, PairTree, MinusTree, TurnedTree, ChainTree, tree_of}
use Rattle.lang_model.specs.Rewriting.{Step as STEP, is_calm, least_rule, next_step, weight, steps_of, calmed}
use Rattle.lang_model.proofs.Lighter.{steps_end}
use Rattle.rv_rewrite.specs.declared.step.Step.{Step}
use Rattle.rv_rewrite.specs.Steps.{step_of, steps_by_trees}
use Rattle.rv_rewrite.specs.Running.{StillInside, ReadyInside, Follows, Steps, Noted, Settles, ComesNearer, Walks}
use Rattle.rv_rewrite.proofs.Runs.{Goes, Then, ran, rests, all_of, last, still_here, then_minus, then_turned}
use Rattle.rv_rewrite.proofs.Steady.{least_follows}

pub trees-more : (xs : List Step) (y : Step) → steps_by_trees (xs ++ y ∷ []) ≡ steps_by_trees xs ++ step_of y ∷ []
trees-more [] y = refl
trees-more (x ∷ xs) y = ap (λ z. step_of x ∷ z) (trees-more xs y)

pub notes_one : (kept : Bool) (old new : List Step) (rule : ℕ) (before after : Expr) (t u : Tree)
    → new ≡ old ++ (record { rule = rule; before = before; after = after }) ∷ [] → tree_of before ≡ t → tree_of after ≡ u
    → least_rule t ≡ Some (rule, u) → Steps kept old new rule t u
notes_one kept old new rule before after t u e b a l = record {
  least = l;
  noted = λ k. ap steps_by_trees e ∙ trees-more old (record { rule = rule; before = before; after = after })
      ∙ (λ i. steps_by_trees old ++ (record { rule = rule; before = b i; after = a i }) ∷ []);
}

pub notes_none : (kept : Bool) (old : List Step) (rule : ℕ) (t u : Tree) → kept ≡ false → least_rule t ≡ Some (rule, u) → Steps kept old old rule t u
notes_none kept old rule t u e l = record { least = l; noted = λ k. absurd (false≢true (sym e ∙ k)) }

-- ---- a step at a node
the_step : ℕ → Tree → Tree → STEP
the_step rule t u = record { rule = rule; before = t; after = u }

next_at : (t : Tree) (rule : ℕ) (u : Tree) → is_calm t ≡ true → StillInside t → least_rule t ≡ Some (rule, u)
    → next_step t ≡ Some (record { rule = rule; before = t; after = u }, u)
next_at t rule u c s e =
    let made : Option (ℕ × Tree) → Option (STEP × Tree) = λ o. option_map (λ (x : ℕ × Tree). (record { rule = x.0; before = t; after = x.1 }, x.1)) o in
    still_here t s ∙ ap (λ b. cond b (made (least_rule t)) None) c ∙ ap made e

none_at : (t : Tree) → is_calm t ≡ true → StillInside t → least_rule t ≡ None → next_step t ≡ None
none_at t c s e =
    let made : Option (ℕ × Tree) → Option (STEP × Tree) = λ o. option_map (λ (x : ℕ × Tree). (record { rule = x.0; before = t; after = x.1 }, x.1)) o in
    still_here t s ∙ ap (λ b. cond b (made (least_rule t)) None) c ∙ ap made e

pub none_restless : (t : Tree) → is_calm t ≡ false → StillInside t → next_step t ≡ None
none_restless t c s =
    let made : Option (STEP × Tree) = option_map (λ (x : ℕ × Tree). (record { rule = x.0; before = t; after = x.1 }, x.1)) (least_rule t) in
    still_here t s ∙ ap (λ b. cond b made None) c

then_at : (t : Tree) (rule : ℕ) (u : Tree) → is_calm t ≡ true → StillInside t → least_rule t ≡ Some (rule, u)
    → Then t ((record { rule = rule; before = t; after = u }) ∷ []) u
then_at t rule u c s e = ran ((record { rule = rule; before = t; after = u }) ∷ []) t u (u, next_at t rule u c s e, refl)

-- ---- what settles
pub settled : (kept : Bool) (old : List Step) (t : Tree) → is_calm t ≡ true → StillInside t → least_rule t ≡ None
    → Settles kept old old t t
settled kept old t c s e =
    let r = rests t (none_at t c s e) in
    record { after = sym r.calm; calm = c; noted = λ k. ap (λ z. steps_by_trees old ++ z) r.steps }

pub follows_after : (t : Tree) (rule : ℕ) (u : Tree) → is_calm t ≡ true → StillInside t → least_rule t ≡ Some (rule, u) → Follows rule u
follows_after t rule u c s e = least_follows t (rule, u) (record { calm = c; still = s }) e

pub lighter_after : (t : Tree) (rule : ℕ) (u : Tree) → is_calm t ≡ true → StillInside t → least_rule t ≡ Some (rule, u) → weight u < weight t
lighter_after t rule u c s e = steps_end.lower t _ u (next_at t rule u c s e)

pub settled_after : (kept : Bool) (old one two new : List Step) (t : Tree) (rule : ℕ) (a u e : Tree) → is_calm t ≡ true → StillInside t
    → Steps kept old one rule t a → ComesNearer kept one two a u → Settles kept two new u e → Settles kept old new t e
settled_after kept old one two new t rule a u e c s n m f =
    let h = then_at t rule a c s n.least in
    record {
      after = f.after ∙ m.after ∙ sym h.calm;
      calm = f.calm;
      noted = λ k. ap (λ z. steps_by_trees old ++ z) h.steps
          ∙ sym (append_assoc (steps_by_trees old) ((record { rule = rule; before = t; after = a }) ∷ []) (steps_of a))
          ∙ ap (λ z. z ++ steps_of a) (sym (n.noted k)) ∙ m.noted k ∙ f.noted k;
    }

-- ---- what comes nearer
goes_lighter : (ss : List STEP) (t u : Tree) → Goes next_step t ss u → weight u ≤ weight t
goes_lighter [] t u g = let e : weight t ≡ weight u = ap weight g in omega (arith, e)
goes_lighter (s ∷ ss) t u g =
    let l : weight g.0 < weight t = steps_end.lower t s g.0 g.1 in
    let i = goes_lighter ss g.0 u g.2 in
    omega (arith, l, i)

lighter_calm : (t : Tree) → weight (calmed t) ≤ weight t
lighter_calm t = goes_lighter (steps_of t) t (calmed t) (all_of t)

-- steps of a part are noted, and those of the whole behind them are left
pub left_over : (kept : Bool) (old new : List Step) (ss whole more : List STEP) → whole ≡ ss ++ more → Noted kept old new ss [] → Noted kept old new whole more
left_over kept old new ss whole more e n = λ k. ap (λ z. steps_by_trees old ++ z) e ∙ sym (append_assoc (steps_by_trees old) ss more)
    ∙ ap (λ z. z ++ more) (n k ∙ append-nil (steps_by_trees new))

-- a prefix - comes nearer to its calm tree where its operand has settled: the operand's steps come first, and what is
-- left are the steps of the - on the calm operand
pub nearer_minus : (kept : Bool) (old new : List Step) (at : _) (of v : Tree) → Settles kept old new of v
    → ComesNearer kept old new (MinusTree at of) (MinusTree at v)
nearer_minus kept old new at of v f =
    let h = then_minus at (steps_of of) of (calmed of) (all_of of) in
    let l : weight (calmed of) ≤ weight of = lighter_calm of in
    let e : weight v ≡ weight (calmed of) = ap weight f.after in
    record {
      after = ap (λ z. calmed (MinusTree at z)) f.after ∙ sym h.calm;
      calm = f.calm;
      still = ap next_step f.after ∙ last of;
      distinct = refl;
      lighter = omega (arith, l, e);
      noted = left_over kept old new (steps_of of) _ _ (h.steps ∙ ap (λ z. steps_of of ++ steps_of (MinusTree at z)) (sym f.after)) f.noted;
    }

-- and so do signs ^ whose operand has settled
pub nearer_turned : (kept : Bool) (old new : List Step) (at : _) (n : ℕ) (of v : Tree) → Settles kept old new of v
    → ComesNearer kept old new (TurnedTree at of n) (TurnedTree at v n)
nearer_turned kept old new at n of v f =
    let h = then_turned at n (steps_of of) of (calmed of) (all_of of) in
    let l : weight (calmed of) ≤ weight of = lighter_calm of in
    let e : weight v ≡ weight (calmed of) = ap weight f.after in
    record {
      after = ap (λ z. calmed (TurnedTree at z n)) f.after ∙ sym h.calm;
      calm = f.calm;
      still = ap next_step f.after ∙ last of;
      distinct = refl;
      lighter = omega (arith, l, e);
      noted = left_over kept old new (steps_of of) _ _ (h.steps ∙ ap (λ z. steps_of of ++ steps_of (TurnedTree at z n)) (sym f.after)) f.noted;
    }

-- whether a node is a prefix - or signs ^
abbrev pub has_mark : Tree → Bool
has_mark (MinusTree at of) = true
has_mark (TurnedTree at of n) = true
has_mark _ = false

still_unmarked : (t : Tree) → has_mark t ≡ false → ReadyInside t → StillInside t
still_unmarked (MinusTree at of) h s = absurd (let z : true ≡ false = h in cc)
still_unmarked (TurnedTree at of n) h s = absurd (let z : true ≡ false = h in cc)
still_unmarked (NameTree at name) h s = s
still_unmarked (CallTree at name args) h s = s
still_unmarked (BaseTree at base args) h s = s
still_unmarked (InjectTree at base domain) h s = s
still_unmarked (PairTree at l r) h s = s
still_unmarked (ChainTree first links) h s = s

pub nearer_itself : (kept : Bool) (old : List Step) (rule : ℕ) (t : Tree) → StillInside t → Follows rule t → ComesNearer kept old old t t
nearer_itself kept old rule t s f = record {
  after = refl;
  calm = f.calm;
  still = s;
  distinct = f.distinct;
  lighter = omega arith;
  noted = λ k. refl;
}

pub nearer_unmarked : (kept : Bool) (old : List Step) (rule : ℕ) (t : Tree) → has_mark t ≡ false → Follows rule t → ComesNearer kept old old t t
nearer_unmarked kept old rule t h f = nearer_itself kept old rule t (still_unmarked t h f.ready) f

-- ---- what is finished
pub finished_restless : (kept : Bool) (old : List Step) (t : Tree) → is_calm t ≡ false → StillInside t → Walks kept old old t t false
finished_restless kept old t c s =
    let r = rests t (none_restless t c s) in
    record { after = sym r.calm; calm_or_not = sym c; noted = λ k. ap (λ z. steps_by_trees old ++ z) r.steps }

pub finished_calm : (kept : Bool) (old new : List Step) (t u : Tree) → Settles kept old new t u → Walks kept old new t u true
finished_calm kept old new t u f = record { after = f.after; calm_or_not = sym f.calm; noted = f.noted }
