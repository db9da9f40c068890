-- An expression of a command sees of a state the relations of its own names: so do the search for an unknown name, the
-- static types, and the meaning. Calls see no state, and a command has no declared domain.
use Rattle.std.proofs.Common.{◌≡◌, ℕ, List, [], ◌∷◌, ◌++◌, Option, Some, None, is_some, option_map, cond, refl, ap}
use Rattle.lang_model.specs.declared.syntax.Place.{Place}
use Rattle.lang_model.specs.declared.syntax.Expr.{
  Expr,
  Ref,
  Call',
  Base',
  Inject,
  Pair',
  Minus',
  Turned',
  Chain',
  Row_of-Expr,
  end_of-Expr,
  more_of-Expr,
  Row_of-Link,
  end_of-Link,
  more_of-Link,
}
use Rattle.lang_model.specs.declared.syntax.Script.{Script}
use Rattle.lang_model.specs.declared.faults.StaticShape.{StaticShape}
use Rattle.lang_model.specs.declared.faults.TypeFault.TheVariants.{Unknown}
use Rattle.rel_model.specs.Relation.{Relation}
use Rattle.lang_model.specs.State.{State}
use Rattle.lang_model.specs.Limits.{rank_limit}
use Rattle.lang_model.specs.Trees.{tree_of}
use Rattle.lang_model.specs.Rewriting.{calmed}
use Rattle.lang_model.proofs.Using.{Same, uses_calmed, uses_names, same_tree_mean}
use Rattle.lang_model.specs.Missing.{missing, missing_in, missing_along, first_of_both}
use Rattle.lang_model.specs.Outcomes.{Came, and_then, with_turns}
use Rattle.lang_model.specs.Types.{Fits, Misfit, Typed, sizes, typed_link, typed_pair, type_turned_by}
use Rattle.lang_model.specs.Shape.{passing, typed_name, typed_based, around_types, shape, shapes, shape_along, types_of_calls, static_type}
use Rattle.lang_model.specs.Mean.{Calls, around_with, named, based, paired, complemented, turned, linked, mean, means, mean_along, calls_within}
use Rattle.lang_model.specs.Eval.{
  unless_misfit,
  unless_missing,
  misfit_of,
  at_cost_of,
  meaning_when_calm,
  unless_early,
  ComesUnlessEarly,
  early_fault,
  types_in,
  evaluated,
  names_in,
  names_in_all,
  names_along,
  AgreeOn,
  EvaluatedByNames,
}

module _ (s t : State) where
  agree_left : (xs ys : List (List ℕ)) → AgreeOn s t (xs ++ ys) → AgreeOn s t xs
  agree_left [] ys h = tt
  agree_left (x ∷ xs) ys h = (h.0, agree_left xs ys h.1)

  -- states that agree on two lists of names agree on the second, by induction on the first
  agree_right : (xs ys : List (List ℕ)) → AgreeOn s t (xs ++ ys) → AgreeOn s t ys
  agree_right [] ys h = h
  agree_right (x ∷ xs) ys h = agree_right xs ys h.1

  -- ---- unknown names
  mutual
    same_missing : (e : Expr) → AgreeOn s t (names_in e) → missing s e ≡ missing t e
    same_missing (Ref at name) h = ap (λ (o : Option Relation). cond (is_some o) None (Some (at, name))) h.0
    same_missing (Call' at name sh args) h = same_missing_in args h
    same_missing (Base' at base sh args) h = same_missing_in args h
    same_missing (Inject at base domain) h = refl
    same_missing (Pair' at p left q right) h = λ i.
        first_of_both (same_missing left (agree_left (names_in left) (names_in right) h) i)
        (same_missing right (agree_right (names_in left) (names_in right) h) i)
    same_missing (Minus' at p of) h = same_missing of h
    same_missing (Turned' at p of times) h = same_missing of h
    same_missing (Chain' p first sh rest) h = λ i.
        first_of_both (same_missing first (agree_left (names_in first) (names_along rest) h) i)
        (same_missing_along rest (agree_right (names_in first) (names_along rest) h) i)

    same_missing_in : {m : _} (k : Row_of-Expr m) → AgreeOn s t (names_in_all k) → missing_in s k ≡ missing_in t k
    same_missing_in end_of-Expr h = refl
    same_missing_in (more_of-Expr e rest) h = λ i.
        first_of_both (same_missing e (agree_left (names_in e) (names_in_all rest) h) i)
        (same_missing_in rest (agree_right (names_in e) (names_in_all rest) h) i)

    same_missing_along : {m : _} (k : Row_of-Link m) → AgreeOn s t (names_along k) → missing_along s k ≡ missing_along t k
    same_missing_along end_of-Link h = refl
    same_missing_along (more_of-Link at op right rest) h = λ i.
        first_of_both (same_missing right (agree_left (names_in right) (names_along rest) h) i)
        (same_missing_along rest (agree_right (names_in right) (names_along rest) h) i)

  -- ---- static types
  module _ (calls : Place → List ℕ → List StaticShape → Typed) where
    mutual
      same_shape : (e : Expr) → AgreeOn s t (names_in e) →
          shape (around_types calls []) (types_in s) e ≡ shape (around_types calls []) (types_in t) e
      same_shape (Ref at name) h = ap (λ (o : Option Relation). typed_name at name (option_map sizes o)) h.0
      same_shape (Call' at name sh args) h = λ i. passing (same_shapes [] args h i) (λ ts. calls at name ts)
      same_shape (Base' at base sh args) h = λ i. passing (same_shapes [] args h i) (λ ts. typed_based at base ts)
      same_shape (Inject at base domain) h = refl
      same_shape (Pair' at p left q right) h = λ i.
          passing (same_shape left (agree_left (names_in left) (names_in right) h) i) (λ l.
          passing (same_shape right (agree_right (names_in left) (names_in right) h) i) (λ r. typed_pair at l r))
      same_shape (Minus' at p of) h = same_shape of h
      same_shape (Turned' at p of times) h = λ i. passing (same_shape of h i) (λ u. Fits (type_turned_by times u))
      same_shape (Chain' p first sh rest) h = λ i.
          passing (same_shape first (agree_left (names_in first) (names_along rest) h) i) (λ u.
          same_shape_along u rest (agree_right (names_in first) (names_along rest) h) i)

      same_shapes : (us : List StaticShape) {m : _} (k : Row_of-Expr m) → AgreeOn s t (names_in_all k) →
          shapes (around_types calls []) (types_in s) us k ≡ shapes (around_types calls []) (types_in t) us k
      same_shapes us end_of-Expr h = refl
      same_shapes us (more_of-Expr e rest) h = λ i.
          passing (same_shape e (agree_left (names_in e) (names_in_all rest) h) i) (λ u.
          same_shapes (us ++ u ∷ []) rest (agree_right (names_in e) (names_in_all rest) h) i)

      same_shape_along : (u : StaticShape) {m : _} (k : Row_of-Link m) → AgreeOn s t (names_along k) →
          shape_along (around_types calls []) (types_in s) u k ≡ shape_along (around_types calls []) (types_in t) u k
      same_shape_along u end_of-Link h = refl
      same_shape_along u (more_of-Link at op right rest) h = λ i.
          passing (same_shape right (agree_left (names_in right) (names_along rest) h) i) (λ v.
          passing (typed_link at op u v) (λ w.
          same_shape_along w rest (agree_right (names_in right) (names_along rest) h) i))

  -- ---- meanings
  module _ (calls : Calls) where
    mutual
      same_mean : (e : Expr) (n : ℕ) → AgreeOn s t (names_in e) →
          mean (around_with calls []) s e n ≡ mean (around_with calls []) t e n
      same_mean (Ref at name) n h = ap (λ (o : Option Relation). with_turns (named at name o) n) h.0
      same_mean (Call' at name sh args) n h = λ i. and_then (same_means [] args n h i) (λ vs m. calls at name vs m)
      same_mean (Base' at base sh args) n h = λ i.
          and_then (same_means [] args n h i) (λ vs m. with_turns (based at base vs) m)
      same_mean (Inject at base domain) n h = refl
      same_mean (Pair' at p left q right) n h = λ i.
          and_then (same_mean left n (agree_left (names_in left) (names_in right) h) i) (λ l m.
          and_then (same_mean right m (agree_right (names_in left) (names_in right) h) i) (λ r k.
          with_turns (paired at l r) k))
      same_mean (Minus' at p of) n h = λ i. and_then (same_mean of n h i) (λ r m. with_turns (complemented r) m)
      same_mean (Turned' at p of times) n h = λ i.
          and_then (same_mean of n h i) (λ r m. with_turns (turned times r) m)
      same_mean (Chain' p first sh rest) n h = λ i.
          and_then (same_mean first n (agree_left (names_in first) (names_along rest) h) i) (λ r m.
          same_along r rest m (agree_right (names_in first) (names_along rest) h) i)

      same_means : (vs : List Relation) {m : _} (k : Row_of-Expr m) (n : ℕ) → AgreeOn s t (names_in_all k) →
          means (around_with calls []) s vs k n ≡ means (around_with calls []) t vs k n
      same_means vs end_of-Expr n h = refl
      same_means vs (more_of-Expr e rest) n h = λ i.
          and_then (same_mean e n (agree_left (names_in e) (names_in_all rest) h) i) (λ r m.
          same_means (vs ++ r ∷ []) rest m (agree_right (names_in e) (names_in_all rest) h) i)

      same_along : (r : Relation) {m : _} (k : Row_of-Link m) (n : ℕ) → AgreeOn s t (names_along k) →
          mean_along (around_with calls []) s r k n ≡ mean_along (around_with calls []) t r k n
      same_along r end_of-Link n h = refl
      same_along r (more_of-Link at op right rest) n h = λ i.
          and_then (same_mean right n (agree_left (names_in right) (names_along rest) h) i) (λ v m.
          and_then (with_turns (linked at op r v) m) (λ w k.
          same_along w rest k (agree_right (names_in right) (names_along rest) h) i))

-- ---- both refusals, the meaning, and the cost of the calm tree
pub value_by_names : (script : Script) (s t : State) (e : Expr) (turns : ℕ) → AgreeOn s t (names_in e) → evaluated script s e turns ≡ evaluated script t e turns
unfolding evaluated
value_by_names script s t e turns h =
    let calls = calls_within script.items.items rank_limit in
    let calm = same_tree_mean s t calls (calmed (tree_of e)) turns (uses_calmed (Same s t) (tree_of e) (uses_names s t e h)) in
    λ i.
    unless_missing (same_missing s t e h i)
    (unless_misfit (same_shape s t (types_of_calls script.items.items rank_limit) e h i)
    (at_cost_of (calm i) (same_mean s t calls e turns h i)))

early_by_names : (script : Script) (s t : State) (e : Expr) → AgreeOn s t (names_in e) → early_fault script s e ≡ early_fault script t e
unfolding early_fault
early_by_names script s t e h = λ i.
    first_of_both (option_map (λ name. Unknown name.0 name.1) (same_missing s t e h i))
    (misfit_of (same_shape s t (types_of_calls script.items.items rank_limit) e h i))

pub by_names : EvaluatedByNames
by_names = record { value = value_by_names; early = early_by_names }

-- ---- the fault ahead of all computing
pub comes_unless_early : ComesUnlessEarly
unfolding evaluated early_fault
comes_unless_early script state e turns =
    at (missing state e) (static_type script (types_in state) e) (meaning_when_calm script state e turns)
  where
    at : (o : Option (Place × List ℕ)) (t : Typed) (came : Came Relation) → unless_missing o (unless_misfit t came)
        ≡ unless_early (first_of_both (option_map (λ name. Unknown name.0 name.1) o) (misfit_of t)) came
    at (Some name) t came = refl
    at None (Misfit fault) came = refl
    at None (Fits shape) came = refl
