-- The types of names are those of the state that they mean.
use Rattle.std.proofs.Common.{◌≡◌, ◌<◌, ◌+◌, ◌++◌, ◌∙◌, ◌⊎◌, inl, inr, Err, subst, length, take, get_or, ℕ, Bool, true, false, cond, List, [], ◌∷◌, map, Option, Some, None, Result, Ok, refl, sym, ap}
use Rattle.std.proofs.lemmas.List.{take_more}
use Rattle.std.specs.Prelude.{option_and_then, option_map, IfOk, IfSome, IsErrOf}
use Rattle.rel_model.specs.declared.Rel.{Rel}
use Rattle.rel_model.specs.Relation.{Relation, IsRelation}
use Rattle.rel_model.specs.Worker.{Worker, Stands, set_of}
use Rattle.rel_model.proofs.Workers.{stands_some}
use Rattle.rel_slices.specs.declared.thin.Value.{Value}
use Rattle.rel_slices.specs.Thin.{IsLines}
use Rattle.lang_model.specs.declared.syntax.Place.{Place}
use Rattle.lang_model.specs.declared.syntax.Expr.{Expr, Ref, Call', Base', Inject, Pair', Minus', Turned', Chain'}
use Rattle.lang_model.specs.declared.syntax.Script.{Script}
use Rattle.lang_model.specs.declared.faults.StaticShape.{StaticShape}
use Rattle.lang_model.specs.declared.faults.TypeFault.{TypeFault}
use Rattle.lang_model.specs.declared.faults.TypeFault.TheVariants.{Unknown, NoMemory as FAULT_NO_MEMORY}
use Rattle.lang_model.specs.Tokens.{same_text}
use Rattle.lang_model.specs.State.{State}
use Rattle.lang_model.specs.Missing.{missing, first_of_both}
use Rattle.lang_model.specs.Types.{Fits, Misfit, Typed, known, sizes}
use Rattle.lang_model.specs.Shape.{Types, static_type}
use Rattle.lang_model.specs.Trees.{tree_of}
use Rattle.lang_model.specs.Rewriting.{calmed}
use Rattle.lang_model.specs.Calm.{AreRelations}
use Rattle.lang_model.specs.Eval.{Evaluated, Ahead, Comes, types_in, misfit_of, early_fault, unless_early, meaning_when_calm, evaluated, IsCompound}
use Rattle.lang_model.proofs.Seeing.{comes_unless_early}
use Rattle.rv_types.specs.Shaping.{types_of}
use Rattle.rel_model.specs.declared.Lack.TheVariants.{NoMemory as NO_MEMORY}
use Rattle.rv_eval.specs.declared.halt.Halt.{Halt}
use Rattle.rv_eval.specs.declared.halt.Halt.TheVariants.{Ill as ILL, Lack as LACK}
use Rattle.rv_eval.specs.declared.halt.Refused.{Refused}
use Rattle.rv_eval.specs.declared.halt.Refused.TheVariants.{Ill as IllRefused, Size as SizeRefused, Turns as TurnsRefused, Nodes, NoMemory}
use Rattle.rv_eval.specs.Refusing.{told, told_ill, IsRefusedAhead, IsEvaluatedBy}
use Rattle.rv_eval.specs.Names.{HasSizes, rel_of, state_of, typed_pair_of, AllStand}

types-pairs : (env : List (List ℕ × Rel)) (n : List ℕ)
    → types_of (map typed_pair_of env) n ≡ option_map (λ (r : Rel). known r.rows r.cols) (rel_of env n)
types-pairs [] n = refl
types-pairs (x ∷ xs) n = at (same_text x.0 n) (types-pairs xs n)
  where
    at : (b : Bool) → types_of (map typed_pair_of xs) n ≡ option_map (λ (r : Rel). known r.rows r.cols) (rel_of xs n)
        → cond b (Some (known x.1.rows x.1.cols)) (types_of (map typed_pair_of xs) n)
        ≡ option_map (λ (r : Rel). known r.rows r.cols) (cond b (Some x.1) (rel_of xs n))
    at true e = refl
    at false e = e

types-state : (w : Worker) (env : List (List ℕ × Rel)) → HasSizes w → AllStand w env → (n : List ℕ)
    → option_map (λ (r : Rel). known r.rows r.cols) (rel_of env n) ≡ types_in (state_of w env) n
types-state w env laws s n = at (rel_of env n) (s n)
  where
    at : (o : Option Rel) → ((r : Rel) → o ≡ Some r → Stands w r)
        → option_map (λ (r : Rel). known r.rows r.cols) o ≡ option_map sizes (option_and_then w.relation o)
    at None h = refl
    at (Some r) h =
        sym (ap (option_map sizes) (stands_some w r (h r refl)) ∙ ap (λ m. Some (known m (set_of w r).cols)) (laws.rows r (h r refl))
        ∙ ap (λ k. Some (known r.rows k)) (laws.cols r (h r refl)))

pub same_types : (w : Worker) (env : List (List ℕ × Rel)) → HasSizes w → AllStand w env
    → types_of (map typed_pair_of env) ≡ types_in (state_of w env)
same_types w env laws s = λ i n. (types-pairs env n ∙ types-state w env laws s n) i

typed-append : (xs : List (List ℕ × Rel)) (x : List ℕ × Rel) → map typed_pair_of (xs ++ x ∷ []) ≡ map typed_pair_of xs ++ typed_pair_of x ∷ []
typed-append [] x = refl
typed-append (y ∷ ys) x = ap (λ zs. typed_pair_of y ∷ zs) (typed-append ys x)

pub typed-step : (env : List (List ℕ × Rel)) (k : ℕ) (x : List ℕ × Rel) → k < length env → x ≡ get_or env k x
    → map typed_pair_of (take (k + 1) env) ≡ map typed_pair_of (take k env) ++ typed_pair_of x ∷ []
typed-step env k x h is =
    ap (map typed_pair_of) (take_more env k x h ∙ ap (λ y. take k env ++ y ∷ []) (sym is)) ∙ typed-append (take k env) x

-- ---- what comes ahead
module _ (script : Script) (s : State) (e : Expr) where
  pub unknown_first : (at : Place) (name : List ℕ) → missing s e ≡ Some (at, name) → early_fault script s e ≡ Some (Unknown at name)
  unfolding early_fault
  unknown_first at name m = ap (λ o. first_of_both (option_map (λ x. Unknown x.0 x.1) o) (misfit_of (static_type script (types_in s) e))) m

  -- where no name is unknown, the early fault is the static misfit: the first of the two is the second
  then_misfit : missing s e ≡ None → early_fault script s e ≡ misfit_of (static_type script (types_in s) e)
  unfolding early_fault
  then_misfit m = ap (λ o. first_of_both (option_map (λ x. Unknown x.0 x.1) o) (misfit_of (static_type script (types_in s) e))) m

  -- with the types of names that the code has
  module _ (types : Types) (same : types ≡ types_in s) where
    same_typed : static_type script types e ≡ static_type script (types_in s) e
    same_typed = ap (λ x. static_type script x e) same

    misfit_early : missing s e ≡ None → (fault : TypeFault) → static_type script types e ≡ Misfit fault → early_fault script s e ≡ Some fault
    misfit_early m fault h = then_misfit m ∙ ap misfit_of (sym same_typed ∙ h)

    pub none_early : missing s e ≡ None → (t : StaticShape) → static_type script types e ≡ Fits t → early_fault script s e ≡ None
    none_early m t h = then_misfit m ∙ ap misfit_of (sym same_typed ∙ h)

    pub maybe_misfit_early : missing s e ≡ None → (fault : TypeFault) → (fault ≡ FAULT_NO_MEMORY) ⊎ (static_type script types e ≡ Misfit fault)
        → (fault ≡ FAULT_NO_MEMORY) ⊎ (early_fault script s e ≡ Some fault)
    maybe_misfit_early m fault (inl x) = inl x
    maybe_misfit_early m fault (inr x) = inr (misfit_early m fault x)

  -- and where nothing comes ahead, the static types fit
  fits_both : (m : Option (Place × List ℕ)) (t : Typed) → first_of_both (option_map (λ x. Unknown x.0 x.1) m) (misfit_of t) ≡ None → (type : StaticShape) × (t ≡ Fits type)
  fits_both (Some x) t h = absurd (let z : Some (Unknown x.0 x.1) ≡ None = h in cc)
  fits_both None (Misfit fault) h = absurd (let z : Some fault ≡ None = h in cc)
  fits_both None (Fits type) h = (type, refl)

  pub fits_unless_early : early_fault script s e ≡ None → (type : StaticShape) × (static_type script (types_in s) e ≡ Fits type)
  unfolding early_fault
  fits_unless_early h = fits_both (missing s e) (static_type script (types_in s) e) h

  pub early_evaluated : (turns : ℕ) (fault : TypeFault) → early_fault script s e ≡ Some fault → evaluated script s e turns ≡ Ahead fault
  early_evaluated turns fault h = comes_unless_early script s e turns ∙ ap (λ o. unless_early o (meaning_when_calm script s e turns)) h

  pub calm_evaluated : (turns : ℕ) → early_fault script s e ≡ None → evaluated script s e turns ≡ Comes (meaning_when_calm script s e turns)
  calm_evaluated turns h = comes_unless_early script s e turns ∙ ap (λ o. unless_early o (meaning_when_calm script s e turns)) h

-- ---- how it is told
pub ill_ahead : (early : Option TypeFault) (fault : TypeFault) → early ≡ Some fault → IsRefusedAhead early (told_ill fault)
ill_ahead early FAULT_NO_MEMORY h = tt
ill_ahead early fault h = h

pub maybe_ill_ahead : (early : Option TypeFault) (fault : TypeFault) (r : Refused) → r ≡ told_ill fault → (fault ≡ FAULT_NO_MEMORY) ⊎ (early ≡ Some fault) → IsRefusedAhead early r
maybe_ill_ahead early fault r t (inl m) = subst (IsRefusedAhead early) (sym (t ∙ ap told_ill m)) tt
maybe_ill_ahead early fault r t (inr e) = subst (IsRefusedAhead early) (sym t) (ill_ahead early fault e)

pub halt_ahead : (early : Option TypeFault) (fault : TypeFault) (h : Halt) (r : Refused) → r ≡ told 0 h → (h ≡ ILL fault) ⊎ (h ≡ LACK NO_MEMORY) → early ≡ Some fault → IsRefusedAhead early r
halt_ahead early fault h r t (inl i) e = subst (IsRefusedAhead early) (sym (t ∙ ap (told 0) i)) (ill_ahead early fault e)
halt_ahead early fault h r t (inr m) e = subst (IsRefusedAhead early) (sym (t ∙ ap (told 0) m)) tt

-- a full table is no refusal ahead
pub never_full_ahead : (early : Option TypeFault) (r : Refused) → IsRefusedAhead early r → IsErrOf {T = Value} (Err r) Nodes → ⊥
never_full_ahead early (IllRefused own) h e = cc
never_full_ahead early (SizeRefused at wanted limit) h e = h
never_full_ahead early (TurnsRefused at limit) h e = h
never_full_ahead early Nodes h e = h
never_full_ahead early NoMemory h e = cc

memory_evaluated : {X : Type 0} (is : X → Relation) (w : Worker) (turns : ℕ) (e : Evaluated) → IsEvaluatedBy is w w turns e (Err NoMemory)
memory_evaluated is w turns (Ahead fault) = (tt, refl)
memory_evaluated is w turns (Comes came) = tt

-- what is refused ahead is evaluated so
module _ (script : Script) (s : State) (e : Expr) (w : Worker) (turns : ℕ) where
  pub ahead_evaluated : {X : Type 0} (is : X → Relation) (r : Refused) → IsRefusedAhead (early_fault script s e) r → IsEvaluatedBy is w w turns (evaluated script s e turns) (Err r)
  ahead_evaluated is (IllRefused own) h = subst (λ x. IsEvaluatedBy is w w turns x (Err (IllRefused own))) (sym (early_evaluated script s e turns own h)) (refl, refl)
  ahead_evaluated is (SizeRefused at wanted limit) h = absurd h
  ahead_evaluated is (TurnsRefused at limit) h = absurd h
  ahead_evaluated is Nodes h = absurd h
  ahead_evaluated is NoMemory h = memory_evaluated is w turns (evaluated script s e turns)

-- ---- names are calm, and what names have are relations
calm_itself : (at : Place) (name : List ℕ) → calmed (tree_of (Ref at name)) ≡ tree_of (Ref at name)
unfolding calmed
calm_itself at name = refl

pub calm_name : (e : Expr) (at : Place) (name : List ℕ) → e ≡ Ref at name → calmed (tree_of e) ≡ tree_of e
calm_name e at name h = ap (λ x. calmed (tree_of x)) h ∙ calm_itself at name ∙ ap tree_of (sym h)

-- and all else is compound
pub compound_unless_name : (e : Expr) → ((at : Place) (name : List ℕ) → e ≡ Ref at name → ⊥) → IsCompound e
compound_unless_name (Ref at name) h = absurd (h at name refl)
compound_unless_name (Call' at name sh args) h = tt
compound_unless_name (Base' at base sh args) h = tt
compound_unless_name (Inject at base domain) h = tt
compound_unless_name (Pair' at p left q right) h = tt
compound_unless_name (Minus' at p of) h = tt
compound_unless_name (Turned' at p of times) h = tt
compound_unless_name (Chain' p first sh rest) h = tt

-- so a value of such an expression may be lines
pub any_lines : (r : Result Value Refused) (e : Expr) → IsCompound e → IfOk r (λ v. IsLines v → IsCompound e)
any_lines (Ok v) e h = λ l. h
any_lines (Err x) e h = tt

pub are_relations : (w : Worker) (env : List (List ℕ × Rel)) → ((r : Rel) → Stands w r → IsRelation (set_of w r)) → AllStand w env → AreRelations (state_of w env)
are_relations w env valid s name = at (rel_of env name) (s name)
  where
    at : (o : Option Rel) → ((r : Rel) → o ≡ Some r → Stands w r) → IfSome (option_and_then w.relation o) IsRelation
    at None h = tt
    at (Some r) h = subst (λ o. IfSome o IsRelation) (sym (stands_some w r (h r refl))) (valid r (h r refl))
