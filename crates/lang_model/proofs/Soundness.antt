-- Static sizes are those of values, also through calls: by induction on how deep calls may stand in one another.
use Rattle.std.proofs.Common.{◌≡◌, ◌==◌, ℕ, zero, suc, Bool, true, false, cond, List, [], ◌∷◌, length, Option, Some, None, refl, sym, ap}
use Rattle.lang_model.specs.declared.syntax.Place.{Place}
use Rattle.lang_model.specs.declared.syntax.Decl.{Decl}
use Rattle.lang_model.specs.declared.syntax.Item.{Item}
use Rattle.lang_model.specs.declared.syntax.Item.TheVariants.{Function, Program, Command as COMMAND}
use Rattle.lang_model.specs.declared.syntax.Expr.{Expr}
use Rattle.lang_model.specs.declared.faults.StaticShape.{StaticShape}
use Rattle.lang_model.specs.declared.faults.TypeFault.TheVariants.{Arity}
use Rattle.rel_model.specs.Relation.{Relation}
use Rattle.lang_model.specs.State.{State, nothing, assigned}
use Rattle.lang_model.specs.Limits.{rank_limit}
use Rattle.lang_model.specs.Tokens.{same_text}
use Rattle.lang_model.specs.Outcomes.{Ill, Answer, Got, Not, refused, following}
use Rattle.lang_model.specs.Types.{Passed, Fits, Misfit}
use Rattle.lang_model.specs.Mean.{Calls, around_with, mean, run_by, bound, item_named, takes_arguments, body_of, called, calls_within}
use Rattle.lang_model.specs.Shape.{passing, Types, no_types, typed_as, around_types, shape, typed_by, types_bound, type_of_body, type_of_called, types_of_calls}
use Rattle.lang_model.specs.Sound.{Describes, Agree, CoversAt, Covers, StaticSizesHold}
use Rattle.lang_model.proofs.Sounding.{TypeCalls, AreDescribed, extends_self, covers_more, mean-agree, CoveredBy, by-grows, by-kept, agree_not}
use Rattle.lang_model.proofs.Bases.{based-agree, paired-agree, injected-agree, none_given}

abbrev CallsAgree : TypeCalls → Calls → Type 0
CallsAgree CT C = (at : Place) (name : List ℕ) (ss : List StaticShape) (rs : List Relation) (n : ℕ) → AreDescribed ss rs → Agree Describes (CT at name ss) (C at name rs n).answer

as_many : (ss : List StaticShape) (rs : List Relation) → AreDescribed ss rs → length ss ≡ length rs
as_many [] rs h = ap length (sym h)
as_many (s ∷ ss) [] h = absurd h
as_many (s ∷ ss) (r ∷ rs) h = ap suc (as_many ss rs h.1)

covers-nothing : (T : Types) → Covers T nothing
unfolding nothing
covers-nothing T name = tt

covers-bound : (ps : List (List ℕ)) (ss : List StaticShape) (rs : List Relation) → AreDescribed ss rs → Covers (types_bound ps ss) (bound ps rs)
unfolding nothing assigned no_types typed_as
covers-bound [] ss rs h = λ name. tt
covers-bound (p ∷ ps) [] [] h = λ name. tt
covers-bound (p ∷ ps) [] (r ∷ rs) h = absurd (let e : r ∷ rs ≡ [] = h in cc)
covers-bound (p ∷ ps) (s ∷ ss) [] h = absurd h
covers-bound (p ∷ ps) (s ∷ ss) (r ∷ rs) h = λ name. at (covers-bound ps ss rs h.1) name (same_text p name)
  where
    at : Covers (types_bound ps ss) (bound ps rs) → (name : List ℕ) (b : Bool) → CoversAt (cond b (Some s) (types_bound ps ss name)) (cond b (Some r) (bound ps rs name))
    at c name true = h.0
    at c name false = c name

module _ (CT : TypeCalls) (C : Calls) (calls : CallsAgree CT C) where
  result-agree : (ds : List Decl) (U : Types) (e : Expr) (a : Answer State) → CoveredBy U a → Agree Describes (shape (around_types CT ds) U e) (following a (λ S m. mean (around_with C ds) S e m)).answer
  result-agree ds U e (Got S n) c = mean-agree CT C ds calls based-agree injected-agree paired-agree U S c e n
  result-agree ds U e (Not why) c = agree_not Describes (shape (around_types CT ds) U e) why

  program-agree : (ds : List Decl) (ss : List _) (e : Expr) (T : Types) (S : State) (n : ℕ) (x : Passed Types) → Covers T S → typed_by (around_types CT ds) ss T ≡ x →
      Agree Describes (passing x (λ U. shape (around_types CT ds) U e)) (following (run_by (around_with C ds) ss S n).answer (λ V m. mean (around_with C ds) V e m)).answer
  program-agree ds ss e T S n (Misfit f) c h = tt
  program-agree ds ss e T S n (Fits U) c h =
      let x = by-grows CT ds ss T U h in
      result-agree ds U e (run_by (around_with C ds) ss S n).answer (by-kept CT C ds calls based-agree injected-agree paired-agree U ss T U h x (extends_self U) S (covers_more T U S x c) n)

  body-agree : (item : Item) (ss : List StaticShape) (rs : List Relation) (n : ℕ) → AreDescribed ss rs → Agree Describes (type_of_body CT ss item) (body_of C rs item n).answer
  body-agree (Function at name params body) ss rs n h = mean-agree CT C [] calls based-agree injected-agree paired-agree _ _ (covers-bound params.items ss rs h) body n
  body-agree (Program at name params decls body result) ss rs n h = program-agree decls.items body.items result (types_bound params.items ss) (bound params.items rs) n _ (covers-bound params.items ss rs h) refl
  body-agree (COMMAND command) ss rs n h = none_given

  called-agree : (at : Place) (name : List ℕ) (o : Option Item) (ss : List StaticShape) (rs : List Relation) (n : ℕ) → AreDescribed ss rs → Agree Describes (type_of_called CT at name o ss) (called C at name o rs n).answer
  called-agree at name None ss rs n h = tt
  called-agree at name (Some item) ss rs n h = by (takes_arguments item == length ss) (takes_arguments item == length rs) (ap (λ k. takes_arguments item == k) (as_many ss rs h))
    where
      by : (b c : Bool) → b ≡ c → Agree Describes (cond b (type_of_body CT ss item) (Misfit (Arity at name (takes_arguments item) (length ss)))) (cond c (body_of C rs item n) (refused (Ill (Arity at name (takes_arguments item) (length rs))))).answer
      by true true e = body-agree item ss rs n h
      by false c e = tt
      by true false e = absurd (let z : true ≡ false = e in cc)

calls-agree : (items : List Item) (rank : ℕ) → CallsAgree (types_of_calls items rank) (calls_within items rank)
calls-agree items zero at name ss rs n h = tt
calls-agree items (suc rank) at name ss rs n h = called-agree (types_of_calls items rank) (calls_within items rank) (calls-agree items rank) at name (item_named items name) ss rs n h

pub static_sizes : StaticSizesHold
static_sizes script types state e n c =
    mean-agree (types_of_calls script.items.items rank_limit) (calls_within script.items.items rank_limit) [] (calls-agree script.items.items rank_limit) based-agree injected-agree paired-agree types state c e n
