-- The laws of what is Ill, from both sides: by names never, and by sizes only where one was unknown.
use Rattle.std.proofs.Common.{◌≡◌, Bool, true, false, [], Option, Some, None, option_map, refl, subst}
use Rattle.lang_model.specs.declared.syntax.Place.{Place}
use Rattle.lang_model.specs.declared.faults.TypeFault.{TypeFault}
use Rattle.lang_model.specs.declared.faults.TypeFault.TheVariants.{Unknown, Arity, Unassigned, Rank, Mismatch, NotSquare, NotVector, NotTest, Twice, NoMemory}
use Rattle.rel_model.specs.Relation.{Relation}
use Rattle.lang_model.specs.State.{State}
use Rattle.lang_model.specs.Outcomes.{Ill}
use Rattle.lang_model.specs.Checking.{place_of}
use Rattle.lang_model.specs.Limits.{rank_limit}
use Rattle.lang_model.specs.Types.{sizes}
use Rattle.lang_model.specs.Mean.{calls_within}
use Rattle.lang_model.specs.Shape.{types_of_calls}
use Rattle.lang_model.specs.Sound.{Describes, CoversAt, Covers}
use Rattle.lang_model.specs.Eval.{types_in}
use Rattle.rv_eval.specs.Faultless.{IsOfSizes}
use Rattle.rv_eval.specs.Unknown.{known_calls, IllWhereUnknown, NeverIllWhereKnown}
use Rattle.rv_eval.proofs.Knowing.{AtFault, Sure}
use Rattle.rv_eval.proofs.Known.{expression-sure, calls-sure}
use Rattle.rv_eval.proofs.Calls.{no_call_is_ill}

-- the types of a state describe it
covers-own : (state : State) → Covers (types_in state) state
covers-own state name = by (state name)
  where
    by : (o : Option Relation) → CoversAt (option_map sizes o) o
    by None = tt
    by (Some r) = record { row_size = refl; col_size = refl }

at_place : (p : Place → Bool) (fault : TypeFault) → IsOfSizes fault → AtFault p fault → p (place_of fault) ≡ true
at_place p (Mismatch at op left right) h k = k
at_place p (NotSquare at op shape) h k = k
at_place p (NotVector at op shape) h k = k
at_place p (NotTest at shape) h k = k
at_place p (Unknown at name) h k = absurd h
at_place p (Arity at name takes given) h k = absurd h
at_place p (Unassigned at name) h k = absurd h
at_place p (Rank at name) h k = absurd h
at_place p (Twice at name) h k = absurd h
at_place p NoMemory h k = absurd h

pub ill_where_unknown : IllWhereUnknown
ill_where_unknown script e state n s p fault clean own there fits known a =
    at_place p fault (no_call_is_ill script e state n (Ill fault) clean own there a)
    (subst (Sure p Describes s) a
    (expression-sure p (known_calls p script.items.items rank_limit) (types_of_calls script.items.items rank_limit) (calls_within script.items.items rank_limit) [] (calls-sure p script.items.items rank_limit) (types_in state) state (covers-own state) e s fits known n))

pub never_ill_where_known : NeverIllWhereKnown
never_ill_where_known script e state n s fault clean own there fits known a =
    let z : false ≡ true = ill_where_unknown script e state n s (λ at. false) fault clean own there fits known a in cc
