-- Where an unknown static size is tested: says that a property of places holds at each such node of the walk over
-- types.
use Rattle.std.specs.Prelude.{◌≡◌, ◌&&◌, ◌||◌, ◌++◌, zero, suc, ℕ, Bool, true, false, List, [], ◌∷◌, Option, Some, None, is_some}
use Rattle.lang_model.specs.declared.syntax.Place.{Place}
use Rattle.lang_model.specs.declared.syntax.Op2.{Op2}
use Rattle.lang_model.specs.declared.syntax.Op2.TheVariants.{Or, And, Times, Under, Over}
use Rattle.lang_model.specs.declared.syntax.Base.{Base}
use Rattle.lang_model.specs.declared.syntax.Base.TheVariants.{I, Trans, Refl, Less, Hasse, Quot, Epsi, Point, Init, Next, Inj}
use Rattle.lang_model.specs.declared.syntax.Base.TheVariants.{Syq, Eq, Incl, Ubd, Lbd, Least, Greatest, Sup, Inf}
use Rattle.lang_model.specs.declared.syntax.Expr.{Expr, Ref, Call', Base', Inject, Pair', Minus', Turned', Chain', Row_of-Expr, end_of-Expr, more_of-Expr, Row_of-Link, end_of-Link, more_of-Link}
use Rattle.lang_model.specs.declared.syntax.Stmt.{Stmt, Set, While', If', Row_of-Stmt, end_of-Stmt, more_of-Stmt}
use Rattle.lang_model.specs.declared.syntax.Item.{Item}
use Rattle.lang_model.specs.declared.syntax.Item.TheVariants.{Function, Program, Command as COMMAND}
use Rattle.lang_model.specs.declared.syntax.Script.{Script}
use Rattle.lang_model.specs.declared.faults.TypeFault.{TypeFault}
use Rattle.lang_model.specs.declared.faults.StaticShape.{StaticShape}
use Rattle.lang_model.specs.State.{State}
use Rattle.lang_model.specs.Missing.{missing}
use Rattle.lang_model.specs.Outcomes.{Ill, Not}
use Rattle.lang_model.specs.Types.{Passed, Fits, Misfit, Typed, typed_link}
use Rattle.lang_model.specs.Checking.{place_of, flaw}
use Rattle.lang_model.specs.Limits.{rank_limit}
use Rattle.lang_model.specs.Mean.{item_named, meaning}
use Rattle.lang_model.specs.Shape.{Types, AroundTypes, around_types, types_bound, shape, shapes, typed_behind, typed_within, typed_by, types_of_calls, static_type}
use Rattle.lang_model.specs.Eval.{types_in}
use Rattle.rv_eval.specs.Faultless.{IsOfCommand}

-- whether all these sizes are known
abbrev pub all_known : List (Option ℕ) → Bool
all_known [] = true
all_known (n ∷ ns) = is_some n && all_known ns

-- the place where these sizes are tested has the property, or all of them are known
abbrev pub KnownOr : (Place → Bool) → Place → List (Option ℕ) → Type 0
KnownOr p at sizes = (all_known sizes || p at) ≡ true

-- ---- the sizes that a node tests
-- by an operator
abbrev pub tested_by_link : Op2 → StaticShape → StaticShape → List (Option ℕ)
tested_by_link Or s t = s.rows ∷ t.rows ∷ s.cols ∷ t.cols ∷ []
tested_by_link And s t = s.rows ∷ t.rows ∷ s.cols ∷ t.cols ∷ []
tested_by_link Times s t = s.cols ∷ t.rows ∷ []
tested_by_link Under s t = s.rows ∷ t.rows ∷ []
tested_by_link Over s t = s.cols ∷ t.cols ∷ []

-- by a base call of one operand
abbrev pub tested_by_base : Base → StaticShape → List (Option ℕ)
tested_by_base I s = s.rows ∷ s.cols ∷ []
tested_by_base Trans s = s.rows ∷ s.cols ∷ []
tested_by_base Refl s = s.rows ∷ s.cols ∷ []
tested_by_base Less s = s.rows ∷ s.cols ∷ []
tested_by_base Hasse s = s.rows ∷ s.cols ∷ []
tested_by_base Quot s = s.rows ∷ s.cols ∷ []
tested_by_base Epsi s = s.cols ∷ []
tested_by_base Point s = s.cols ∷ []
tested_by_base Init s = s.cols ∷ []
tested_by_base Next s = s.cols ∷ []
tested_by_base Inj s = s.cols ∷ []
tested_by_base _ s = []

-- by a base call of two operands
abbrev pub tested_by_base_of_two : Base → StaticShape → StaticShape → List (Option ℕ)
tested_by_base_of_two Syq s t = s.rows ∷ t.rows ∷ []
tested_by_base_of_two Eq s t = s.rows ∷ t.rows ∷ s.cols ∷ t.cols ∷ []
tested_by_base_of_two Incl s t = s.rows ∷ t.rows ∷ s.cols ∷ t.cols ∷ []
tested_by_base_of_two Ubd s t = s.rows ∷ s.cols ∷ t.rows ∷ []
tested_by_base_of_two Lbd s t = s.rows ∷ s.cols ∷ t.rows ∷ []
tested_by_base_of_two Least s t = s.rows ∷ s.cols ∷ t.rows ∷ []
tested_by_base_of_two Greatest s t = s.rows ∷ s.cols ∷ t.rows ∷ []
tested_by_base_of_two Sup s t = s.rows ∷ s.cols ∷ t.rows ∷ []
tested_by_base_of_two Inf s t = s.rows ∷ s.cols ∷ t.rows ∷ []
tested_by_base_of_two _ s t = []

-- by a base call of these operands
abbrev pub tested_by_bases : Base → List StaticShape → List (Option ℕ)
tested_by_bases base [] = []
tested_by_bases base (s ∷ []) = tested_by_base base s
tested_by_bases base (s ∷ t ∷ []) = tested_by_base_of_two base s t
tested_by_bases base (s ∷ t ∷ u ∷ us) = []

-- ---- the walk
-- what is claimed of a type, if there is one and not a fault
abbrev pub OfPassed : {T : Type 0} → Passed T → (T → Type 0) → Type 0
OfPassed (Fits x) Q = Q x
OfPassed (Misfit fault) Q = Unit {0}

-- what is claimed inside calls: of a call at a place, of a name, with arguments of these types
abbrev pub CallsKnown : Type 1
CallsKnown = Place → List ℕ → List StaticShape → Type 0

-- each node that tests an unknown size has the property
abbrev mutual
  -- in an expression
  pub Known : (Place → Bool) → CallsKnown → AroundTypes → Types → Expr → Type 0
  Known p calls around types (Ref at name) = Unit {0}
  Known p calls around types (Call' at name s args) =
      KnownIn p calls around types [] args × OfPassed (shapes around types [] args) (λ ts. calls at name ts)
  Known p calls around types (Base' at base s args) =
      KnownIn p calls around types [] args
      × OfPassed (shapes around types [] args) (λ ts. KnownOr p at (tested_by_bases base ts))
  Known p calls around types (Inject at base domain) = Unit {0}
  Known p calls around types (Pair' at q left r right) =
      Known p calls around types left × Known p calls around types right
      × OfPassed (shape around types left)
      (λ s. OfPassed (shape around types right) (λ t. KnownOr p at (s.rows ∷ t.rows ∷ [])))
  Known p calls around types (Minus' at q of) = Known p calls around types of
  Known p calls around types (Turned' at q of times) = Known p calls around types of
  Known p calls around types (Chain' q first s rest) =
      Known p calls around types first
      × OfPassed (shape around types first) (λ t. KnownAlong p calls around types t rest)

  -- in arguments, given the types of those so far
  pub KnownIn :
      (Place → Bool) → CallsKnown → AroundTypes → Types → List StaticShape → {m : _} → Row_of-Expr m → Type 0
  KnownIn p calls around types ss end_of-Expr = Unit {0}
  KnownIn p calls around types ss (more_of-Expr e rest) =
      Known p calls around types e
      × OfPassed (shape around types e) (λ s. KnownIn p calls around types (ss ++ s ∷ []) rest)

  -- in the links of a chain, given its type so far
  pub KnownAlong :
      (Place → Bool) → CallsKnown → AroundTypes → Types → StaticShape → {m : _} → Row_of-Link m → Type 0
  KnownAlong p calls around types s end_of-Link = Unit {0}
  KnownAlong p calls around types s (more_of-Link at op right rest) =
      Known p calls around types right
      × OfPassed (shape around types right)
      (λ t. KnownOr p at (tested_by_link op s t)
      × OfPassed (typed_link at op s t) (λ u. KnownAlong p calls around types u rest))

-- in the test of a WHILE or an IF
abbrev pub KnownTest : (Place → Bool) → CallsKnown → AroundTypes → Place → Expr → Types → Type 0
KnownTest p calls around at test types =
    Known p calls around types test
    × OfPassed (shape around types test) (λ s. KnownOr p at (s.rows ∷ s.cols ∷ []))

abbrev mutual
  -- in a statement
  pub KnownBehind : (Place → Bool) → CallsKnown → AroundTypes → Stmt → Types → Type 0
  KnownBehind p calls around (Set at name value) types = Known p calls around types value
  KnownBehind p calls around (While' at test s body) types =
      KnownTest p calls around at test types × KnownWithin p calls around body types
  KnownBehind p calls around (If' at test s first t second) types =
      KnownTest p calls around at test types × KnownWithin p calls around first types
      × OfPassed (typed_within around first types) (λ more. KnownWithin p calls around second more)

  -- in a row of statements
  pub KnownWithin : (Place → Bool) → CallsKnown → AroundTypes → {m : _} → Row_of-Stmt m → Types → Type 0
  KnownWithin p calls around end_of-Stmt types = Unit {0}
  KnownWithin p calls around (more_of-Stmt s rest) types =
      KnownBehind p calls around s types
      × OfPassed (typed_behind around s types) (λ more. KnownWithin p calls around rest more)

-- in a list of statements
abbrev pub KnownBy : (Place → Bool) → CallsKnown → AroundTypes → List Stmt → Types → Type 0
KnownBy p calls around [] types = Unit {0}
KnownBy p calls around (s ∷ ss) types =
    KnownBehind p calls around s types
    × OfPassed (typed_behind around s types) (λ more. KnownBy p calls around ss more)

-- in a definition whose arguments have these types
abbrev pub KnownBody :
    (Place → Bool) → CallsKnown → (Place → List ℕ → List StaticShape → Typed) → List StaticShape → Item → Type 0
KnownBody p known calls ss (Function at name params body) =
    Known p known (around_types calls []) (types_bound params.items ss) body
KnownBody p known calls ss (Program at name params decls body result) =
    KnownBy p known (around_types calls decls.items) body.items (types_bound params.items ss)
    × OfPassed (typed_by (around_types calls decls.items) body.items (types_bound params.items ss))
    (λ types. Known p known (around_types calls decls.items) types result)
KnownBody p known calls ss (COMMAND command) = Unit {0}

-- in the definition of a name, if there is one
abbrev pub KnownCalled :
    (Place → Bool) → CallsKnown → (Place → List ℕ → List StaticShape → Typed) → Option Item → List StaticShape → Type 0
KnownCalled p known calls None ss = Unit {0}
KnownCalled p known calls (Some item) ss = KnownBody p known calls ss item

-- in calls with definitions nested at most this deep
abbrev pub known_calls : (Place → Bool) → List Item → ℕ → CallsKnown
known_calls p items zero at name ss = Unit {0}
known_calls p items (suc rank) at name ss =
    KnownCalled p (known_calls p items rank) (types_of_calls items rank) (item_named items name) ss

-- in the expression of a command, over names with these types
abbrev pub UnknownOnlyAt : (Place → Bool) → Script → Types → Expr → Type 0
UnknownOnlyAt p script types e =
    Known p (known_calls p script.items.items rank_limit)
    (around_types (types_of_calls script.items.items rank_limit) []) types e

-- the meaning is Ill only at a node that tests an unknown static size
abbrev pub IllWhereUnknown : Type 0
IllWhereUnknown =
    (script : Script) (e : Expr) (state : State) (n : ℕ) (s : StaticShape) (p : Place → Bool) (fault : TypeFault)
    → flaw script ≡ None → IsOfCommand script e → missing state e ≡ None
    → static_type script (types_in state) e ≡ Fits s → UnknownOnlyAt p script (types_in state) e
    → (meaning script state e n).answer ≡ Not (Ill fault) → p (place_of fault) ≡ true

-- if no tested static size is unknown, it is never Ill
abbrev pub NeverIllWhereKnown : Type 0
NeverIllWhereKnown =
    (script : Script) (e : Expr) (state : State) (n : ℕ) (s : StaticShape) (fault : TypeFault)
    → flaw script ≡ None → IsOfCommand script e → missing state e ≡ None
    → static_type script (types_in state) e ≡ Fits s → UnknownOnlyAt (λ at. false) script (types_in state) e
    → (meaning script state e n).answer ≡ Not (Ill fault) → ⊥
