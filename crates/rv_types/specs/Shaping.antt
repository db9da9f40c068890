-- What the walk over types answers, and names with their types.
use Rattle.std.specs.Prelude.{◌≡◌, ◌==◌, ◌⊎◌, ◌++◌, ℕ, cond, List, [], ◌∷◌, length, Some, None, Result, Ok, Err}
use Rattle.lang_model.specs.declared.syntax.Place.{Place}
use Rattle.lang_model.specs.declared.syntax.Expr.{Expr}
use Rattle.lang_model.specs.declared.syntax.Link.{Link}
use Rattle.lang_model.specs.declared.faults.StaticShape.{StaticShape}
use Rattle.lang_model.specs.declared.faults.TypeFault.{TypeFault}
use Rattle.lang_model.specs.declared.faults.TypeFault.TheVariants.{Arity, NoMemory as NO_MEMORY}
use Rattle.lang_model.specs.Tokens.{same_text}
use Rattle.lang_model.specs.Types.{Passed, Fits, Misfit, Typed, typed_link}
use Rattle.lang_model.specs.Shape.{Types, AroundTypes, passing, shape}

-- ---- names
-- the types of names; if a name occurs several times, the first counts
abbrev pub types_of : List (List ℕ × StaticShape) → Types
types_of [] name = None
types_of (n ∷ ns) name = cond (same_text n.0 name) (Some n.1) (types_of ns name)

-- a parameter with the first of the types, in front of the others
abbrev pub beside_first :
    List ℕ → (List StaticShape → List (List ℕ × StaticShape)) → List StaticShape → List (List ℕ × StaticShape)
beside_first p rest [] = []
beside_first p rest (s ∷ ss) = (p, s) ∷ rest ss

-- parameters with the types of arguments
abbrev pub beside : List (List ℕ) → List StaticShape → List (List ℕ × StaticShape)
beside [] = λ ss. []
beside (p ∷ ps) = beside_first p (beside ps)

-- the same if a definition has that many parameters
abbrev pub with_arguments :
    Place → List ℕ → List (List ℕ) → List StaticShape → Passed (List (List ℕ × StaticShape))
with_arguments at name ps ss =
    cond (length ps == length ss) (Fits (beside ps ss)) (Misfit (Arity at name (length ps) (length ss)))

-- ---- what is answered
-- this fault is reported, or memory ran out for it
abbrev pub Tells : TypeFault → TypeFault → Type 0
Tells fault told = (told ≡ NO_MEMORY) ⊎ (told ≡ fault)

-- a value means that the types fit, and a fault other than lack of memory is the misfit
abbrev pub Answers : {T X : Type 0} → Passed T → (X → T) → Result X TypeFault → Type 0
Answers passed is (Ok x) = passed ≡ Fits (is x)
Answers passed is (Err fault) = (fault ≡ NO_MEMORY) ⊎ (passed ≡ Misfit fault)

-- ---- lists
-- the types of a list of arguments, after those already found
abbrev pub shapes_by : AroundTypes → Types → List StaticShape → List Expr → Passed (List StaticShape)
shapes_by around types ss [] = Fits ss
shapes_by around types ss (e ∷ es) = passing (shape around types e) (λ s. shapes_by around types (ss ++ s ∷ []) es)

-- the type of a list of links, after the type so far
abbrev pub shape_by : AroundTypes → Types → StaticShape → List Link → Typed
shape_by around types s [] = Fits s
shape_by around types s (l ∷ ls) =
    passing (shape around types l.right) (λ t. passing (typed_link l.at l.op s t) (λ u. shape_by around types u ls))
