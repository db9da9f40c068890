-- Faults as the walk over a script keeps them, with their names still in the script, and the first of them so far.
use Rattle.std.specs.Prelude.{◌≤◌, ◌^◌, ◌⊎◌, ℕ, List, [], ◌∷◌, Option, Some, None, option_map}
use Rattle.lang_model.specs.declared.syntax.Place.{Place}
use Rattle.lang_model.specs.declared.faults.TypeFault.{TypeFault}
use Rattle.lang_model.specs.declared.faults.TypeFault.TheVariants.{Unknown as UNKNOWN, Arity as ARITY, Unassigned as UNASSIGNED, Rank as RANK, Twice as TWICE}
use Rattle.lang_model.specs.Checking.{domain_operator_text, first_of_two}
use Rattle.rv_types.specs.declared.found.Spelled.{Spelled}
use Rattle.rv_types.specs.declared.found.Spelled.TheVariants.{Name, Operator}
use Rattle.rv_types.specs.declared.found.Cause.{Cause}
use Rattle.rv_types.specs.declared.found.Cause.TheVariants.{Unknown, Arity, Unassigned, Rank, Twice}
use Rattle.rv_types.specs.declared.found.Found.{Found}

-- the text of the name in a fault
abbrev pub spelled : Spelled → List ℕ
spelled (Name name) = name.now
spelled (Operator base) = domain_operator_text base

-- the fault with this cause, place and name
abbrev pub fault_as : Cause → Place → List ℕ → TypeFault
fault_as Unknown at name = UNKNOWN at name
fault_as (Arity takes given) at name = ARITY at name takes given
fault_as Unassigned at name = UNASSIGNED at name
fault_as Rank at name = RANK at name
fault_as Twice at name = TWICE at name

-- a number of arguments that does not fit into the fields of a fault
abbrev pub IsTooMany : Cause → Type 0
IsTooMany (Arity takes given) = (2 ^ 32 ≤ takes) ⊎ (2 ^ 32 ≤ given)
IsTooMany _ = ⊥

-- the number of a cause
abbrev pub number_as : Cause → ℕ
number_as Unknown = 1
number_as (Arity takes given) = 2
number_as Unassigned = 3
number_as Rank = 4
number_as Twice = 9

-- the fault that was found
abbrev pub fault : Found → TypeFault
fault found = fault_as found.cause found.at (spelled found.name)

-- the fault, if one was found
abbrev pub told : Option Found → Option TypeFault
told = option_map fault

-- the first fault so far, after one more
abbrev pub noting : Option TypeFault → TypeFault → Option TypeFault
noting None f = Some f
noting (Some g) f = Some (first_of_two g (Some f))

-- the first fault so far, after several more
abbrev pub noted : Option TypeFault → List TypeFault → Option TypeFault
noted so_far [] = so_far
noted so_far (f ∷ fs) = noted (noting so_far f) fs
