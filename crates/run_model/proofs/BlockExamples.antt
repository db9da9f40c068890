-- Small atomic blocks, computed from the definitions: what one reads and gives, when it is refused, and what changed.
use Rattle.std.proofs.Common.{◌≡◌, ℕ, false, List, [], ◌∷◌, Some, None, refl}
use Rattle.std.specs.Prelude.{codes}
use Rattle.rel_model.specs.declared.Rel.{Rel}
use Rattle.lang_model.specs.declared.syntax.Place.{Place}
use Rattle.lang_model.specs.declared.syntax.Expr.{Ref}
use Rattle.lang_model.specs.declared.syntax.Let.{Let}
use Rattle.lang_model.specs.declared.syntax.Script.{Script}
use Rattle.lang_model.specs.declared.faults.TypeFault.TheVariants.{Unknown}
use Rattle.lang_model.specs.State.{assigned}
use Rattle.lang_model.specs.Eval.{evaluated}
use Rattle.rel_model.specs.Relation.{Relation}
use Rattle.run_model.specs.declared.event.Event.{Event}
use Rattle.run_model.specs.declared.event.Act.{Act}
use Rattle.run_model.specs.declared.event.Act.TheVariants.{Read, Assign}
use Rattle.run_model.specs.declared.outcome.Outcome.TheVariants.{Ill}
use Rattle.run_model.specs.Inputs.{Input, batch_of}
use Rattle.run_model.specs.Due.{Early, Late, Workspace, Values, Refused, due_of_block}
use Rattle.run_model.specs.Blocks.{block_reads}
use Rattle.run_model.specs.Legal.{change_for}

abbrev at : ℕ → Place
at column = record { line = 1; column = column }

abbrev let_name : List ℕ → List ℕ → ℕ → Let
let_name name value column = record { at = at column; name = name; value = Ref (at column) value }

-- two relations, and no loops
abbrev dot : Relation
dot = record { rows = 1; cols = 1; pairs = (0, 0) ∷ [] }

abbrev bare : Relation
bare = record { rows = 1; cols = 1; pairs = [] }

abbrev state : Workspace
state = (codes "A", dot) ∷ (codes "B", bare) ∷ []

abbrev given : Input
given = record { readings = []; files = []; turns = 0; history = false; ends = 1 ∷ [] }

-- LET A = B; LET B = A: the second sees what the first gave
pub earlier_values_seen : (script : Script) →
    due_of_block given script (let_name (codes "A") (codes "B") 1 ∷ let_name (codes "B") (codes "A") 2 ∷ []) state
    ≡ Values ((codes "A", bare) ∷ (codes "B", bare) ∷ [])
unfolding evaluated assigned
earlier_values_seen script = refl

-- LET Z = B; LET C = A; LET D = Z: Z is not read, and the names stand in the order of their bytes
pub reads_in_order : block_reads (let_name (codes "Z") (codes "B") 1 ∷ let_name (codes "C") (codes "A") 2 ∷ let_name (codes "D") (codes "Z") 3 ∷ [])
    ≡ codes "A" ∷ codes "B" ∷ []
unfolding block_reads
reads_in_order = refl

-- a refusal of the first assignment is early, and one of a later one is late
pub first_refused : (script : Script) → due_of_block given script (let_name (codes "A") (codes "Z") 7 ∷ []) state
    ≡ Refused Early (Ill (Unknown (at 7) (codes "Z")))
unfolding evaluated
first_refused script = refl

-- LET A = B; LET A = Z: the first assignment stands, so that the unknown name of the second is refused late
pub second_refused : (script : Script) →
    due_of_block given script (let_name (codes "A") (codes "B") 1 ∷ let_name (codes "A") (codes "Z") 7 ∷ []) state
    ≡ Refused Late (Ill (Unknown (at 7) (codes "Z")))
unfolding evaluated assigned
second_refused script = refl

-- session 1 assigns A, its block reads, session 2 assigns A, and the block comes to its commit
abbrev event : ℕ → ℕ → Act → Event
event s c act = record { session = s; command = c; act = act }

abbrev raced : Rel → List Event
raced r = event 1 1 (Assign (codes "A") r) ∷ event 1 2 Read ∷ event 2 1 (Assign (codes "A") r) ∷ event 1 2 Read ∷ []

pub change_seen : (r : Rel) → change_for (raced r) 1 2 (codes "A" ∷ []) ≡ Some (record { name = codes "A"; seen = 1; found = 2 })
unfolding change_for
change_seen r = refl

pub other_name_stays : (r : Rel) → change_for (raced r) 1 2 (codes "B" ∷ []) ≡ None
unfolding change_for
other_name_stays r = refl

-- three batches, of scripts 1 and 2, of 3, and of 4
pub batches_counted : (batch_of (2 ∷ 3 ∷ 4 ∷ []) 2 ≡ 0) × (batch_of (2 ∷ 3 ∷ 4 ∷ []) 3 ≡ 1) × (batch_of (2 ∷ 3 ∷ 4 ∷ []) 4 ≡ 2)
batches_counted = (refl, refl, refl)
