-- A small run, computed from the definitions: a relation is loaded, kept in a snapshot, dropped, and printed from there.
use Rattle.std.proofs.Common.{◌≡◌, ℕ, false, List, [], ◌∷◌, ◌++◌, None, refl}
use Rattle.std.specs.Prelude.{codes}
use Rattle.std.specs.Fmt.{decimal}
use Rattle.lang_model.specs.declared.syntax.Place.{Place}
use Rattle.lang_model.specs.declared.syntax.Expr.{Ref}
use Rattle.lang_model.specs.declared.syntax.Op2.TheVariants.{Or, Times, Under}
use Rattle.lang_model.specs.declared.syntax.Command.TheVariants.{Print as PRINT, Remove as DROP, Snap, At, Load, Let, Explain}
use Rattle.lang_model.specs.declared.syntax.Item.{Item}
use Rattle.lang_model.specs.declared.syntax.Item.TheVariants.{Command as COMMAND}
use Rattle.lang_model.specs.declared.syntax.Script.{Script}
use Rattle.lang_model.specs.declared.faults.TypeFault.TheVariants.{Unknown}
use Rattle.run_model.specs.declared.outcome.Outcome.TheVariants.{Done, Ill, NoFile}
use Rattle.rel_model.specs.Relation.{relation_of}
use Rattle.run_model.specs.Texts.{prefix, matrix, row_text, rows_text}
use Rattle.rel_model.specs.Worker.{height_of}
use Rattle.lang_model.specs.Trees.{Tree, NameTree, MinusTree, TurnedTree}
use Rattle.lang_model.specs.Rewriting.{two, steps_of}
use Rattle.lang_model.specs.Eval.{evaluated, early_fault}
use Rattle.run_model.specs.Names.{no_names}
use Rattle.run_model.specs.Inputs.{Input}
use Rattle.run_model.specs.Files.{k2_fault, k2_relation, fields, cells_told, file_height}
use Rattle.run_model.specs.SharedFiles.{begins_shared}
use Rattle.run_model.specs.Due.{Early, Value, Explained, Refused, due, due_of_command}
use Rattle.run_model.specs.Events.{Deed, Reads, Gives, Removes, Entry}
use Rattle.run_model.specs.Page.{explanation, reply}
use Rattle.run_model.specs.Solo.{solo_from}
use Rattle.run_model.proofs.FileExamples.{file, corners}

abbrev at : ℕ → Place
at column = record { line = 1; column = column }

abbrev a : List ℕ
a = codes "A"

abbrev t : List ℕ
t = codes "t"

-- one file, and no loops
abbrev given : Input
given = record { readings = []; files = record { name = codes "a.k2"; bytes = file 4 4 2 4 8 (144 ∷ 129 ∷ []) } ∷ []; turns = 0; history = false; ends = 1 ∷ [] }

-- LOAD A "a.k2". SNAP t. LET B = A. DROP A. PRINT A. AT t PRINT A. AT u PRINT A. LOAD A "b.k2".
abbrev items : List Item
items =
    COMMAND (Load a (codes "a.k2")) ∷ COMMAND (Snap t) ∷ COMMAND (Let (codes "B") (Ref (at 1) a)) ∷ COMMAND (DROP (at 2) a)
    ∷ COMMAND (PRINT (Ref (at 3) a)) ∷ COMMAND (At (at 4) t (Ref (at 5) a)) ∷ COMMAND (At (at 6) (codes "u") (Ref (at 7) a))
    ∷ COMMAND (Load a (codes "b.k2")) ∷ []

abbrev entry : ℕ → Deed → Entry
entry c deed = record { session = 1; command = c; deed = deed }

pub outcomes_come : (script : Script) → (solo_from given script 1 no_names no_names items).outcomes ≡
    Done ∷ Done ∷ Done ∷ Done ∷ Ill (Unknown (at 3) a) ∷ Done ∷ Ill (Unknown (at 6) (codes "u")) ∷ NoFile (codes "b.k2") ∷ []
unfolding due due_of_command evaluated begins_shared k2_fault k2_relation fields cells_told file_height height_of relation_of
outcomes_come script = refl

pub events_come : (script : Script) → (solo_from given script 1 no_names no_names items).log ≡
    entry 1 (Gives a 4 4) ∷ entry 2 Reads ∷ entry 3 Reads ∷ entry 3 (Gives (codes "B") 4 4) ∷ entry 4 (Removes a) ∷ entry 5 Reads ∷ []
unfolding due due_of_command evaluated begins_shared k2_fault k2_relation fields cells_told file_height height_of relation_of
events_come script = refl

-- AT t PRINT A prints the relation that the snapshot kept, row by row below its sizes
pub printed_reply : reply 1 6 (COMMAND (At (at 4) t (Ref (at 5) a))) (Value corners) Done ≡
    prefix 1 6 ++ (decimal 4 ++ codes " x " ++ decimal 4 ++ 10 ∷ [] ++ codes "1...\n....\n....\n...1\n")
unfolding reply matrix rows_text row_text
printed_reply = refl

-- EXPLAIN -(A^*-B) | A\B: two steps are told, and an unknown name is refused ahead of them
abbrev named : ℕ → List ℕ → Tree
named column name = NameTree (at column) name

abbrev union : Tree
union =
    two (at 9)
    (MinusTree (at 1) (two (at 4) (TurnedTree (at 3) (named 2 a) 1) Times (MinusTree (at 5) (named 6 (codes "B"))))) Or
    (two (at 11) (named 10 a) Under (named 12 (codes "B")))

abbrev told : ℕ → List ℕ → List ℕ → List ℕ
told rule before after = decimal rule ++ codes ": " ++ before ++ codes " -> " ++ after ++ codes "\n"

pub explained_reply : reply 1 3 (COMMAND (Explain (Ref (at 1) a))) (Explained (steps_of union)) Done ≡
    prefix 1 3
    ++ (decimal 2 ++ codes " steps" ++ codes "\n" ++ (told 5 (codes "-(A^*-B)") (codes "A\\B")
    ++ (told 4 (codes "A\\B|A\\B") (codes "A\\B") ++ [])))
unfolding reply explanation steps_of
explained_reply = refl

pub explained_early : (script : Script) →
    due given script (COMMAND (Explain (Ref (at 9) (codes "Z")))) no_names None ≡ Refused Early (Ill (Unknown (at 9) (codes "Z")))
unfolding due due_of_command early_fault
explained_early script = refl

pub explained_name : (script : Script) →
    due given script (COMMAND (Explain (Ref (at 9) a))) ((a, corners) ∷ []) None ≡ Explained []
unfolding due due_of_command early_fault steps_of
explained_name script = refl
