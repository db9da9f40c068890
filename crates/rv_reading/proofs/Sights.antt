-- What a run sees of an item beside what is due of it: it looks at no expression and at no list.
use Rattle.std.proofs.Common.{◌≡◌, ℕ, List, [], ◌∷◌, Option, None, refl}
use Rattle.lang_model.specs.declared.syntax.Expr.{Expr}
use Rattle.lang_model.specs.declared.syntax.Expr.TheVariants.{Ref}
use Rattle.lang_model.specs.declared.syntax.Command.TheVariants.{Relation as RELATION, Let, Print as PRINT, List as LIST, Count, Typed, Remove as DROP, Snap, At, Load, Save, LoadAll, SaveAll, Atomic, Explain}
use Rattle.lang_model.specs.declared.syntax.Item.{Item}
use Rattle.lang_model.specs.declared.syntax.Item.TheVariants.{Function, Program, Command as COMMAND}
use Rattle.rel_model.specs.Relation.{Relation}
use Rattle.lang_model.specs.Trees.{nowhere}
use Rattle.run_model.specs.Due.{Due, Gifts, given, given_all, gives}
use Rattle.run_model.specs.Steps.{snapped, asked}
use Rattle.run_model.specs.Events.{Deed, Reads, reads_of, all_reads_of, first_of}
use Rattle.run_model.specs.Page.{SavedFile, shown, saved_of, written_of}
use Rattle.rv_spell.specs.Plain.{CommandTree, RelationTree, LetTree, PrintTree, ListTree, CountTree, TypedTree, RemoveTree, SnapTree, AtTree, LoadTree, SaveTree, LoadAllTree, SaveAllTree, AtomicTree, ExplainTree, ItemTree, FunctionTree, ProgramTree, CommandItem, item_tree}

-- what it gives, shows and saves, which snapshots it keeps and asks, and its events
pub record Sight : Type 0 where
  pub gives : Due → Gifts
  pub shown : List ℕ → Relation → List ℕ
  pub saved : Relation → List SavedFile
  pub written : List ℕ → List SavedFile
  pub snapped : Option (List ℕ)
  pub asked : Option (List ℕ)
  pub reads : List Deed
  pub all_reads : List Deed
  -- the deeds with which it begins where it is done
  pub first : List Deed

-- that of an item
abbrev pub sight : Item → Sight
sight item = record {
  gives = λ d. gives item d;
  shown = λ numbers r. shown numbers item r;
  saved = λ r. saved_of item r;
  written = λ bytes. written_of item bytes;
  snapped = snapped item;
  asked = asked item;
  reads = reads_of item;
  all_reads = all_reads_of item;
  first = first_of item;
}

-- an item that gives this, has these reads, and shows and saves nothing
abbrev only_giving : (Due → Gifts) → List Deed → List Deed → Sight
only_giving gifts reads all = record {
  gives = gifts;
  shown = λ numbers r. [];
  saved = λ r. [];
  written = λ bytes. [];
  snapped = None;
  asked = None;
  reads = reads;
  all_reads = all;
  first = reads;
}

-- some expression
abbrev some : Expr
some = Ref nowhere []

-- that of a tree: where it has an expression, any other would do
abbrev pub sight_of_command : CommandTree → Sight
sight_of_command (RelationTree name rows rows_at cols cols_at list) = only_giving (λ d. given name d) [] []
sight_of_command (LetTree name t) = sight (COMMAND (Let name some))
sight_of_command (PrintTree t) = sight (COMMAND (PRINT some))
sight_of_command (ListTree t) = sight (COMMAND (LIST some))
sight_of_command (CountTree t) = sight (COMMAND (Count some))
sight_of_command (TypedTree t) = sight (COMMAND (Typed some))
sight_of_command (RemoveTree at name) = sight (COMMAND (DROP at name))
sight_of_command (SnapTree name) = sight (COMMAND (Snap name))
sight_of_command (AtTree at name t) = sight (COMMAND (At at name some))
sight_of_command (LoadTree name file) = sight (COMMAND (Load name file))
sight_of_command (SaveTree t file) = sight (COMMAND (Save some file))
sight_of_command (LoadAllTree file) = sight (COMMAND (LoadAll file))
sight_of_command (SaveAllTree file) = sight (COMMAND (SaveAll file))
sight_of_command (AtomicTree lets) = only_giving (λ d. given_all d) (Reads ∷ []) (Reads ∷ Reads ∷ [])
sight_of_command (ExplainTree t) = sight (COMMAND (Explain some))

-- and that of an item's tree: a definition gives and shows nothing
abbrev pub sight_of : ItemTree → Sight
sight_of (CommandItem command) = sight_of_command command
sight_of (FunctionTree at name params body) = only_giving (λ d. []) [] []
sight_of (ProgramTree at name params decls body result) = only_giving (λ d. []) [] []

-- a run sees of an item what it sees of its tree, case by case: no part of a sight looks at an expression
pub sight-tree : (item : Item) → sight item ≡ sight_of (item_tree item)
sight-tree (COMMAND (RELATION name rows rows_at cols cols_at list)) = refl
sight-tree (COMMAND (Let name e)) = refl
sight-tree (COMMAND (PRINT e)) = refl
sight-tree (COMMAND (LIST e)) = refl
sight-tree (COMMAND (Count e)) = refl
sight-tree (COMMAND (Typed e)) = refl
sight-tree (COMMAND (DROP at name)) = refl
sight-tree (COMMAND (Snap name)) = refl
sight-tree (COMMAND (At at name e)) = refl
sight-tree (COMMAND (Load name file)) = refl
sight-tree (COMMAND (Save e file)) = refl
sight-tree (COMMAND (LoadAll file)) = refl
sight-tree (COMMAND (SaveAll file)) = refl
sight-tree (COMMAND (Atomic lets)) = refl
sight-tree (COMMAND (Explain e)) = refl
sight-tree (Function at name params body) = refl
sight-tree (Program at name params decls body result) = refl
