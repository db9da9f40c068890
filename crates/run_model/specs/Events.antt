-- Which events a session has, apart from the roots of its relations: roots are names in a table, and have no meaning
-- here.
use Rattle.std.specs.Prelude.{◌≡◌, ℕ, List, [], ◌∷◌, ◌++◌, map}
use Rattle.lang_model.specs.declared.syntax.Command.{Command}
use Rattle.lang_model.specs.declared.syntax.Command.TheVariants.{
  Relation as RELATION,
  Let,
  Print as PRINT,
  List as LIST,
  Count,
  Typed,
  Remove as DROP,
  Snap,
  At,
  Load,
  Save,
  LoadAll,
  SaveAll,
  Atomic,
  Explain,
}
use Rattle.lang_model.specs.declared.syntax.Item.{Item}
use Rattle.lang_model.specs.declared.syntax.Item.TheVariants.{Function, Program, Command as COMMAND}
use Rattle.lang_model.specs.declared.syntax.Script.{Script}
use Rattle.run_model.specs.declared.event.Event.{Event}
use Rattle.run_model.specs.declared.event.Act.{Act}
use Rattle.run_model.specs.declared.event.Act.TheVariants.{Read, Assign, Remove}
use Rattle.run_model.specs.Inputs.{Input}
use Rattle.run_model.specs.Due.{Due, Gifts, gives}
use Rattle.run_model.specs.Steps.{Ending, Succeeds, Fails, Changes, LacksMemory, ending, Step, due_at}

-- ---- deeds
-- what an event does, apart from the root of its relation
pub data Deed : Type 0 where
  Reads : Deed
  -- a name gets a relation with these numbers of rows and columns
  Gives : List ℕ → ℕ → ℕ → Deed
  Removes : List ℕ → Deed

-- what an act does
abbrev pub deed_of : Act → Deed
deed_of Read = Reads
deed_of (Assign name rel) = Gives name rel.rows rel.cols
deed_of (Remove name) = Removes name

-- an event, apart from the root of its relation
pub record Entry : Type 0 where
  pub session : ℕ
  pub command : ℕ
  pub deed : Deed

-- the entry of an event
abbrev pub entry_of : Event → Entry
entry_of e = record { session = e.session; command = e.command; deed = deed_of e.act }

-- the entries of a command, one for each of its deeds
abbrev pub entries : ℕ → ℕ → List Deed → List Entry
entries s c = map (λ deed. record { session = s; command = c; deed = deed })

-- ---- the table of events
-- each of these names gets its value
abbrev pub giving : Gifts → List Deed
giving [] = []
giving (gift ∷ gifts) = Gives gift.0 gift.1.rows gift.1.cols ∷ giving gifts

-- the reads of a command that is not done
abbrev pub reads_of_command : Command → List Deed
reads_of_command (RELATION name rows rows_at cols cols_at list) = []
reads_of_command (Let name e) = Reads ∷ []
reads_of_command (PRINT e) = Reads ∷ []
reads_of_command (LIST e) = Reads ∷ []
reads_of_command (Count e) = Reads ∷ []
reads_of_command (Typed e) = Reads ∷ []
reads_of_command (DROP at name) = Reads ∷ []
reads_of_command (Snap name) = Reads ∷ []
reads_of_command (At at name e) = []
reads_of_command (Load name file) = []
reads_of_command (Save e file) = Reads ∷ []
reads_of_command (LoadAll file) = []
reads_of_command (SaveAll file) = Reads ∷ []
reads_of_command (Atomic lets) = Reads ∷ []
reads_of_command (Explain e) = Reads ∷ []

-- the deeds of a command that is done, before it assigns any value
abbrev pub first_of_command : Command → List Deed
first_of_command (RELATION name rows rows_at cols cols_at list) = []
first_of_command (Let name e) = Reads ∷ []
first_of_command (PRINT e) = Reads ∷ []
first_of_command (LIST e) = Reads ∷ []
first_of_command (Count e) = Reads ∷ []
first_of_command (Typed e) = Reads ∷ []
first_of_command (DROP at name) = Removes name ∷ []
first_of_command (Snap name) = Reads ∷ []
first_of_command (At at name e) = []
first_of_command (Load name file) = []
first_of_command (Save e file) = Reads ∷ []
first_of_command (LoadAll file) = []
first_of_command (SaveAll file) = Reads ∷ []
first_of_command (Atomic lets) = Reads ∷ []
first_of_command (Explain e) = Reads ∷ []

-- the second read of a command, which is that of an atomic block refused at its commit
abbrev pub reads_again : Command → List Deed
reads_again (RELATION name rows rows_at cols cols_at list) = []
reads_again (Let name e) = []
reads_again (PRINT e) = []
reads_again (LIST e) = []
reads_again (Count e) = []
reads_again (Typed e) = []
reads_again (DROP at name) = []
reads_again (Snap name) = []
reads_again (At at name e) = []
reads_again (Load name file) = []
reads_again (Save e file) = []
reads_again (LoadAll file) = []
reads_again (SaveAll file) = []
reads_again (Atomic lets) = Reads ∷ []
reads_again (Explain e) = []

-- the reads of an item that is not done; a definition has none
abbrev pub reads_of : Item → List Deed
reads_of (COMMAND command) = reads_of_command command
reads_of (Function at name params body) = []
reads_of (Program at name params decls body result) = []

-- all reads of an item: those of one that is not done, and the second read of an atomic block
abbrev pub all_reads_of : Item → List Deed
all_reads_of (COMMAND command) = reads_of_command command ++ reads_again command
all_reads_of (Function at name params body) = []
all_reads_of (Program at name params decls body result) = []

-- the deeds of an item that is done, before it assigns any value
abbrev pub first_of : Item → List Deed
first_of (COMMAND command) = first_of_command command
first_of (Function at name params body) = []
first_of (Program at name params decls body result) = []

-- all deeds of an item that is done
abbrev pub done_deeds : Item → Due → List Deed
done_deeds item d = first_of item ++ giving (gives item d)

-- ---- the events of a session
-- the first list is a prefix of the second
abbrev pub Begins : List Deed → List Deed → Type 0
Begins deeds more = (rest : List Deed) × (more ≡ deeds ++ rest)

-- the deeds of an item with this ending: all if it is done, the reads if it is refused, both reads if it is a block
-- refused at its commit; if memory ran out, the first of its reads, or none, or all
abbrev pub HasDeeds : Ending → Item → Due → List Deed → Type 0
HasDeeds Succeeds item d deeds = deeds ≡ done_deeds item d
HasDeeds Fails item d deeds = deeds ≡ reads_of item
HasDeeds Changes item d deeds = deeds ≡ all_reads_of item
HasDeeds LacksMemory item d deeds = Begins deeds (all_reads_of item)

-- the entries are those of the steps of session s, command after command
abbrev pub AreEvents : Input → Script → ℕ → List Step → List Entry → Type 0
AreEvents input script s [] log = log ≡ []
AreEvents input script s (step ∷ steps) log =
    (deeds : List Deed) × (rest : List Entry) × (log ≡ entries s step.number deeds ++ rest)
    × HasDeeds (ending step.outcome) step.item (due_at input script step) deeds
    × AreEvents input script s steps rest
