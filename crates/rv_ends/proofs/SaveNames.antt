-- Each file of a run has a name that is text, since it is the file text of a SAVE or a SAVE ALL.
use Rattle.std.proofs.Common.{◌≡◌, ◌+◌, ℕ, List, [], ◌∷◌, ◌++◌, sym, subst}
use Rattle.std.specs.Prelude.{All}
use Rattle.std.specs.List.{AllByRecursion, flat_map}
use Rattle.std.specs.Str.{IsAscii, IsUtf8}
use Rattle.std.proofs.lemmas.Str.{IsUtf8-from_ascii}
use Rattle.std.proofs.lemmas.List.Elements.{All-cons, All-nil}
use Rattle.lang_model.specs.declared.rows.Column.{Column}
use Rattle.lang_model.specs.declared.rows.Row.{Row}
use Rattle.lang_model.specs.declared.syntax.Decl.{Decl}
use Rattle.lang_model.specs.declared.syntax.Decl.TheVariants.{Variable, Domain}
use Rattle.lang_model.specs.declared.syntax.Command.{Command}
use Rattle.lang_model.specs.declared.syntax.Command.TheVariants.{Relation as REL, Let, Print, List as LIST, Count, Typed, Remove, Snap, At, Load, Save, LoadAll, SaveAll, Atomic, Explain}
use Rattle.lang_model.specs.declared.syntax.Item.{Item}
use Rattle.lang_model.specs.declared.syntax.Item.TheVariants.{Function, Program, Command as COMMAND}
use Rattle.lang_model.specs.declared.syntax.Script.{Script}
use Rattle.lang_model.specs.declared.syntax.Place.{Place}
use Rattle.lang_model.specs.declared.token.Token.{Token}
use Rattle.lang_model.specs.declared.syntax.Let.{Let as LetOf}
use Rattle.lang_model.specs.Spelling.{SpelledLets, one_let, SpelledMoreLets, no_let, last_sign, more_lets, SpellsMoreColumns, SpellsColumns, SpellsRow, SpellsMoreRows, SpellsRows, SpellsMoreNames, SpellsParams, SpellsDecl, SpellsMoreDecls, SpellsDecls, SpellsHead, SpellsCommand, SpellsItem, SpellsItems, SpelledBy}
use Rattle.rel_model.specs.Relation.{Relation}
use Rattle.run_model.specs.declared.event.Event.{Event}
use Rattle.run_model.specs.declared.outcome.Outcome.{Outcome}
use Rattle.run_model.specs.Inputs.{Input, Reading, NoScript, Flawed, Runs, AreReadings}
use Rattle.run_model.specs.Due.{Due, Nothing, Value, Values, Bytes, Explained, Refused, Workspace}
use Rattle.run_model.specs.Steps.{Ending, Succeeds, Fails, Changes, LacksMemory, ending, Snapshots, steps, steps_from, snaps_behind, due_at}
use Rattle.run_model.specs.Names.{no_names}
use Rattle.run_model.specs.States.{state_for}
use Rattle.run_model.specs.Page.{SavedFile, saved_by, saved_of, written_by, written_of, done_save, save_at, saves_of, session_saves, sessions_saves, saves}
use Rattle.run_model.specs.declared.files.Save.{Save as SaveFile}
use Rattle.run_model.specs.Filed.{saved_all}
use Rattle.rv_ends.proofs.Texts.{AreTexts, behind_at, behind, text_taken, behind_expr, behind_stmts}
use Rattle.rv_ends.proofs.Lexemes.{texts_of}

-- ---- what is left behind an item
more_columns : (cs : List Column) (tokens rest : List Token) → SpellsMoreColumns cs tokens rest → AreTexts tokens → AreTexts rest
more_columns [] tokens rest s h = subst AreTexts (sym s) h
more_columns (c ∷ cs) tokens rest s h = more_columns cs _ _ s.5 (behind_at s.3 (behind s.2 h))

columns : (cs : List Column) (tokens rest : List Token) → SpellsColumns cs tokens rest → AreTexts tokens → AreTexts rest
columns [] tokens rest s h = absurd s
columns (c ∷ cs) tokens rest s h = more_columns cs _ _ s.3 (behind_at s.1 h)

one_row : (row : Row) (tokens rest : List Token) → SpellsRow row tokens rest → AreTexts tokens → AreTexts rest
one_row row tokens rest s h = columns row.cols.items _ _ s.5 (behind s.4 (behind_at s.2 h))

more_rows : (rows : List Row) (tokens rest : List Token) → SpellsMoreRows rows tokens rest → AreTexts tokens → AreTexts rest
more_rows [] tokens rest s h = subst AreTexts (sym s) h
more_rows (row ∷ rows) tokens rest s h = more_rows rows _ _ s.4 (one_row row _ _ s.3 (behind s.2 h))

all_rows : (rows : List Row) (tokens rest : List Token) → SpellsRows rows tokens rest → AreTexts tokens → AreTexts rest
all_rows [] tokens rest s h = subst AreTexts (sym s) h
all_rows (row ∷ rows) tokens rest s h = more_rows rows _ _ s.2 (one_row row _ _ s.1 h)

more_names : (names : List (List ℕ)) (tokens rest : List Token) → SpellsMoreNames names tokens rest → AreTexts tokens → AreTexts rest
more_names [] tokens rest s h = subst AreTexts (sym s) h
more_names (name ∷ names) tokens rest s h = more_names names _ _ s.4 (behind s.3 (behind s.2 h))

params : (names : List (List ℕ)) (tokens rest : List Token) → SpellsParams names tokens rest → AreTexts tokens → AreTexts rest
params [] tokens rest s h = absurd s
params (name ∷ names) tokens rest s h = more_names names _ _ s.3 (behind s.1 h)

one_decl : (decl : Decl) (tokens rest : List Token) → SpellsDecl decl tokens rest → AreTexts tokens → AreTexts rest
one_decl (Variable at name) tokens rest s h = behind_at s h
one_decl (Domain at name sum left right) tokens rest s h =
    behind s.14 (behind s.13 (behind s.12 (behind s.11 (behind s.10 (behind s.9 (behind s.8 (behind_at s.7 h)))))))

more_decls : (decls : List Decl) (tokens rest : List Token) → SpellsMoreDecls decls tokens rest → AreTexts tokens → AreTexts rest
more_decls [] tokens rest s h = subst AreTexts (sym s) h
more_decls (decl ∷ decls) tokens rest s h = more_decls decls _ _ s.4 (one_decl decl _ _ s.3 (behind s.2 h))

all_decls : (decls : List Decl) (tokens rest : List Token) → SpellsDecls decls tokens rest → AreTexts tokens → AreTexts rest
all_decls [] tokens rest s h = subst AreTexts (sym s) h
all_decls (decl ∷ decls) tokens rest s h = more_decls decls _ _ s.4 (one_decl decl _ _ s.3 (behind s.2 h))

head : (at : Place) (name : List ℕ) (names : List (List ℕ)) (tokens rest : List Token) → SpellsHead at name names tokens rest → AreTexts tokens → AreTexts rest
head at name names tokens rest s h = behind s.6 (params names _ _ s.5 (behind s.4 (behind_at s.3 h)))

mutual
  block_lets : {ls : List LetOf} {tokens rest : List Token} → SpelledLets ls tokens rest → AreTexts tokens → AreTexts rest
  block_lets (one_let l ls tokens mid rest s more) h = behind_lets more (behind_expr s.6 (behind s.5 (behind_at s.4 (behind s.3 h))))

  behind_lets : {ls : List LetOf} {tokens rest : List Token} → SpelledMoreLets ls tokens rest → AreTexts tokens → AreTexts rest
  behind_lets (no_let tokens rest e) h = subst AreTexts (sym e) h
  behind_lets (last_sign tokens rest sign) h = behind sign h
  behind_lets (more_lets ls tokens mid rest sign s) h = block_lets s (behind sign h)

-- tokens whose file texts are ASCII leave such tokens behind a command, since its parts take tokens from the front
one_command : (command : Command) (tokens rest : List Token) → SpellsCommand command tokens rest → AreTexts tokens → AreTexts rest
one_command (REL name rows rows_at cols cols_at list) tokens rest s h = behind s.10 (all_rows list.items _ _ s.9 (behind s.8 (behind_at s.7 (behind_at s.6 (behind s.5.2 (behind s.5.1 h))))))
one_command (Let name value) tokens rest s h = behind_expr s.4 (behind s.3 (behind s.2.2 (behind s.2.1 h)))
one_command (Print value) tokens rest s h = behind_expr s.2 (behind s.1 h)
one_command (LIST value) tokens rest s h = behind_expr s.2 (behind s.1 h)
one_command (Count value) tokens rest s h = behind_expr s.2 (behind s.1 h)
one_command (Typed value) tokens rest s h = behind_expr s.2 (behind s.1 h)
one_command (Remove at name) tokens rest s h = behind_at s.2 (behind s.1 h)
one_command (Snap name) tokens rest s h = behind s.2 (behind s.1 h)
one_command (At at name value) tokens rest s h = behind_expr s.4.2 (behind s.4.1 (behind_at s.3 (behind s.2 h)))
one_command (Load name file) tokens rest s h = behind s.2 (behind s.1.2 (behind s.1.1 h))
one_command (Save value file) tokens rest s h = behind s.2 (behind_expr s.1.2 (behind s.1.1 h))
one_command (LoadAll file) tokens rest s h = behind s.4 (behind s.3 (behind s.2 h))
one_command (SaveAll file) tokens rest s h = behind s.4 (behind s.3 (behind s.2 h))
one_command (Atomic lets) tokens rest s h = behind s.4 (block_lets s.3 (behind s.2 h))
one_command (Explain value) tokens rest s h = behind_expr s.2 (behind s.1 h)

-- and they leave such tokens behind an item, for the same reason
one_item : (item : Item) (tokens rest : List Token) → SpellsItem item tokens rest → AreTexts tokens → AreTexts rest
one_item (Function at name ps body) tokens rest s h = behind_expr s.4 (behind s.3 (head at name ps.items _ _ s.2 h))
one_item (Program at name ps decls body result) tokens rest s h =
    behind s.12 (behind_expr s.11 (behind s.10 (behind_stmts s.9 (behind s.8 (all_decls decls.items _ _ s.7 (head at name ps.items _ _ s.6 h))))))
one_item (COMMAND command) tokens rest s h = one_command command _ _ s h

-- ---- saves
-- files whose names are ASCII
abbrev AreNamed : List SavedFile → Type 0
AreNamed = AllByRecursion (λ f. IsAscii f.name)

-- an item saves such files alone, whatever its value or its bytes
record SavesNamed (item : Item) : Type 0 where
  value : (r : Relation) → AreNamed (saved_of item r)
  whole : (bytes : List ℕ) → AreNamed (written_of item bytes)

-- a file that a command saves of its value has an ASCII name: only SAVE saves one, under a file text of its tokens
command_saves : (command : Command) (tokens rest : List Token) → SpellsCommand command tokens rest → AreTexts tokens → (r : Relation) → AreNamed (saved_by command r)
command_saves (REL name rows rows_at cols cols_at list) tokens rest s h r = tt
command_saves (Let name value) tokens rest s h r = tt
command_saves (Print value) tokens rest s h r = tt
command_saves (LIST value) tokens rest s h r = tt
command_saves (Count value) tokens rest s h r = tt
command_saves (Typed value) tokens rest s h r = tt
command_saves (Remove at name) tokens rest s h r = tt
command_saves (Snap name) tokens rest s h r = tt
command_saves (At at name value) tokens rest s h r = tt
command_saves (Load name file) tokens rest s h r = tt
command_saves (Save value file) tokens rest s h r = (text_taken s.2 (behind_expr s.1.2 (behind s.1.1 h)), tt)
command_saves (LoadAll file) tokens rest s h r = tt
command_saves (SaveAll file) tokens rest s h r = tt
command_saves (Atomic lets) tokens rest s h r = tt
command_saves (Explain value) tokens rest s h r = tt

-- and so has one that a command writes of bytes: only SAVE ALL writes one, under a file text of its tokens
command_writes : (command : Command) (tokens rest : List Token) → SpellsCommand command tokens rest → AreTexts tokens → (bytes : List ℕ) → AreNamed (written_by command bytes)
command_writes (REL name rows rows_at cols cols_at list) tokens rest s h bytes = tt
command_writes (Let name value) tokens rest s h bytes = tt
command_writes (Print value) tokens rest s h bytes = tt
command_writes (LIST value) tokens rest s h bytes = tt
command_writes (Count value) tokens rest s h bytes = tt
command_writes (Typed value) tokens rest s h bytes = tt
command_writes (Remove at name) tokens rest s h bytes = tt
command_writes (Snap name) tokens rest s h bytes = tt
command_writes (At at name value) tokens rest s h bytes = tt
command_writes (Load name file) tokens rest s h bytes = tt
command_writes (Save value file) tokens rest s h bytes = tt
command_writes (LoadAll file) tokens rest s h bytes = tt
command_writes (SaveAll file) tokens rest s h bytes = (text_taken s.4 (behind s.3 (behind s.2 h)), tt)
command_writes (Atomic lets) tokens rest s h bytes = tt
command_writes (Explain value) tokens rest s h bytes = tt

item_saves : (item : Item) (tokens rest : List Token) → SpellsItem item tokens rest → AreTexts tokens → SavesNamed item
item_saves (Function at name ps body) tokens rest s h = record { value = λ r. tt; whole = λ bytes. tt }
item_saves (Program at name ps decls body result) tokens rest s h = record { value = λ r. tt; whole = λ bytes. tt }
item_saves (COMMAND command) tokens rest s h =
    record { value = command_saves command _ _ s h; whole = command_writes command _ _ s h }

items_save : (items : List Item) (tokens rest : List Token) → SpellsItems items tokens rest → AreTexts tokens → AllByRecursion SavesNamed items
items_save [] tokens rest s h = tt
items_save (item ∷ items) tokens rest s h = (item_saves item _ _ s.2 h, items_save items _ _ s.4 (behind s.3 (one_item item _ _ s.2 h)))

-- ---- runs
named-append : (xs ys : List SavedFile) → AreNamed xs → AreNamed ys → AreNamed (xs ++ ys)
named-append [] ys h k = k
named-append (x ∷ xs) ys h k = (h.0, named-append xs ys h.1 k)

done_named : (item : Item) (d : Due) → SavesNamed item → AreNamed (done_save item d)
done_named item Nothing h = tt
done_named item (Value r) h = h.value r
done_named item (Values gifts) h = tt
done_named item (Bytes bytes) h = h.whole bytes
done_named item (Explained steps) h = tt
done_named item (Refused when outcome) h = tt

save_named : (e : Ending) (item : Item) (d : Due) → SavesNamed item → AreNamed (save_at e item d)
save_named Succeeds item d h = done_named item d h
save_named Fails item d h = tt
save_named Changes item d h = tt
save_named LacksMemory item d h = tt

steps_named : (input : Input) (script : Script) (state_of : ℕ → Workspace) (c : ℕ) (snaps : Snapshots) (items : List Item) (outcomes : List Outcome) → AllByRecursion SavesNamed items
    → AreNamed (flat_map (λ step. save_at (ending step.outcome) step.item (due_at input script step)) (steps_from state_of c snaps items outcomes))
steps_named input script state_of c snaps [] outcomes h = tt
steps_named input script state_of c snaps (item ∷ items) [] h = tt
steps_named input script state_of c snaps (item ∷ items) (outcome ∷ outcomes) h =
    named-append _ _ (save_named (ending outcome) item _ h.0) (steps_named input script state_of (c + 1) (snaps_behind item outcome (state_of c) snaps) items outcomes h.1)

script_named : (input : Input) (history : List Event) (s : ℕ) (bytes : List ℕ) (script : Script) (outcomes : List Outcome) → SpelledBy bytes script → AreNamed (session_saves input history s (Runs script) outcomes)
unfolding saves_of steps
script_named input history s bytes script outcomes spelled =
    steps_named input script (state_for input history s) 1 no_names script.items.items outcomes (items_save script.items.items _ _ spelled.2 (texts_of bytes spelled.0 spelled.1))

sessions_named : (input : Input) (history : List Event) (s : ℕ) (scripts : List (List ℕ)) (readings : List Reading) (outcomes : List (List Outcome)) → AreReadings scripts readings → AreNamed (sessions_saves input history s readings outcomes)
sessions_named input history s [] [] outcomes h = tt
sessions_named input history s (bytes ∷ scripts) [] outcomes h = tt
sessions_named input history s [] (reading ∷ readings) outcomes h = absurd h
sessions_named input history s (bytes ∷ scripts) (reading ∷ readings) [] h = tt
sessions_named input history s (bytes ∷ scripts) (NoScript fault ∷ readings) (os ∷ oss) h = sessions_named input history (s + 1) scripts readings oss h.1
sessions_named input history s (bytes ∷ scripts) (Flawed fault ∷ readings) (os ∷ oss) h = sessions_named input history (s + 1) scripts readings oss h.1
sessions_named input history s (bytes ∷ scripts) (Runs script ∷ readings) (os ∷ oss) h =
    named-append _ _ (script_named input history s bytes script os h.0.0) (sessions_named input history (s + 1) scripts readings oss h.1)

-- the names of the files of a run are text
pub saves_named : (input : Input) (history : List Event) (outcomes : List (List Outcome)) (scripts : List (List ℕ)) (files : List SaveFile) → AreReadings scripts input.readings
    → saved_all files ≡ saves input history outcomes → All (λ f. IsUtf8 f.name) files
unfolding saves
saves_named input history outcomes scripts files read e = go files (subst AreNamed (sym e) (sessions_named input history 1 scripts input.readings outcomes read))
  where
    go : (fs : List SaveFile) → AreNamed (saved_all fs) → All (λ f. IsUtf8 f.name) fs
    go [] h = All-nil (λ f. IsUtf8 f.name)
    go (f ∷ fs) h = All-cons (λ g. IsUtf8 g.name) f fs (IsUtf8-from_ascii f.name h.0) (go fs h.1)
