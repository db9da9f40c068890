-- What LOAD and LOAD ALL do: the relations that are due of a file's bytes, or the first test that they fail.
-- 1. What comes of bytes, as the reader of either version says it, is what is due of the file.
-- 2. An item of which that is due does it, where it reads nothing: it is refused, or gives the names their relations.
use Rattle.std.proofs.Common.{◌≡◌, ◌∙◌, ◌≤◌, ◌+◌, arith, inr, ℕ, true, false, cond, List, [], ◌∷◌, ◌++◌, append-nil, length, map, Option, Some, None, Result, Ok, Err, refl, sym, ap, subst}
use Rattle.std.specs.Prelude.{IsSome}
use Rattle.std.specs.List.{flat_map}
use Rattle.std.proofs.lemmas.Bool.{false≢true}
use Rattle.std.specs.declared.vec.Vec.{Vec}
use Rattle.std.specs.declared.alloc.Global.{Global}
use Rattle.rel_model.specs.declared.Lack.{Lack}
use Rattle.rel_model.specs.declared.Lack.TheVariants.{Full, NoMemory as LACK_MEMORY}
use Rattle.rel_model.specs.declared.NoMemory.{NoMemory as LACK}
use Rattle.rel_model.specs.declared.Rel.{Rel}
use Rattle.rel_model.specs.Relation.{Relation}
use Rattle.rel_model.specs.Worker.{Worker, Stands, set_of, Gives as GIVES_REL, Keeps, MakesAtMost}
use Rattle.rel_model.proofs.Workers.{keeps_itself, keeps_trans, keeps_stands, keeps_set, gives_stands, gives_set}
use Rattle.lang_model.specs.declared.syntax.Item.{Item}
use Rattle.lang_model.specs.declared.syntax.Item.TheVariants.{Command as COMMAND}
use Rattle.lang_model.specs.declared.syntax.Command.TheVariants.{Load as LOAD, LoadAll as LOAD_ALL}
use Rattle.lang_model.specs.declared.syntax.Script.{Script}
use Rattle.run_model.specs.declared.event.Event.{Event}
use Rattle.run_model.specs.declared.outcome.BadFile.{BadFile}
use Rattle.run_model.specs.declared.outcome.BadFile.TheVariants.{Quad, Names as BAD_NAMES, Root, Order, Missing}
use Rattle.run_model.specs.declared.outcome.BadFile.TheVariants.{
  Short,
  Magic,
  Sizes,
  Height,
  Lengths,
  ZeroGroup,
  Outside,
  Padding,
  Rest,
  Full as FILE_FULL,
  NoMemory as FILE_NO_MEMORY,
}
use Rattle.run_model.specs.declared.outcome.Outcome.TheVariants.{Done, NoFile, BadFile as BAD_FILE, NoMemory as NO_MEMORY}
use Rattle.run_model.specs.Inputs.{Input, file_named}
use Rattle.run_model.specs.Files.{k2_fault, k2_relation}
use Rattle.run_model.specs.SharedFiles.{begins_shared, shared_fault, shared_relations, relation_named}
use Rattle.run_model.specs.Due.{Workspace, Early, Due, Value, Values, Refused, due, due_of_command, due_of_bytes, due_of_named, due_of_shared, due_of_all, due_of_file, due_of_whole_file, outcome_due, gives}
use Rattle.run_model.specs.Events.{deed_of, first_of, done_deeds}
use Rattle.run_model.specs.Outcomes.{MayLackNodes, IsNotEarly}
use Rattle.run_model.specs.Page.{shown, saved_of, done_text, done_save}
use Rattle.run_model.specs.Cost.{cost_of_item, where_value, where_values, cost_of_loaded, cost_of_gifts, listed_cost}
use Rattle.run_model.specs.Sessions.{rel_of, HaveValues}
use Rattle.run_model.specs.Texts.{prefix, refusal_text}
use Rattle.run_model.specs.Turns.{Turn, puts_of}
use Rattle.turn_book.specs.Views.{View as PASS}
use Rattle.k2_file.specs.Reading.{IsRead, cost_unless, cost_of_file}
use Rattle.k2_read.specs.Reading.{IsReadAll, IsReadNamed, IsRefused, IsMissing, IsFault, IsNamed, AreRead, cost_of_found, cost_of_shared, cost_of_named}
use Rattle.rv_eval.specs.Names.{HasSizes}
use Rattle.rv_workspace.specs.Entering.{assign_of, assigns}
use Rattle.rv_sessions.specs.Blocking.{gifts_in, GiftsStand}
use Rattle.rv_sessions.specs.Standing.{first_names, carried_by, Kept, KeptStand, meant}
use Rattle.rv_sessions.specs.Doing.{GoesThrough, Did, rels_by, due_on, state_of_turns, snap_meant}
use Rattle.rv_sessions.specs.Turning.{TookTurn, AssignAllTurn}
use Rattle.rv_sessions.specs.Reading.{lack_in, outcome_of_file, WasRefused, ReadOne, ReadAll, due_of_one_in, due_of_all_in}
use Rattle.rv_sessions.specs.declared.told.Told.{Told}
use Rattle.rv_sessions.specs.Acting.{DidItem}
use Rattle.rv_sessions.specs.Telling.{TellsRefusal}
use Rattle.rv_sessions.proofs.Telling.{refused_did}
use Rattle.rv_sessions.proofs.FoldingTurns.{through_none}
use Rattle.rv_sessions.proofs.Acting.{through_one, through_puts, through_nothing}
use Rattle.rv_sessions.proofs.Assigning.{ReadsNothing, unread_lacks, unread_full, unread_refuses, unread_gives}
use Rattle.rv_sessions.proofs.Blocks.{gifts_kept, gifts_stand_kept}
use Rattle.rv_sessions.proofs.Building.{Went, is_done}
use Rattle.rv_sessions.proofs.Committing.{puts_assign, puts_by, puts_stand, assigned_last, assigned_deeds, assigned_values}

-- ---- 1
-- a file of one relation
one_refused : (old new : Worker) (bytes : List ℕ) (kind : BadFile) → IsRead old new bytes (Err kind) →
    WasRefused (λ file. due_of_bytes file bytes (k2_fault bytes)) old new kind (lack_in kind)
one_refused old new bytes Short h = λ file. ap (due_of_bytes file bytes) h.0
one_refused old new bytes Magic h = λ file. ap (due_of_bytes file bytes) h.0
one_refused old new bytes Sizes h = λ file. ap (due_of_bytes file bytes) h.0
one_refused old new bytes Height h = λ file. ap (due_of_bytes file bytes) h.0
one_refused old new bytes Lengths h = λ file. ap (due_of_bytes file bytes) h.0
one_refused old new bytes (ZeroGroup at) h = λ file. ap (due_of_bytes file bytes) h.0
one_refused old new bytes (Outside at) h = λ file. ap (due_of_bytes file bytes) h.0
one_refused old new bytes Padding h = λ file. ap (due_of_bytes file bytes) h.0
one_refused old new bytes Rest h = λ file. ap (due_of_bytes file bytes) h.0
one_refused old new bytes (Quad at) h = λ file. ap (due_of_bytes file bytes) h.0
one_refused old new bytes (BAD_NAMES at) h = λ file. ap (due_of_bytes file bytes) h.0
one_refused old new bytes (Root at) h = λ file. ap (due_of_bytes file bytes) h.0
one_refused old new bytes (Order at) h = λ file. ap (due_of_bytes file bytes) h.0
one_refused old new bytes Missing h = λ file. ap (due_of_bytes file bytes) h.0
one_refused old new bytes FILE_FULL h = ((λ file. subst IsNotEarly (sym (ap (due_of_bytes file bytes) h.0)) tt), h.1)
one_refused old new bytes FILE_NO_MEMORY h = tt

-- a file of several: what is due of it, by its first fault and by whether what is wanted is there
module _ (there missing : Type 0) (due_by : List ℕ → Due) (bytes : List ℕ)
    (faulty : (kind : BadFile) → shared_fault bytes ≡ Some kind → (file : List ℕ) → due_by file ≡ Refused Early (BAD_FILE file kind))
    (whole : shared_fault bytes ≡ None → there → (file : List ℕ) → IsNotEarly (due_by file))
    (absent : missing → (file : List ℕ) → due_by file ≡ Refused Early (BAD_FILE file Missing)) (old new : Worker) where
  -- fault by fault: a test that failed, or a relation that is missing, is what is due; and a full table is met only
  -- behind a whole file
  several_refused : (kind : BadFile) → IsRefused there missing old new bytes kind → WasRefused due_by old new kind (lack_in kind)
  several_refused Short h = faulty Short h.0
  several_refused Magic h = faulty Magic h.0
  several_refused Sizes h = faulty Sizes h.0
  several_refused Height h = faulty Height h.0
  several_refused Lengths h = faulty Lengths h.0
  several_refused (ZeroGroup at) h = faulty (ZeroGroup at) h.0
  several_refused (Outside at) h = faulty (Outside at) h.0
  several_refused Padding h = faulty Padding h.0
  several_refused Rest h = faulty Rest h.0
  several_refused (Quad at) h = faulty (Quad at) h.0
  several_refused (BAD_NAMES at) h = faulty (BAD_NAMES at) h.0
  several_refused (Root at) h = faulty (Root at) h.0
  several_refused (Order at) h = faulty (Order at) h.0
  several_refused Missing h = absent h
  several_refused FILE_FULL h = (whole h.0 h.1, h.2)
  several_refused FILE_NO_MEMORY h = tt

-- the relation of a name
module _ (name bytes : List ℕ) where
  abbrev found : Option Relation
  found = relation_named name (shared_relations bytes)

  module _ (several : begins_shared bytes ≡ true) where
    due_several : (file : List ℕ) → due_of_one_in name bytes file ≡ due_of_shared name file bytes (shared_fault bytes)
    due_several file = ap (λ b. cond b (due_of_shared name file bytes (shared_fault bytes)) (due_of_bytes file bytes (k2_fault bytes))) several

    due_found : shared_fault bytes ≡ None → (file : List ℕ) → due_of_one_in name bytes file ≡ due_of_named file found
    due_found whole file = due_several file ∙ ap (due_of_shared name file bytes) whole

    late_found : (o : Option Relation) → IsSome o → (file : List ℕ) → IsNotEarly (due_of_named file o)
    late_found None h file = absurd (false≢true h)
    late_found (Some r) h file = tt

    given_found : (new : Worker) (rel : Rel) → shared_fault bytes ≡ None → (o : Option Relation) → found ≡ o → IsNamed new o rel →
        (r : Relation) × GIVES_REL new r.rows r.cols r rel × ((file : List ℕ) → due_of_one_in name bytes file ≡ Value r)
    given_found new rel whole None e h = absurd h
    given_found new rel whole (Some r) e h = (r, h, λ file. due_found whole file ∙ ap (due_of_named file) e)

    pub several_read : (old new : Worker) (result : Result Rel BadFile) → IsReadNamed old new bytes name result →
        ReadOne (due_of_one_in name bytes) old new result
    several_read old new (Ok rel) h = given_found new rel h.0 found refl h.1
    several_read old new (Err kind) h =
        several_refused (IsSome found) (IsMissing old new bytes name) (due_of_one_in name bytes) bytes
        (λ k e file. due_several file ∙ ap (due_of_shared name file bytes) e)
        (λ e t file. subst IsNotEarly (sym (due_found e file)) (late_found found t file))
        (λ m file. due_found m.0 file ∙ ap (due_of_named file) m.1) old new kind h

    cost_found : (leaf : ℕ) (file : List ℕ) (o : Option Relation) → where_value (due_of_named file o) (cost_of_loaded leaf) ≡ cost_of_found leaf o
    cost_found leaf file None = refl
    cost_found leaf file (Some r) = refl

    cost_shared : (leaf : ℕ) (file : List ℕ) (o : Option BadFile) →
        where_value (due_of_shared name file bytes o) (cost_of_loaded leaf) ≡ cost_unless o (cost_of_found leaf found)
    cost_shared leaf file None = cost_found leaf file found
    cost_shared leaf file (Some kind) = refl

    pub several_cost : (leaf : ℕ) (file : List ℕ) → where_value (due_of_one_in name bytes file) (cost_of_loaded leaf) ≡ cost_of_named leaf bytes name
    unfolding cost_of_named
    several_cost leaf file = ap (λ d. where_value d (cost_of_loaded leaf)) (due_several file) ∙ cost_shared leaf file (shared_fault bytes)

  module _ (one : begins_shared bytes ≡ false) where
    due_one : (file : List ℕ) → due_of_one_in name bytes file ≡ due_of_bytes file bytes (k2_fault bytes)
    due_one file = ap (λ b. cond b (due_of_shared name file bytes (shared_fault bytes)) (due_of_bytes file bytes (k2_fault bytes))) one

    turned_refusal : (old new : Worker) (kind : BadFile) (l : Option Lack) →
        WasRefused (λ file. due_of_bytes file bytes (k2_fault bytes)) old new kind l → WasRefused (due_of_one_in name bytes) old new kind l
    turned_refusal old new kind None h = λ file. due_one file ∙ h file
    turned_refusal old new kind (Some Full) h = ((λ file. subst IsNotEarly (sym (due_one file)) (h.0 file)), h.1)
    turned_refusal old new kind (Some LACK_MEMORY) h = tt

    pub single_read : (old new : Worker) (result : Result Rel BadFile) → IsRead old new bytes result → ReadOne (due_of_one_in name bytes) old new result
    single_read old new (Ok rel) h = (k2_relation bytes, h.1, λ file. due_one file ∙ ap (due_of_bytes file bytes) h.0)
    single_read old new (Err kind) h = turned_refusal old new kind (lack_in kind) (one_refused old new bytes kind h)

    cost_cases : (leaf : ℕ) (file : List ℕ) (o : Option BadFile) → where_value (due_of_bytes file bytes o) (cost_of_loaded leaf)
        ≡ cost_unless o (listed_cost leaf (length (k2_relation bytes).pairs) (k2_relation bytes).rows (k2_relation bytes).cols)
    cost_cases leaf file None = refl
    cost_cases leaf file (Some kind) = refl

    pub single_cost : (leaf : ℕ) (file : List ℕ) → where_value (due_of_one_in name bytes file) (cost_of_loaded leaf) ≡ cost_of_file leaf bytes
    unfolding cost_of_file
    single_cost leaf file = ap (λ d. where_value d (cost_of_loaded leaf)) (due_one file) ∙ cost_cases leaf file (k2_fault bytes)

-- all relations
are_given : (w : Worker) (es : List (List ℕ × Relation)) (list : List (List ℕ × Rel)) → AreRead w es list → GiftsStand w list × (gifts_in w list ≡ es)
are_given w [] [] h = (tt, refl)
are_given w [] (a ∷ answers) h = absurd h
are_given w (e ∷ es) [] h = absurd h
are_given w (e ∷ es) (a ∷ answers) h =
    let rest = are_given w es answers h.1 in
    let g = h.0.gives in
    let value = gives_set w e.1.rows e.1.cols e.1 a.1 g in
    let same = h.0.same_name in
    ((gives_stands w e.1.rows e.1.cols e.1 a.1 g, rest.0), λ i. (same i, value i) ∷ rest.1 i)

pub all_read : (old new : Worker) (bytes : List ℕ) (result : Result (Vec (List ℕ × Rel) Global) BadFile) → IsReadAll old new bytes result →
    ReadAll (due_of_all_in bytes) old new result
all_read old new bytes (Ok list) h =
    let a = are_given new (shared_relations bytes) list.items h.1 in
    (a.0, λ file. ap (due_of_all file bytes) h.0 ∙ ap Values (sym a.1))
all_read old new bytes (Err kind) h =
    several_refused (Unit {0}) (IsFault old new bytes Missing) (due_of_all_in bytes) bytes
    (λ k e file. ap (due_of_all file bytes) e) (λ e t file. subst IsNotEarly (sym (ap (due_of_all file bytes) e)) tt)
    (λ m file. ap (due_of_all file bytes) m.0) old new kind h

all_cost_cases : (leaf : ℕ) (bytes file : List ℕ) (o : Option BadFile) →
    where_values (due_of_all file bytes o) (cost_of_gifts leaf) ≡ cost_unless o (cost_of_gifts leaf (shared_relations bytes))
all_cost_cases leaf bytes file None = refl
all_cost_cases leaf bytes file (Some kind) = refl

pub all_cost : (leaf : ℕ) (bytes file : List ℕ) → where_values (due_of_all_in bytes file) (cost_of_gifts leaf) ≡ cost_of_shared leaf bytes
unfolding cost_of_shared
all_cost leaf bytes file = all_cost_cases leaf bytes file (shared_fault bytes)

-- ---- 2
-- an item that reads nothing, of which this is due by its file's name, at this cost
pub record IsLoading (leaf : ℕ) (input : Input) (script : Script) (item : Item) (file : List ℕ) (due_by : List ℕ → Due) (cost : ℕ) : Type 0 where
  pub quiet : ReadsNothing item
  pub due_is : (state : Workspace) (snap : Option Workspace) → due input script item state snap ≡ due_by file
  pub cost_is : (state : Workspace) (snap : Option Workspace) → cost_of_item leaf input script item state snap (due input script item state snap) ≡ cost
  pub nodes : IsNotEarly (due_by file) → MayLackNodes item (due_by file)

load_quiet : (name file : List ℕ) → ReadsNothing (COMMAND (LOAD name file))
load_quiet name file = record { reads = refl; memory = tt; no_snapped = refl; no_block = refl }

all_quiet : (file : List ℕ) → ReadsNothing (COMMAND (LOAD_ALL file))
all_quiet file = record { reads = refl; memory = tt; no_snapped = refl; no_block = refl }

module _ (leaf : ℕ) (input : Input) (script : Script) where
  load_due : (name file : List ℕ) (state : Workspace) (snap : Option Workspace) →
      due input script (COMMAND (LOAD name file)) state snap ≡ due_of_file name file (file_named input.files file)
  unfolding due due_of_command
  load_due name file state snap = refl

  all_due : (file : List ℕ) (state : Workspace) (snap : Option Workspace) →
      due input script (COMMAND (LOAD_ALL file)) state snap ≡ due_of_whole_file file (file_named input.files file)
  unfolding due due_of_command
  all_due file state snap = refl

  pub load_item : (name file bytes : List ℕ) → file_named input.files file ≡ Some bytes →
      IsLoading leaf input script (COMMAND (LOAD name file)) file (due_of_one_in name bytes)
      (where_value (due_of_one_in name bytes file) (cost_of_loaded leaf))
  load_item name file bytes there = record {
    quiet = load_quiet name file;
    due_is = λ state snap. load_due name file state snap ∙ ap (due_of_file name file) there;
    cost_is = λ state snap. ap (λ d. where_value d (cost_of_loaded leaf)) (load_due name file state snap ∙ ap (due_of_file name file) there);
    nodes = λ h. (tt, h);
  }

  -- LOAD ALL of a file that there is gives what is due of the bytes, and costs what all their relations cost
  pub all_item : (file bytes : List ℕ) → file_named input.files file ≡ Some bytes →
      IsLoading leaf input script (COMMAND (LOAD_ALL file)) file (due_of_all_in bytes)
      (where_values (due_of_all_in bytes file) (cost_of_gifts leaf))
  all_item file bytes there = record {
    quiet = all_quiet file;
    due_is = λ state snap. all_due file state snap ∙ ap (due_of_whole_file file) there;
    cost_is = λ state snap. ap (λ d. where_values d (cost_of_gifts leaf)) (all_due file state snap ∙ ap (due_of_whole_file file) there);
    nodes = λ h. (tt, h);
  }

  -- nothing was made
  module _ (s c : ℕ) (w : Worker) (p : PASS) (snaps : Kept) (stood : KeptStand w snaps) where
    nothing : (n x : ℕ) → n ≤ n + x
    nothing n x = omega arith

    pub untouched_lacks : (item : Item) → ReadsNothing item →
        Did leaf input script s c item w w p p snaps snaps NO_MEMORY (prefix s c ++ refusal_text NO_MEMORY) []
    untouched_lacks item q = unread_lacks leaf input script s c item w w p p snaps stood (keeps_itself w) q (through_none p) (nothing w.made _)

    -- there is no such file
    absent_did : (item : Item) → ReadsNothing item → (file : List ℕ) →
        ((state : Workspace) (snap : Option Workspace) → due input script item state snap ≡ Refused Early (NoFile file)) →
        (r : Result Told LACK) → TellsRefusal s c (NoFile file) r → DidItem leaf input script s c item w w p p snaps snaps r
    absent_did item q file d r t =
        refused_did leaf input script s c item w w p p snaps snaps (NoFile file) r t
        (unread_refuses leaf input script s c item w w p p snaps stood (keeps_itself w) q (through_none p) (nothing w.made _)
        Early (NoFile file) (d _ _) tt)
        (untouched_lacks item q)

    pub load_lacks : (name file : List ℕ) →
        Did leaf input script s c (COMMAND (LOAD name file)) w w p p snaps snaps NO_MEMORY (prefix s c ++ refusal_text NO_MEMORY) []
    load_lacks name file = untouched_lacks (COMMAND (LOAD name file)) (load_quiet name file)

    pub load_absent : (name file : List ℕ) → file_named input.files file ≡ None → (r : Result Told LACK) → TellsRefusal s c (NoFile file) r →
        DidItem leaf input script s c (COMMAND (LOAD name file)) w w p p snaps snaps r
    load_absent name file none =
        absent_did (COMMAND (LOAD name file)) (load_quiet name file) file (λ state snap. load_due name file state snap ∙ ap (due_of_file name file) none)

    pub all_absent : (file : List ℕ) → file_named input.files file ≡ None → (r : Result Told LACK) → TellsRefusal s c (NoFile file) r →
        DidItem leaf input script s c (COMMAND (LOAD_ALL file)) w w p p snaps snaps r
    all_absent file none =
        absent_did (COMMAND (LOAD_ALL file)) (all_quiet file) file (λ state snap. all_due file state snap ∙ ap (due_of_whole_file file) none)

-- ---- the file is there
module _ {leaf : ℕ} {input : Input} {script : Script} {item : Item} {file : List ℕ} {due_by : List ℕ → Due} {cost : ℕ}
    (x : IsLoading leaf input script item file due_by cost) (s c : ℕ) (old mid : Worker) (before : PASS) (snaps : Kept) (stood : KeptStand old snaps)
    (k : Keeps old mid) (room : MakesAtMost cost old mid) where
  room_at : (new : Worker) (state : Workspace) (snap : Option Workspace) → new.made ≡ mid.made →
      MakesAtMost (cost_of_item leaf input script item state snap (due input script item state snap)) old new
  room_at new state snap m = subst (λ z. new.made ≤ old.made + z) (sym (x.cost_is state snap)) (subst (λ z. z ≤ old.made + cost) (sym m) room)

  pub read_lacks : (new : Worker) (after : PASS) → GoesThrough [] before after → Keeps mid new → new.made ≡ mid.made →
      Did leaf input script s c item old new before after snaps snaps NO_MEMORY (prefix s c ++ refusal_text NO_MEMORY) []
  read_lacks new after g l m =
      unread_lacks leaf input script s c item old new before after snaps stood (keeps_trans old mid new k l) x.quiet g
      (room_at new (state_of_turns new (first_names before) []) (snap_meant new item snaps) m)

  -- what is refused of a file that was not read, by what was wanting
  refused_for : (kind : BadFile) (l : Option Lack) → WasRefused due_by old mid kind l →
      Did leaf input script s c item old mid before before snaps snaps (outcome_of_file file kind l) (prefix s c ++ refusal_text (outcome_of_file file kind l)) []
  refused_for kind (Some Full) h =
      unread_full leaf input script s c item old mid before before snaps stood k x.quiet (through_none before)
      (room_at mid (state_of_turns mid (first_names before) []) (snap_meant mid item snaps) refl)
      (subst (MayLackNodes item) (sym (x.due_is (state_of_turns mid (first_names before) []) (snap_meant mid item snaps))) (x.nodes (h.0 file))) h.1
  refused_for kind (Some LACK_MEMORY) h = read_lacks mid before (through_none before) (keeps_itself mid) refl
  refused_for kind None h =
      unread_refuses leaf input script s c item old mid before before snaps stood k x.quiet (through_none before)
      (room_at mid (state_of_turns mid (first_names before) []) (snap_meant mid item snaps) refl) Early (BAD_FILE file kind)
      (x.due_is (state_of_turns mid (first_names before) []) (snap_meant mid item snaps) ∙ h file) tt

  pub read_refused : (kind : BadFile) → WasRefused due_by old mid kind (lack_in kind) → (r : Result Told LACK) →
      TellsRefusal s c (outcome_of_file file kind (lack_in kind)) r → DidItem leaf input script s c item old mid before before snaps snaps r
  read_refused kind h r t =
      refused_did leaf input script s c item old mid before before snaps snaps (outcome_of_file file kind (lack_in kind)) r t (refused_for kind (lack_in kind) h)
      (read_lacks mid before (through_none before) (keeps_itself mid) refl)

  -- one name got the relation that is due
  pub read_given : (new : Worker) (after : PASS) (name own : List ℕ) (rel : Rel) → own ≡ name →
      (first_of item ≡ []) → ((r : Relation) → gives item (Value r) ≡ (name, r) ∷ []) → ((numbers : List ℕ) (r : Relation) → shown numbers item r ≡ []) →
      ((r : Relation) → saved_of item r ≡ []) → ReadOne due_by old mid (Ok rel) →
      ((log : List Event) × TookTurn mid new before after log (assign_of s c (own, rel) ∷ [])) →
      Did leaf input script s c item old new before after snaps snaps Done [] []
  read_given new after name own rel n first given text saved v t =
      let t1 : TookTurn mid new before after t.0 (assign_of s c (name, rel) ∷ []) =
      subst (λ m. TookTurn mid new before after t.0 (assign_of s c (m, rel) ∷ [])) n t.1 in
      let l : Keeps mid new = t1.stays.keeps in
      let r : Relation = v.0 in
      let st : Stands mid rel = gives_stands mid r.rows r.cols r rel v.1 in
      let d : due input script item (meant new (carried_by before t.0)) (snap_meant new item snaps) ≡ Value r =
      x.due_is (meant new (carried_by before t.0)) (snap_meant new item snaps) ∙ v.2 file in
      unread_gives leaf input script s c item old new before after snaps stood (keeps_trans old mid new k l) x.quiet name rel r t.0
      (through_one t1) t1.stand t1.first_stand (keeps_stands mid new rel l st) (keeps_set mid new rel l st ∙ gives_set mid r.rows r.cols r rel v.1)
      (sym v.1.row_size) (sym v.1.col_size) d first (given r) (λ numbers. text numbers r) (saved r)
      (subst (λ y. MakesAtMost (cost_of_item leaf input script item (meant new (carried_by before t.0)) (snap_meant new item snaps) y) old new) d
      (room_at new (meant new (carried_by before t.0)) (snap_meant new item snaps) t1.stays.made))

-- all names got their relations
module _ {leaf : ℕ} {input : Input} {script : Script} {file : List ℕ} {due_by : List ℕ → Due} {cost : ℕ}
    (x : IsLoading leaf input script (COMMAND (LOAD_ALL file)) file due_by cost) (s c : ℕ) (old mid new : Worker) (before after : PASS) (snaps : Kept)
    (stood : KeptStand old snaps) (k : Keeps old mid) (room : MakesAtMost cost old mid) (sizes : HasSizes new) where
  abbrev item : Item
  item = COMMAND (LOAD_ALL file)

  abbrev turns_of : List Event → List (List ℕ × Rel) → List Turn
  turns_of log [] = []
  turns_of log (g ∷ gs) = record { took = log; put = assigns s c (g ∷ gs) } ∷ []

  -- it went through the one turn that assigned them all, or through none where there are none
  went_through : (log : List Event) (list : List (List ℕ × Rel)) → GiftsStand new list → TookTurn mid new before after log (assigns s c list) →
      Went leaf input script s c item old new before after snaps (turns_of log list)
  went_through log [] there t = record {
    through = through_nothing t;
    own = tt;
    begun = tt;
    once = tt;
    stand = tt;
    snaps_stood = stood;
    room = room_at x s c old mid before snaps stood k room new (state_of_turns new (first_names before) []) (snap_meant new item snaps) t.stays.made;
    keeps = keeps_trans old mid new k t.stays.keeps;
  }
  went_through log (g ∷ gs) there t = record {
    through = through_puts t;
    own = (record { each = puts_by s c (g ∷ gs); kind = inr (puts_assign s c (g ∷ gs)) }, tt);
    begun = (assign_of s c g, assigns s c gs, refl);
    once = (assigned_last s c (g ∷ gs), tt);
    stand = (record { first_stand = t.first_stand; log = t.stand; own = puts_stand new s c (g ∷ gs) there }, tt);
    snaps_stood = stood;
    room = room_at x s c old mid before snaps stood k room new (meant new (carried_by before log)) (snap_meant new item snaps) t.stays.made;
    keeps = keeps_trans old mid new k t.stays.keeps;
  }

  puts_are : (log : List Event) (list : List (List ℕ × Rel)) → puts_of (turns_of log list) ≡ assigns s c list
  puts_are log [] = refl
  puts_are log (g ∷ gs) = append-nil (assigns s c (g ∷ gs))

  -- so LOAD ALL is done: its turn gave each name of the file its relation, and these are the gifts that are due
  pub all_given : (list : List (List ℕ × Rel)) → GiftsStand mid list → ((file' : List ℕ) → due_by file' ≡ Values (gifts_in mid list)) →
      AssignAllTurn s c list mid new before after (Ok tt) → Did leaf input script s c item old new before after snaps snaps Done [] []
  all_given list stands d t =
      let log = t.0 in
      let ts = turns_of log list in
      let l : Keeps mid new = t.1.stays.keeps in
      let there : GiftsStand new list = gifts_stand_kept mid new list l stands in
      let dd : due_on input script item new snaps (first_names before) ts ≡ Values (gifts_in new list) =
      x.due_is (state_of_turns new (first_names before) ts) (snap_meant new item snaps) ∙ d file ∙ ap Values (sym (gifts_kept mid new list l stands)) in
      is_done (went_through log list there t.1) snaps [] [] (ap outcome_due dd)
      (ap (map (λ e. deed_of e.act)) (puts_are log list) ∙ assigned_deeds new sizes s c list there ∙ sym (ap (done_deeds item) dd))
      (subst (HaveValues (set_of new) (rels_by ts)) (sym (ap (gives item) dd))
      (subst (λ es. HaveValues (set_of new) (flat_map (λ e. rel_of e.act) es) (gifts_in new list)) (sym (puts_are log list)) (assigned_values new s c list)))
      (sym (ap (done_text (prefix s c) item) dd)) (sym (ap (done_save item) dd)) refl tt
