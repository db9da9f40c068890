-- What an item did, by how it ended: it was done, it was refused for what is due, the table was full, or memory ran out.
use Rattle.std.proofs.Common.{◌≡◌, ◌∙◌, inl, inr, ℕ, List, [], ◌∷◌, ◌++◌, Option, Some, None, append_assoc, refl, sym, ap, subst}
use Rattle.std.specs.Prelude.{IsSome}
use Rattle.std.specs.List.{AllByRecursion}
use Rattle.rel_model.specs.Worker.{Worker, set_of, Keeps, MakesAtMost, Rose}
use Rattle.std.proofs.lemmas.Bool.{false≢true}
use Rattle.lang_model.specs.declared.syntax.Let.{Let as BlockLet}
use Rattle.lang_model.specs.declared.syntax.Item.{Item}
use Rattle.lang_model.specs.declared.syntax.Item.TheVariants.{Function, Program, Command as COMMAND}
use Rattle.lang_model.specs.declared.syntax.Script.{Script}
use Rattle.run_model.specs.declared.outcome.Outcome.{Outcome}
use Rattle.run_model.specs.declared.outcome.Outcome.TheVariants.{
  Done,
  Parse,
  Ill,
  Size,
  Turns,
  Nodes,
  TooLarge,
  TooLong,
  NoFile,
  BadFile as BAD_FILE,
  NoMemory,
  Changed,
}
use Rattle.run_model.specs.Inputs.{Input}
use Rattle.run_model.specs.Due.{When, Due, Refused, outcome_due, gives}
use Rattle.run_model.specs.Steps.{Ending, Succeeds, Fails, ending, snapped}
use Rattle.run_model.specs.declared.event.Event.{Event}
use Rattle.run_model.specs.Versions.{Change}
use Rattle.run_model.specs.Blocks.{block_reads}
use Rattle.run_model.specs.Legal.{IsCommit, CommitsItem}
use Rattle.run_model.specs.Events.{Deed, Begins, HasDeeds, reads_of, reads_again, all_reads_of, done_deeds}
use Rattle.run_model.specs.Outcomes.{MayLackNodes, MayLackMemory, lets_of}
use Rattle.run_model.specs.Page.{SavedFile, reply, reply_at, save_at, done_text, done_save}
use Rattle.run_model.specs.Cost.{cost_of_item}
use Rattle.run_model.specs.Turns.{Turn, AssignsOnce, change_taken}
use Rattle.run_model.specs.Sessions.{HaveValues, HasValuesAt}
use Rattle.run_model.specs.Texts.{prefix, refusal_text}
use Rattle.turn_book.specs.Views.{View}
use Rattle.rv_sessions.specs.Standing.{first_names, first_versions, TurnsStand, Kept, KeptStand}
use Rattle.rv_sessions.specs.Doing.{IsBy, BeginsWithEvent, GoesThrough, names_took, deeds_by, rels_by, keep, kept_behind, snap_meant, state_of_turns, due_on, Did}
use Rattle.rv_workspace.specs.Entering.{read_of}
use Rattle.rv_sessions.specs.Acting.{turn_of}
use Rattle.rv_sessions.specs.Valuing.{IsRefusal}
use Rattle.rv_sessions.proofs.FoldingKept.{took_stand, snaps_stand, left_stands}

-- a refusal that is due ends so
pub ends : (o : Outcome) → IsRefusal o → ending o ≡ Fails
ends Done h = absurd h
ends (Parse fault) h = refl
ends (Ill fault) h = refl
ends (Size at wanted limit) h = refl
ends (Turns at limit) h = refl
ends Nodes h = absurd h
ends (TooLarge wanted counted) h = refl
ends (TooLong bits) h = refl
ends (NoFile name) h = refl
ends (BAD_FILE name kind) h = refl
ends NoMemory h = absurd h
ends (Changed name seen found) h = absurd h

-- and is no full table
no_full_table : (o : Outcome) → IsRefusal o → o ≡ Nodes → ⊥
no_full_table o h e = subst IsRefusal e h

done_is_no_full_table : Done ≡ Nodes → ⊥
done_is_no_full_table e = cc

change_is_no_full_table : (name : List ℕ) (seen found : ℕ) → Changed name seen found ≡ Nodes → ⊥
change_is_no_full_table name seen found e = cc

lack_is_no_full_table : NoMemory ≡ Nodes → ⊥
lack_is_no_full_table e = cc

-- ---- deeds and commits
no_more : (item : Item) → (again : List Deed) × (all_reads_of item ≡ reads_of item ++ again)
no_more (COMMAND command) = (reads_again command, refl)
no_more (Function at name params body) = ([], refl)
no_more (Program at name params decls body result) = ([], refl)

-- what begins the reads of an item begins all its reads
pub reads_begin : (item : Item) (deeds : List Deed) → Begins deeds (reads_of item) → Begins deeds (all_reads_of item)
reads_begin item deeds b =
    let m = no_more item in
    (b.0 ++ m.0, m.1 ∙ ap (λ l. l ++ m.0) b.1 ∙ append_assoc deeds b.0 m.0)

-- an outcome of which no commit is told
pub no_commit : (change : List (List ℕ) → Option Change) (lets : Option (List BlockLet)) (o : Outcome) → ((x : Option Change) → IsCommit o x) →
    CommitsItem change lets o
no_commit change None o h = tt
no_commit change (Some lets) o h = h (change (block_reads lets))

-- a refusal says nothing of a commit: only a block that is done or tells of a change does
refusal_commits : (o : Outcome) → IsRefusal o → (x : Option Change) → IsCommit o x
refusal_commits Done h x = absurd h
refusal_commits (Parse fault) h x = tt
refusal_commits (Ill fault) h x = tt
refusal_commits (Size at wanted limit) h x = tt
refusal_commits (Turns at limit) h x = tt
refusal_commits Nodes h x = tt
refusal_commits (TooLarge wanted counted) h x = tt
refusal_commits (TooLong bits) h x = tt
refusal_commits (NoFile name) h x = tt
refusal_commits (BAD_FILE name kind) h x = tt
refusal_commits NoMemory h x = tt
refusal_commits (Changed name seen found) h x = absurd h

-- ---- turns of one event
-- a turn that put one event of a command
pub by_one : {s c : ℕ} {log : List Event} {e : Event} → e.session ≡ s → e.command ≡ c → IsBy s c (turn_of log e)
by_one {e = e} a b = record { each = ((a, b), tt); kind = inl (e, refl) }

-- one turn assigns once, and so does one behind a read
pub once_one : (log : List Event) (e : Event) → AssignsOnce (turn_of log e ∷ [])
once_one log e = (((λ h. refl), tt), tt)

pub once_read : (log taken : List Event) (s c : ℕ) (e : Event) → AssignsOnce (turn_of log (read_of s c) ∷ turn_of taken e ∷ [])
once_read log taken s c e = (((λ h. absurd (false≢true h)), tt), (((λ h. refl), tt), tt))

-- what is known of an item's turns, whatever it came to
pub record Went (leaf : ℕ) (input : Input) (script : Script) (s c : ℕ) (item : Item) (old new : Worker) (before after : View)
    (snaps : Kept) (ts : List Turn) : Type 0 where
  pub through : GoesThrough ts before after
  pub own : AllByRecursion (IsBy s c) ts
  pub begun : BeginsWithEvent ts
  pub once : AssignsOnce ts
  pub stand : TurnsStand new (first_names before) ts
  pub snaps_stood : KeptStand old snaps
  pub room : MakesAtMost (cost_of_item leaf input script item (state_of_turns new (first_names before) ts) (snap_meant new item snaps)
      (due_on input script item new snaps (first_names before) ts)) old new
  pub keeps : Keeps old new

-- the text of a refusal
told : (x : Ending) (numbers : List ℕ) (item : Item) (d : Due) (o : Outcome) → x ≡ Fails → numbers ++ refusal_text o ≡ reply_at x numbers item d o
told x numbers item d o e = subst (λ y. numbers ++ refusal_text o ≡ reply_at y numbers item d o) (sym e) refl

module _ {leaf : ℕ} {input : Input} {script : Script} {s c : ℕ} {item : Item} {old new : Worker} {before after : View}
    {snaps : Kept} {ts : List Turn} (w : Went leaf input script s c item old new before after snaps ts) where
  abbrev d : Due
  d = due_on input script item new snaps (first_names before) ts

  -- memory ran out behind some of all reads
  pub lacks_behind : MayLackMemory item → Begins (deeds_by ts) (all_reads_of item) →
      Did leaf input script s c item old new before after snaps snaps NoMemory (prefix s c ++ refusal_text NoMemory) []
  unfolding reply
  lacks_behind memory begins = record {
    ts = ts;
    through = w.through;
    own = w.own;
    begun = w.begun;
    once = w.once;
    stand = w.stand;
    deeds = begins;
    lawful = inr (inr (inl (refl, memory)));
    values = tt;
    commits = no_commit (change_taken (first_versions before) ts c) (lets_of item) NoMemory (λ x. tt);
    text_is = refl;
    saved_is = refl;
    snaps_left = refl;
    snaps_stand = snaps_stand old new w.keeps snaps w.snaps_stood;
    room = w.room;
    missed = λ e. absurd (lack_is_no_full_table e);
    keeps = w.keeps;
  }

  -- memory ran out
  pub lacks : MayLackMemory item → Begins (deeds_by ts) (reads_of item) →
      Did leaf input script s c item old new before after snaps snaps NoMemory (prefix s c ++ refusal_text NoMemory) []
  lacks memory begins = lacks_behind memory (reads_begin item (deeds_by ts) begins)

  -- the table was full
  pub full : MayLackNodes item d → Rose old.misses new.misses → deeds_by ts ≡ reads_of item →
      Did leaf input script s c item old new before after snaps snaps Nodes (prefix s c ++ refusal_text Nodes) []
  unfolding reply
  full nodes rose reads = record {
    ts = ts;
    through = w.through;
    own = w.own;
    begun = w.begun;
    once = w.once;
    stand = w.stand;
    deeds = reads;
    lawful = inr (inl (refl, nodes));
    values = tt;
    commits = no_commit (change_taken (first_versions before) ts c) (lets_of item) Nodes (λ x. tt);
    text_is = refl;
    saved_is = refl;
    snaps_left = refl;
    snaps_stand = snaps_stand old new w.keeps snaps w.snaps_stood;
    room = w.room;
    missed = λ e. rose;
    keeps = w.keeps;
  }

  -- it was refused for what is due
  pub refuses : (when : When) (o : Outcome) → d ≡ Refused when o → IsRefusal o → deeds_by ts ≡ reads_of item →
      Did leaf input script s c item old new before after snaps snaps o (prefix s c ++ refusal_text o) []
  unfolding reply
  refuses when o due_is refusal reads = record {
    ts = ts;
    through = w.through;
    own = w.own;
    begun = w.begun;
    once = w.once;
    stand = w.stand;
    deeds = subst (λ x. HasDeeds x item d (deeds_by ts)) (sym (ends o refusal)) reads;
    lawful = inl (sym (ap outcome_due due_is));
    values = subst (λ x. HasValuesAt x (set_of new) (rels_by ts) (gives item d)) (sym (ends o refusal)) tt;
    commits = no_commit (change_taken (first_versions before) ts c) (lets_of item) o (refusal_commits o refusal);
    text_is = told (ending o) (prefix s c) item d o (ends o refusal);
    saved_is = subst (λ x. [] ≡ save_at x item d) (sym (ends o refusal)) refl;
    snaps_left = subst (λ x. snaps ≡ kept_behind x item (names_took (first_names before) ts) snaps) (sym (ends o refusal)) refl;
    snaps_stand = snaps_stand old new w.keeps snaps w.snaps_stood;
    room = w.room;
    missed = λ e. absurd (no_full_table o refusal e);
    keeps = w.keeps;
  }

  -- it was done
  pub is_done : (left : Kept) (text : List ℕ) (saved : List SavedFile) → outcome_due d ≡ Done → deeds_by ts ≡ done_deeds item d →
      HaveValues (set_of new) (rels_by ts) (gives item d) → text ≡ done_text (prefix s c) item d → saved ≡ done_save item d →
      left ≡ keep (snapped item) (names_took (first_names before) ts) snaps → CommitsItem (change_taken (first_versions before) ts c) (lets_of item) Done →
      Did leaf input script s c item old new before after snaps left Done text saved
  unfolding reply
  is_done left text saved done deeds values text_is saved_is left_is commits = record {
    ts = ts;
    through = w.through;
    own = w.own;
    begun = w.begun;
    once = w.once;
    stand = w.stand;
    deeds = deeds;
    lawful = inl (sym done);
    values = values;
    commits = commits;
    text_is = text_is;
    saved_is = saved_is;
    snaps_left = left_is;
    snaps_stand = subst (KeptStand new) (sym left_is)
        (left_stands old new w.keeps Succeeds item (names_took (first_names before) ts) snaps (took_stand new (first_names before) ts w.stand) w.snaps_stood);
    room = w.room;
    missed = λ e. absurd (done_is_no_full_table e);
    keeps = w.keeps;
  }

  -- it is a block, and was refused at its commit
  pub changes : (name : List ℕ) (seen found : ℕ) → IsSome (lets_of item) → outcome_due d ≡ Done → deeds_by ts ≡ all_reads_of item →
      CommitsItem (change_taken (first_versions before) ts c) (lets_of item) (Changed name seen found) →
      Did leaf input script s c item old new before after snaps snaps (Changed name seen found) (prefix s c ++ refusal_text (Changed name seen found)) []
  unfolding reply
  changes name seen found block done reads commits = record {
    ts = ts;
    through = w.through;
    own = w.own;
    begun = w.begun;
    once = w.once;
    stand = w.stand;
    deeds = reads;
    lawful = inr (inr (inr ((name, seen, found, refl), (block, done))));
    values = tt;
    commits = commits;
    text_is = refl;
    saved_is = refl;
    snaps_left = refl;
    snaps_stand = snaps_stand old new w.keeps snaps w.snaps_stood;
    room = w.room;
    missed = λ e. absurd (change_is_no_full_table name seen found e);
    keeps = w.keeps;
  }
