-- What SAVE ALL does: one read of all names, and the file of their relations, or its bits where these pass the limit.
use Rattle.std.proofs.Common.{◌≡◌, ◌∙◌, ◌≤◌, ◌<◌, ◌+◌, ◌*◌, arith, ℕ, cond, List, [], ◌∷◌, ◌++◌, length, Option, None, Result, refl, sym, ap, subst}
use Rattle.std.proofs.lemmas.Bool.{lt-ltb, le-ltb}
use Rattle.rel_model.specs.declared.NoMemory.{NoMemory as LACK}
use Rattle.rel_model.specs.Worker.{Worker, Keeps, MakesAtMost}
use Rattle.rel_model.proofs.Workers.{keeps_trans, keeps_stands}
use Rattle.lang_model.specs.declared.syntax.Item.{Item}
use Rattle.lang_model.specs.declared.syntax.Item.TheVariants.{Command as COMMAND}
use Rattle.lang_model.specs.declared.syntax.Command.TheVariants.{SaveAll as SAVE_ALL}
use Rattle.lang_model.specs.declared.syntax.Script.{Script}
use Rattle.run_model.specs.declared.event.Event.{Event}
use Rattle.run_model.specs.declared.outcome.Outcome.TheVariants.{Done, TooLong, NoMemory as NO_MEMORY}
use Rattle.run_model.specs.Carried.{Carried}
use Rattle.run_model.specs.Due.{Workspace, Late, Bytes, Refused, due, due_of_command, bits_in, saved_bytes, outcome_due}
use Rattle.run_model.specs.Events.{reads_of, done_deeds}
use Rattle.run_model.specs.Inputs.{Input}
use Rattle.run_model.specs.Limits.{save_limit}
use Rattle.run_model.specs.Page.{done_text, done_save}
use Rattle.run_model.specs.SharedBytes.{shared_file}
use Rattle.run_model.specs.Texts.{prefix, refusal_text}
use Rattle.turn_book.specs.Views.{View as PASS}
use Rattle.k2_file.specs.Writing.{IsTooLong}
use Rattle.k2_file.specs.declared.refused.WriteRefused.{WriteRefused}
use Rattle.k2_file.specs.declared.refused.WriteRefused.TheVariants.{TooLong as TOO_LONG, NoMemory as WRITE_NO_MEMORY}
use Rattle.k2_write.specs.Writing.{named_sets}
use Rattle.rv_workspace.specs.Entering.{read_of}
use Rattle.rv_workspace.specs.Picking.{picked}
use Rattle.rv_workspace.specs.Books.{AllNamesStand}
use Rattle.rv_workspace.proofs.Replaying.{history_stands, all_names_stand}
use Rattle.rv_sessions.specs.declared.told.Told.{Told}
use Rattle.rv_sessions.specs.Acting.{turn_of, WasNotRead, DidItem}
use Rattle.rv_sessions.specs.Doing.{Did, due_on, snap_meant}
use Rattle.rv_sessions.specs.Standing.{first_names, carried_by, Kept, KeptStand, meant}
use Rattle.rv_sessions.specs.Telling.{TellsNotWritten}
use Rattle.rv_sessions.specs.Turning.{TookTurn}
use Rattle.rv_sessions.proofs.Acting.{through_one}
use Rattle.rv_sessions.proofs.Building.{by_one, once_one, Went, lacks, refuses, is_done}
use Rattle.rv_sessions.proofs.FoldingKept.{meant_same, carried_stands}
use Rattle.rv_sessions.proofs.Telling.{refused_did}

-- the names of a read stand
pub names_stand : (mid : Worker) (log : List Event) (names : Carried) (s c : ℕ) (old : Worker) (before after : PASS) →
    TookTurn old mid before after log (read_of s c ∷ []) → names ≡ picked None (carried_by before log) → AllNamesStand mid names
names_stand mid log names s c old before after t n = subst (AllNamesStand mid) (sym n) (carried_stands mid (first_names before) log t.first_stand t.stand)

module _ (leaf : ℕ) (input : Input) (script : Script) (s c : ℕ) (file : List ℕ) (old : Worker) (before : PASS) (snaps : Kept)
    (stood : KeptStand old snaps) where
  abbrev item : Item
  item = COMMAND (SAVE_ALL file)

  due_saved : (state : Workspace) (snap : Option Workspace) → due input script item state snap ≡ saved_bytes (shared_file state)
  unfolding due due_of_command
  due_saved state snap = refl

  nothing : (a b x : ℕ) → b ≡ a → b ≤ a + x
  nothing a b x e = omega (arith, e)

  -- nothing was read
  pub save_unread : (new : Worker) (after : PASS) → WasNotRead old new before after →
      Did leaf input script s c item old new before after snaps snaps NO_MEMORY (prefix s c ++ refusal_text NO_MEMORY) []
  save_unread new after h =
      lacks {ts = []}
      (record { through = h.through; own = tt; begun = tt; once = tt; stand = tt; snaps_stood = stood; room = nothing old.made new.made _ h.stays.made; keeps = h.stays.keeps })
      tt (reads_of item, refl)

  module _ (mid new : Worker) (after : PASS) (log : List Event) (t : TookTurn old mid before after log (read_of s c ∷ [])) (k : Keeps mid new)
      (made : MakesAtMost 0 mid new) where
    no_more : (a m n x : ℕ) → m ≡ a → n ≤ m + 0 → n ≤ a + x
    no_more a m n x e l = omega (arith, e, l)

    went : Went leaf input script s c item old new before after snaps (turn_of log (read_of s c) ∷ [])
    went = record {
      through = through_one t;
      own = (by_one refl refl, tt);
      begun = (read_of s c, [], refl);
      once = once_one log (read_of s c);
      stand = (
        record {
          first_stand = all_names_stand mid new (λ x h. keeps_stands mid new x k h) (first_names before) t.first_stand;
          log = history_stands mid new (λ x h. keeps_stands mid new x k h) log t.stand;
          own = (tt, tt);
        },
        tt,
      );
      snaps_stood = stood;
      room = no_more old.made mid.made new.made _ t.stays.made made;
      keeps = keeps_trans old mid new t.stays.keeps k;
    }

    -- memory ran out behind the read
    pub save_lacks : Did leaf input script s c item old new before after snaps snaps NO_MEMORY (prefix s c ++ refusal_text NO_MEMORY) []
    save_lacks = lacks went tt ([], refl)

    module _ (names : Carried) (n : names ≡ picked None (carried_by before log)) where
      same_file : shared_file (named_sets mid names) ≡ shared_file (meant new (carried_by before log))
      same_file =
          ap (λ m. shared_file (named_sets mid m)) n
          ∙ ap shared_file (meant_same mid new k (carried_by before log) (carried_stands mid (first_names before) log t.first_stand t.stand))

      due_is : due_on input script item new snaps (first_names before) (turn_of log (read_of s c) ∷ []) ≡ saved_bytes (shared_file (named_sets mid names))
      due_is = due_saved (meant new (carried_by before log)) (snap_meant new item snaps) ∙ ap saved_bytes (sym same_file)

      due_within : (bytes : List ℕ) → 8 * length bytes ≤ save_limit → saved_bytes bytes ≡ Bytes bytes
      due_within bytes h = ap (λ b. cond b (Refused Late (TooLong (bits_in bytes))) (Bytes bytes)) (le-ltb save_limit (8 * length bytes) h)

      due_over : (bytes : List ℕ) → save_limit < 8 * length bytes → saved_bytes bytes ≡ Refused Late (TooLong (8 * length bytes))
      due_over bytes h = ap (λ b. cond b (Refused Late (TooLong (bits_in bytes))) (Bytes bytes)) (lt-ltb save_limit (8 * length bytes) h)

      -- the file was written
      pub save_done : (own bytes : List ℕ) → own ≡ file → bytes ≡ shared_file (named_sets mid names) → 8 * length bytes ≤ save_limit →
          Did leaf input script s c item old new before after snaps snaps Done [] (record { name = own; bytes = bytes } ∷ [])
      save_done own bytes o e h =
          let dd = due_is ∙ ap saved_bytes (sym e) ∙ due_within bytes h in
          subst (λ m. Did leaf input script s c item old new before after snaps snaps Done [] (record { name = m; bytes = bytes } ∷ [])) (sym o)
          (is_done went snaps [] (record { name = file; bytes = bytes } ∷ []) (ap outcome_due dd) (sym (ap (done_deeds item) dd)) tt
          (sym (ap (done_text (prefix s c) item) dd)) (sym (ap (done_save item) dd)) refl tt)

      -- it was not
      pub save_refused : (why : WriteRefused) (result : Result Told LACK) → IsTooLong (8 * length (shared_file (named_sets mid names))) why →
          TellsNotWritten s c why result → DidItem leaf input script s c item old new before after snaps snaps result
      save_refused (TOO_LONG bits) result h t' =
          refused_did leaf input script s c item old new before after snaps snaps (TooLong bits) result t'
          (refuses went Late (TooLong bits) (due_is ∙ due_over (shared_file (named_sets mid names)) h.0 ∙ ap (λ b. Refused Late (TooLong b)) (sym h.1)) tt refl)
          save_lacks
      save_refused WRITE_NO_MEMORY result h t' = subst (DidItem leaf input script s c item old new before after snaps snaps) (sym t'.1) save_lacks
