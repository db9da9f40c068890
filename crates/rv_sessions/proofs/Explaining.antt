-- EXPLAIN: what the evaluator and the printer tell is what is due on the log that was read.
use Rattle.std.proofs.Common.{◌≡◌, ◌+◌, ◌≤◌, ◌++◌, ◌∙◌, inl, inr, ℕ, List, [], ◌∷◌, Option, Some, None, Result, Ok, Err, refl, sym, ap, subst, arith}
use Rattle.rel_model.specs.declared.NoMemory.{NoMemory as LACK}
use Rattle.rel_model.specs.Worker.{Worker}
use Rattle.lang_model.specs.declared.faults.TypeFault.{TypeFault}
use Rattle.lang_model.specs.declared.syntax.Expr.{Expr}
use Rattle.lang_model.specs.declared.syntax.Command.TheVariants.{Explain as EXPLAIN}
use Rattle.lang_model.specs.declared.syntax.Item.{Item}
use Rattle.lang_model.specs.declared.syntax.Item.TheVariants.{Command as COMMAND}
use Rattle.lang_model.specs.declared.syntax.Script.{Script}
use Rattle.lang_model.specs.Trees.{tree_of}
use Rattle.lang_model.specs.Rewriting.{Step, steps_of}
use Rattle.lang_model.specs.Eval.{names_in, early_fault, AgreeOn}
use Rattle.lang_model.proofs.Seeing.{by_names}
use Rattle.run_model.specs.declared.event.Event.{Event}
use Rattle.run_model.specs.declared.outcome.Outcome.{Outcome}
use Rattle.run_model.specs.declared.outcome.Outcome.TheVariants.{Done, Ill as ILL, NoMemory as NO_MEMORY}
use Rattle.run_model.specs.Names.{lookup}
use Rattle.run_model.specs.Inputs.{Input}
use Rattle.run_model.specs.Due.{Workspace, Early, Explained, Refused, due, due_of_command, due_of_steps, outcome_due}
use Rattle.run_model.specs.Events.{reads_of}
use Rattle.run_model.specs.Page.{done_text, done_save}
use Rattle.run_model.specs.Texts.{prefix, refusal_text}
use Rattle.run_model.specs.Carried.{Carried}
use Rattle.turn_book.specs.Views.{View as PASS}
use Rattle.rv_workspace.specs.Entering.{read_of}
use Rattle.rv_workspace.specs.Picking.{picked}
use Rattle.rv_eval.specs.declared.halt.Refused.{Refused as REFUSED}
use Rattle.rv_eval.specs.declared.halt.Refused.TheVariants.{Ill as ILL_REFUSED, Size as SIZE_REFUSED, Turns as TURNS_REFUSED, Nodes, NoMemory}
use Rattle.rv_eval.specs.Names.{state_of}
use Rattle.rv_eval.specs.Refusing.{IsRefusedAhead}
use Rattle.rv_sessions.specs.declared.told.Told.{Told}
use Rattle.rv_sessions.specs.Acting.{turn_of, WasNotRead, DidItem}
use Rattle.rv_sessions.specs.Doing.{Did}
use Rattle.rv_sessions.specs.Showing.{CameExplained}
use Rattle.rv_sessions.specs.Standing.{first_names, carried_by, Kept, KeptStand, meant}
use Rattle.rv_sessions.specs.Telling.{TellsRefusal}
use Rattle.rv_sessions.specs.Turning.{TookTurn}
use Rattle.rv_sessions.specs.Valuing.{outcome_told, IsRefusal}
use Rattle.rv_sessions.proofs.Acting.{through_one}
use Rattle.rv_sessions.proofs.Building.{by_one, once_one, Went, lacks, refuses, is_done}
use Rattle.rv_sessions.proofs.Looking.{wanted_agree}
use Rattle.rv_sessions.proofs.Telling.{as_told}

-- a refusal ahead of all computing, as an outcome
pub refused_ahead : (early : Option TypeFault) (steps : List Step) (r : REFUSED) (o : Outcome) → o ≡ outcome_told r → IsRefusedAhead early r →
    CameExplained early steps (Err o)
refused_ahead early steps (ILL_REFUSED fault) o e h = inl (fault, h, e)
refused_ahead early steps (SIZE_REFUSED at wanted limit) o e h = absurd h
refused_ahead early steps (TURNS_REFUSED at limit) o e h = absurd h
refused_ahead early steps Nodes o e h = absurd h
refused_ahead early steps NoMemory o e h = inr e

-- nothing but a refusal is told in its place
pub explained_not_done : (early : Option TypeFault) (steps : List Step) (o : Outcome) → CameExplained early steps (Err o) → o ≡ Done → ⊥
explained_not_done early steps o (inl h) e = absurd (let z : ILL h.0 ≡ Done = sym h.2 ∙ e in cc)
explained_not_done early steps o (inr h) e = absurd (let z : NO_MEMORY ≡ Done = sym h ∙ e in cc)

made_none : (a b : ℕ) → b ≡ a → b ≤ a + 0
made_none a b e = omega (arith, e)

module _ (leaf : ℕ) (input : Input) (script : Script) (s c : ℕ) (e : Expr) (old new : Worker) (before after : PASS) (snaps : Kept)
    (stood : KeptStand old snaps) where
  abbrev item : Item
  item = COMMAND (EXPLAIN e)

  due_explained : (state : Workspace) (kept : Option Workspace) → due input script item state kept ≡ due_of_steps e (early_fault script (lookup state) e)
  unfolding due due_of_command
  due_explained state kept = refl

  -- an EXPLAIN that took a turn went through that one alone: it read there, and made nothing
  went : (log : List Event) → TookTurn old new before after log (read_of s c ∷ []) →
      Went leaf input script s c item old new before after snaps (turn_of log (read_of s c) ∷ [])
  went log t = record {
    through = through_one t;
    own = (by_one refl refl, tt);
    begun = (read_of s c, [], refl);
    once = once_one log (read_of s c);
    stand = (record { first_stand = t.first_stand; log = t.stand; own = (tt, tt) }, tt);
    snaps_stood = stood;
    room = made_none old.made new.made t.stays.made;
    keeps = t.stays.keeps;
  }

  -- an EXPLAIN that could not read is out of memory, and put no event
  pub explain_unread : WasNotRead old new before after →
      Did leaf input script s c item old new before after snaps snaps NO_MEMORY (prefix s c ++ refusal_text NO_MEMORY) []
  explain_unread h =
      lacks {ts = []}
      (record { through = h.through; own = tt; begun = tt; once = tt; stand = tt; snaps_stood = stood; room = made_none old.made new.made h.stays.made; keeps = h.stays.keeps })
      tt (reads_of item, refl)

  module _ (log : List Event) (t : TookTurn old new before after log (read_of s c ∷ [])) (ws : List (List ℕ)) (names : Carried) (w : ws ≡ names_in e)
      (n : names ≡ picked (Some ws) (carried_by before log)) where
    -- the fault ahead of all computing is that of the state that was read
    same_early : early_fault script (state_of new names) e ≡ early_fault script (lookup (meant new (carried_by before log))) e
    same_early =
        by_names.early script (state_of new names) (lookup (meant new (carried_by before log))) e
        (subst (AgreeOn (state_of new names) (lookup (meant new (carried_by before log)))) w (wanted_agree new ws (first_names before) log names t.first_stand t.stand n))

    due_read : due input script item (meant new (carried_by before log)) None ≡ due_of_steps e (early_fault script (state_of new names) e)
    due_read = due_explained (meant new (carried_by before log)) None ∙ ap (due_of_steps e) (sym same_early)

    pub explain_done : (bytes : List ℕ) → CameExplained (early_fault script (state_of new names) e) (steps_of (tree_of e)) (Ok bytes) →
        Did leaf input script s c item old new before after snaps snaps Done (prefix s c ++ bytes) []
    explain_done bytes h =
        let dd : due input script item (meant new (carried_by before log)) None ≡ Explained (steps_of (tree_of e)) = due_read ∙ ap (due_of_steps e) h.0 in
        is_done (went log t) snaps (prefix s c ++ bytes) [] (ap outcome_due dd) refl tt
        (ap (λ b. prefix s c ++ b) h.1 ∙ sym (ap (done_text (prefix s c) item) dd)) (sym (ap (done_save item) dd)) refl tt

    pub explain_refused : (o : Outcome) (result : Result Told LACK) → CameExplained (early_fault script (state_of new names) e) (steps_of (tree_of e)) (Err o) →
        TellsRefusal s c o result → DidItem leaf input script s c item old new before after snaps snaps result
    explain_refused o (Err lack) h told = lacks (went log t) tt ([], refl)
    explain_refused o (Ok r) (inl h) told =
        let dd : due input script item (meant new (carried_by before log)) None ≡ Refused Early o = due_read ∙ ap (due_of_steps e) h.1 ∙ ap (Refused Early) (sym h.2) in
        as_told (Did leaf input script s c item old new before after snaps snaps) s c o r told
        (refuses (went log t) Early o dd (subst IsRefusal (sym h.2) tt) refl)
    explain_refused o (Ok r) (inr h) told = absurd (told.3 h)
