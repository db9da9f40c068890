-- What the commands that take a value do.
--
-- 1. A turn that was taken is one turn of the command's own.
-- 2. The names that it took agree with the workspace that its log means, so what the expression came to on them is what
--    it comes to there, also in a worker that kept all and went on.
-- 3. Then the item did what the value, or the refusal, wants.
use Rattle.std.proofs.Common.{◌≡◌, ◌∙◌, ◌≤◌, ◌+◌, inl, inr, arith, ℕ, List, [], ◌∷◌, ◌++◌, append-nil, Result, Ok, Err, Some, refl, sym, ap, subst}
use Rattle.rel_model.specs.declared.Rel.{Rel}
use Rattle.rel_model.specs.Relation.{Relation}
use Rattle.rel_model.specs.Worker.{Worker, set_of, Keeps, MakesAtMost, Rose}
use Rattle.rel_model.proofs.Workers.{keeps_trans, keeps_stands}
use Rattle.lang_model.specs.declared.syntax.Expr.{Expr}
use Rattle.lang_model.specs.declared.syntax.Item.{Item}
use Rattle.lang_model.specs.declared.syntax.Script.{Script}
use Rattle.lang_model.specs.Eval.{Evaluated, Ahead, Comes, AgreeOn, names_in, evaluated, cost_of_value}
use Rattle.lang_model.specs.Outcomes.{Answer, Got, Not}
use Rattle.lang_model.proofs.Seeing.{by_names}
use Rattle.run_model.specs.declared.event.Event.{Event}
use Rattle.run_model.specs.declared.outcome.Outcome.{Outcome}
use Rattle.run_model.specs.declared.outcome.Outcome.TheVariants.{Done, NoMemory as NO_MEMORY}
use Rattle.run_model.specs.Names.{lookup}
use Rattle.run_model.specs.Inputs.{Input}
use Rattle.run_model.specs.Due.{Due, Value, due_of_value, due_of_answer, outcome_due}
use Rattle.run_model.specs.Events.{reads_of}
use Rattle.run_model.specs.Outcomes.{IsNotEarly}
use Rattle.run_model.specs.Page.{SavedFile, done_text, done_save}
use Rattle.run_model.specs.Cost.{cost_of}
use Rattle.run_model.specs.Carried.{Carried, carried_from}
use Rattle.run_model.specs.Sessions.{HaveValues}
use Rattle.run_model.specs.Texts.{prefix, refusal_text}
use Rattle.turn_book.specs.Views.{View as PASS}
use Rattle.rv_eval.specs.Names.{state_of}
use Rattle.rv_workspace.specs.Books.{HistoryStands, AllNamesStand}
use Rattle.rv_workspace.specs.Entering.{read_of}
use Rattle.rv_workspace.specs.Picking.{picked}
use Rattle.rv_workspace.proofs.Replaying.{history_stands, all_names_stand}
use Rattle.rv_sessions.specs.declared.form.Form.{Form}
use Rattle.rv_sessions.specs.Standing.{first_names, first_versions, carried_by, Kept, KeptStand, meant}
use Rattle.rv_sessions.specs.Doing.{GoesThrough, Did, keep, due_on, snap_meant}
use Rattle.rv_sessions.specs.Turning.{TookTurn}
use Rattle.rv_sessions.specs.Valuing.{IsNotAhead, WasFull, Stopped, CameTo}
use Rattle.rv_sessions.specs.Showing.{CameShown, wanted_in}
use Rattle.rv_sessions.specs.Acting.{turn_of, WasNotRead, WasRead, WasShown, WasValued, on_log, IsReadItem, IsValueItem}
use Rattle.rv_sessions.proofs.FoldingKept.{meant_same, carried_stands}
use Rattle.rv_sessions.proofs.Looking.{wanted_agree}
use Rattle.run_model.specs.Legal.{CommitsItem}
use Rattle.run_model.specs.Turns.{change_taken}
use Rattle.rv_sessions.proofs.Building.{by_one, once_one, Went, lacks, full, refuses, is_done}

-- ---- 1
pub through_one : {old new : Worker} {before after : PASS} {log : List Event} {e : Event} → TookTurn old new before after log (e ∷ []) →
    GoesThrough (turn_of log e ∷ []) before after
through_one {log} {e} t = record {
  turns = (t.begins, ([], t.seen ∙ sym (append-nil (log ++ e ∷ []))));
  mine = t.mine;
  kept = t.kept;
}

-- a turn that put events
pub through_puts : {old new : Worker} {before after : PASS} {log puts : List Event} → TookTurn old new before after log puts →
    GoesThrough (record { took = log; put = puts } ∷ []) before after
through_puts {before = before} {log = log} {puts = puts} t = record {
  turns = (t.begins, ([], t.seen ∙ sym (append-nil (log ++ puts))));
  mine = t.mine ∙ ap (λ l. before.mine ++ l) (sym (append-nil puts));
  kept = t.kept;
}

pub through_nothing : {old new : Worker} {before after : PASS} {log : List Event} → TookTurn old new before after log [] → GoesThrough [] before after
through_nothing {before} {after} {log} t = record {
  turns = subst (λ l. (rest : List Event) × (l ≡ before.seen ++ rest)) (sym (t.seen ∙ append-nil log)) t.begins;
  mine = t.mine;
  kept = t.kept;
}

pub not_read : {old new : Worker} {before after : PASS} {log : List Event} → TookTurn old new before after log [] → WasNotRead old new before after
not_read t = record { through = through_nothing t; stays = t.stays }

pub was_read : {s c : ℕ} {old mid new : Worker} {before after : PASS} {log : List Event} → TookTurn old mid before after log (read_of s c ∷ []) →
    Keeps mid new → WasRead s c old new before after log
was_read {old} {mid} {new} {before} {log} t k = record {
  through = through_one t;
  stand = history_stands mid new (λ r s. keeps_stands mid new r k s) log t.stand;
  first_stand = all_names_stand mid new (λ r s. keeps_stands mid new r k s) (first_names before) t.first_stand;
  keeps = keeps_trans old mid new t.stays.keeps k;
}

-- ---- 2
-- a full table was missed from before the turn on
full_before : {old mid new : Worker} {e : Expr} {v : Evaluated} → mid.misses ≡ old.misses → WasFull mid new e v → WasFull old new e v
full_before {new} m f = record { compound = f.compound; not_ahead = f.not_ahead; rose = subst (λ n. Rose n new.misses) m f.rose }

pub stopped_before : (old mid new : Worker) (e : Expr) (turns : ℕ) (v : Evaluated) (then : Relation → Due) (o : Outcome) →
    mid.misses ≡ old.misses → Stopped mid new e turns v then o → Stopped old new e turns v then o
stopped_before old mid new e turns v then o m (inl h) = inl h
stopped_before old mid new e turns v then o m (inr (inl h)) = inr (inl (h.0, full_before m h.1))
stopped_before old mid new e turns v then o m (inr (inr h)) = inr (inr h)

shown_before : (form : Form) (old mid new : Worker) (e : Expr) (turns : ℕ) (v : Evaluated) (r : Result (List ℕ) Outcome) →
    mid.misses ≡ old.misses → CameShown form mid new e turns v r → CameShown form old new e turns v r
shown_before form old mid new e turns v (Ok bytes) m h = h
shown_before form old mid new e turns v (Err o) m h = stopped_before old mid new e turns v (wanted_in form) o m h

-- what an expression came to on names is what it comes to on the log, where both agree on the names that it uses
pub on_names : (input : Input) (script : Script) (e : Expr) (mid new : Worker) (first : Carried) (log : List Event) (turns : ℕ) (names : Carried) →
    AllNamesStand mid first → HistoryStands mid log → Keeps mid new → AgreeOn (state_of mid names) (lookup (meant mid (carried_from first log))) (names_in e) →
    input.turns ≡ turns → evaluated script (state_of mid names) e turns ≡ on_log input script e new first log
on_names input script e mid new first log turns names f h k a i =
    by_names.value script (state_of mid names) (lookup (meant mid (carried_from first log))) e turns a
    ∙ ap (λ m. evaluated script (lookup m) e turns) (meant_same mid new k (carried_from first log) (carried_stands mid first log f h))
    ∙ ap (λ t. evaluated script (lookup (meant new (carried_from first log))) e t) (sym i)

-- a value that came of the names that a turn took, in the form that is asked for, is the one of the log that was read,
-- since the names agree with it on all that the expression uses
pub was_shown : (leaf : ℕ) (form : Form) (input : Input) (script : Script) (s c : ℕ) (e : Expr) (old mid new : Worker) (before after : PASS)
    (log : List Event) (turns : ℕ) (ws : List (List ℕ)) (names : Carried) (result : Result (List ℕ) Outcome) →
    TookTurn old mid before after log (read_of s c ∷ []) → ws ≡ names_in e → names ≡ picked (Some ws) (carried_by before log) → Keeps mid new →
    CameShown form mid new e turns (evaluated script (state_of mid names) e turns) result →
    MakesAtMost (cost_of_value leaf (evaluated script (state_of mid names) e turns)) mid new → input.turns ≡ turns →
    WasShown leaf form input script s c e old new before after log result
was_shown leaf form input script s c e old mid new before after log turns ws names result t w n k came room i =
    let a : AgreeOn (state_of mid names) (lookup (meant mid (carried_by before log))) (names_in e) =
    subst (AgreeOn (state_of mid names) (lookup (meant mid (carried_by before log)))) w (wanted_agree mid ws (first_names before) log names t.first_stand t.stand n) in
    let v : evaluated script (state_of mid names) e turns ≡ on_log input script e new (first_names before) log =
    on_names input script e mid new (first_names before) log turns names t.first_stand t.stand k a i in
    record {
      read = was_read t k;
      came = shown_before form old mid new e input.turns (on_log input script e new (first_names before) log) result t.stays.misses
          (subst (λ u. CameShown form mid new e u (on_log input script e new (first_names before) log) result) (sym i)
          (subst (λ u. CameShown form mid new e turns u result) v came));
      room = subst (λ m. new.made ≤ m + cost_of leaf input script e (meant new (carried_by before log))) t.stays.made
          (subst (λ u. new.made ≤ mid.made + cost_of_value leaf u) v room);
    }

came_before : (old mid new : Worker) (e : Expr) (turns : ℕ) (v : Evaluated) (r : Result Rel Outcome) →
    mid.misses ≡ old.misses → CameTo mid new e turns v r → CameTo old new e turns v r
came_before old mid new e turns v (Ok rel) m h = h
came_before old mid new e turns v (Err o) m h = λ then. stopped_before old mid new e turns v then o m (h then)

-- the same of a value that stays in the worker
pub was_valued : (leaf : ℕ) (input : Input) (script : Script) (s c : ℕ) (e : Expr) (old mid new : Worker) (before after : PASS)
    (log : List Event) (turns : ℕ) (ws : List (List ℕ)) (names : Carried) (result : Result Rel Outcome) →
    TookTurn old mid before after log (read_of s c ∷ []) → ws ≡ names_in e → names ≡ picked (Some ws) (carried_by before log) → Keeps mid new →
    CameTo mid new e turns (evaluated script (state_of mid names) e turns) result →
    MakesAtMost (cost_of_value leaf (evaluated script (state_of mid names) e turns)) mid new → input.turns ≡ turns →
    WasValued leaf input script s c e old new before after log result
was_valued leaf input script s c e old mid new before after log turns ws names result t w n k came room i =
    let a : AgreeOn (state_of mid names) (lookup (meant mid (carried_by before log))) (names_in e) =
    subst (AgreeOn (state_of mid names) (lookup (meant mid (carried_by before log)))) w (wanted_agree mid ws (first_names before) log names t.first_stand t.stand n) in
    let v : evaluated script (state_of mid names) e turns ≡ on_log input script e new (first_names before) log =
    on_names input script e mid new (first_names before) log turns names t.first_stand t.stand k a i in
    record {
      read = was_read t k;
      came = came_before old mid new e input.turns (on_log input script e new (first_names before) log) result t.stays.misses
          (subst (λ u. CameTo mid new e u (on_log input script e new (first_names before) log) result) (sym i)
          (subst (λ u. CameTo mid new e turns u result) v came));
      room = subst (λ m. new.made ≤ m + cost_of leaf input script e (meant new (carried_by before log))) t.stays.made
          (subst (λ u. new.made ≤ mid.made + cost_of_value leaf u) v room);
    }

-- ---- 3
late_answer : (then : Relation → Due) (turns : ℕ) (a : Answer Relation) → ((r : Relation) → IsNotEarly (then r)) →
    IsNotEarly (due_of_answer then turns a)
late_answer then turns (Got r left) h = h r
late_answer then turns (Not why) h = tt

pub late_value : (then : Relation → Due) (turns : ℕ) (v : Evaluated) → IsNotAhead v → ((r : Relation) → IsNotEarly (then r)) →
    IsNotEarly (due_of_value then turns v)
late_value then turns (Ahead fault) n h = absurd n
late_value then turns (Comes came) n h = late_answer then turns came.answer h

nothing_made : (a b x : ℕ) → b ≡ a → b ≤ a + x
nothing_made a b x e = omega (arith, e)

module _ (leaf : ℕ) (input : Input) (script : Script) (s c : ℕ) (item : Item) (e : Expr) (then : Relation → Due)
    (old new : Worker) (before after : PASS) (snaps : Kept) (v : IsReadItem item e then) (stood : KeptStand old snaps) where
  -- memory ran out before anything was read
  pub unread_did : WasNotRead old new before after →
      Did leaf input script s c item old new before after snaps snaps NO_MEMORY (prefix s c ++ refusal_text NO_MEMORY) []
  unread_did n = lacks {ts = []}
      (record {
        through = n.through;
        own = tt;
        begun = tt;
        once = tt;
        stand = tt;
        snaps_stood = stood;
        room = nothing_made old.made new.made _ n.stays.made;
        keeps = n.stays.keeps;
      }) v.memory (reads_of item, refl)

  module _ (log : List Event) (read : WasRead s c old new before after log)
      (room : MakesAtMost (cost_of leaf input script e (meant new (carried_by before log))) old new) where
    pub went : Went leaf input script s c item old new before after snaps (turn_of log (read_of s c) ∷ [])
    went = record {
      through = read.through;
      own = (by_one refl refl, tt);
      begun = (read_of s c, [], refl);
      once = once_one log (read_of s c);
      stand = (record { first_stand = read.first_stand; log = read.stand; own = (tt, tt) }, tt);
      snaps_stood = stood;
      room = subst (λ n. MakesAtMost n old new) (sym (v.cost_is leaf input script _ _ _)) room;
      keeps = read.keeps;
    }

    pub value_due : due_on input script item new snaps (first_names before) (turn_of log (read_of s c) ∷ []) ≡ due_of_value then input.turns (on_log input script e new (first_names before) log)
    value_due = v.due_is input script (meant new (carried_by before log)) (snap_meant new item snaps)

    -- it is refused, or the table was full
    pub stopped_did : (o : Outcome) → (o ≡ NO_MEMORY → ⊥) → Stopped old new e input.turns (on_log input script e new (first_names before) log) then o →
        Did leaf input script s c item old new before after snaps snaps o (prefix s c ++ refusal_text o) []
    stopped_did o n (inl h) = refuses went h.0 o (value_due ∙ h.1) h.2 (sym v.reads)
    stopped_did o n (inr (inl h)) =
        let d : Due = due_on input script item new snaps (first_names before) (turn_of log (read_of s c) ∷ []) in
        let late : IsNotEarly d =
        subst IsNotEarly (sym value_due) (late_value then input.turns (on_log input script e new (first_names before) log) h.1.not_ahead v.late) in
        subst (λ x. Did leaf input script s c item old new before after snaps snaps x (prefix s c ++ refusal_text x) []) (sym h.0)
        (full went (v.nodes d h.1.compound late) h.1.rose (sym v.reads))
    stopped_did o n (inr (inr h)) = absurd (n h)

    -- memory ran out
    pub lack_did : Did leaf input script s c item old new before after snaps snaps NO_MEMORY (prefix s c ++ refusal_text NO_MEMORY) []
    lack_did = lacks went v.memory ([], v.reads)

    -- the value is due, and is shown or saved
    pub shown_did : (text : List ℕ → Relation → List ℕ) (files : Relation → List SavedFile) → IsValueItem item e then text files → (r : Relation) →
        due_of_value then input.turns (on_log input script e new (first_names before) log) ≡ Value r →
        Did leaf input script s c item old new before after snaps snaps Done (text (prefix s c) r) (files r)
    shown_did text files u r h =
        let d : Due = due_on input script item new snaps (first_names before) (turn_of log (read_of s c) ∷ []) in
        let dd : d ≡ Value r = value_due ∙ h in
        is_done went snaps (text (prefix s c) r) (files r) (ap outcome_due dd) (sym (u.done d))
        (subst (HaveValues (set_of new) []) (sym (u.none_given d)) tt)
        (sym (ap (done_text (prefix s c) item) dd ∙ u.shows (prefix s c) r))
        (sym (ap (done_save item) dd ∙ u.saves r))
        (sym (ap (λ o. keep o (carried_by before log) snaps) u.no_snapped))
        (subst (λ l. CommitsItem (change_taken (first_versions before) (turn_of log (read_of s c) ∷ []) c) l Done) (sym u.no_block) tt)
