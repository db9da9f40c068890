-- What the commands do that give a name a relation.
--
-- 1. LET: the value that came of the log that was read is the value that the name gets, in the worker that learnt more in
--    the turn of the assignment.
-- 2. A command that reads nothing, and gives a name the relation that is due: REL and LOAD.
use Rattle.std.proofs.Common.{◌≡◌, ◌≢◌, ◌∙◌, ◌≤◌, ◌+◌, inl, inr, arith, ℕ, List, [], ◌∷◌, ◌++◌, Result, Ok, Err, Some, None, Option, refl, sym, ap, subst}
use Rattle.rel_model.specs.declared.NoMemory.{NoMemory as LACK}
use Rattle.rel_model.specs.declared.Lack.{Lack as LACK_OF}
use Rattle.rel_model.specs.declared.Lack.TheVariants.{Full as FULL}
use Rattle.rel_model.specs.declared.Rel.{Rel}
use Rattle.std.specs.Prelude.{IsErrOf, false}
use Rattle.rel_model.specs.Relation.{Relation, relation_of}
use Rattle.rel_model.proofs.Relations.{rows-relation_of, cols-relation_of}
use Rattle.rel_model.specs.Worker.{Worker, Stands, set_of, Gives as GIVES_REL, Keeps, MakesAtMost, Rose, HasCause}
use Rattle.rel_model.proofs.Workers.{keeps_itself, keeps_trans, keeps_stands, keeps_set, gives_stands, gives_set}
use Rattle.lang_model.specs.declared.syntax.Expr.{Expr}
use Rattle.lang_model.specs.declared.syntax.Item.{Item}
use Rattle.lang_model.specs.declared.syntax.Item.TheVariants.{Command as COMMAND}
use Rattle.lang_model.specs.declared.syntax.Command.TheVariants.{Let as LET, Relation as RELATION}
use Rattle.lang_model.specs.declared.syntax.Place.{Place}
use Rattle.lang_model.specs.declared.rows.Row.{Row}
use Rattle.lang_model.specs.State.{lists}
use Rattle.std.specs.declared.vec.Vec.{Vec}
use Rattle.std.specs.declared.alloc.Global.{Global}
use Rattle.lang_model.specs.declared.syntax.Script.{Script}
use Rattle.lang_model.specs.Eval.{evaluated}
use Rattle.run_model.specs.declared.event.Event.{Event}
use Rattle.run_model.specs.declared.outcome.Outcome.{Outcome}
use Rattle.run_model.specs.declared.outcome.Outcome.TheVariants.{Done, Nodes as NODES, NoMemory as NO_MEMORY}
use Rattle.run_model.specs.Names.{lookup}
use Rattle.run_model.specs.Inputs.{Input}
use Rattle.run_model.specs.Due.{Workspace, When, Early, Due, Value, Refused, due, due_of_command, unless_over, listing_over, due_of_value, outcome_due, gives}
use Rattle.run_model.specs.Steps.{snapped}
use Rattle.run_model.specs.Outcomes.{MayLackNodes, MayLackMemory, IsNotEarly, lets_of}
use Rattle.run_model.specs.Events.{Reads, Gives, giving, first_of, reads_of, done_deeds}
use Rattle.run_model.specs.Page.{shown, saved_of, done_text, done_save}
use Rattle.run_model.specs.Cost.{cost_of, cost_of_item, listed_count, listed_cost}
use Rattle.run_model.specs.Carried.{Carried, carried_from}
use Rattle.run_model.specs.Sessions.{HaveValues}
use Rattle.run_model.specs.Texts.{prefix, refusal_text}
use Rattle.run_model.specs.Legal.{CommitsItem}
use Rattle.run_model.specs.Turns.{Turn, change_taken}
use Rattle.turn_book.specs.Views.{View as PASS}
use Rattle.rv_workspace.specs.Books.{HistoryStands, AllNamesStand}
use Rattle.rv_workspace.specs.Entering.{read_of, assign_of}
use Rattle.rv_workspace.proofs.Replaying.{all_names_stand, history_stands}
use Rattle.rv_sessions.specs.declared.told.Told.{Told}
use Rattle.rv_sessions.specs.Standing.{first_names, first_versions, carried_by, Kept, KeptStand, meant}
use Rattle.rv_sessions.specs.Doing.{GoesThrough, Did, keep, due_on, state_of_turns, snap_meant}
use Rattle.rv_sessions.specs.Valuing.{IsRefusal}
use Rattle.rv_sessions.specs.Telling.{text_of, saved_by, TellsRefusal}
use Rattle.rv_sessions.specs.Turning.{TookTurn}
use Rattle.rv_sessions.specs.Acting.{turn_of, WasRead, WasValued, ValuedInTurn, DidItem, on_log}
use Rattle.rv_sessions.proofs.FoldingKept.{meant_same, carried_stands}
use Rattle.rv_sessions.proofs.FoldingTurns.{through_none, through_append}
use Rattle.rv_sessions.proofs.Overs.{over_refuses}
use Rattle.rv_sessions.proofs.Building.{by_one, once_one, once_read, Went, lacks, full, refuses, is_done}
use Rattle.rv_sessions.proofs.Acting.{through_one, through_nothing, lack_did}
use Rattle.rv_sessions.proofs.Items.{let_item}
use Rattle.rv_sessions.proofs.Telling.{stopped_not_done, told_did}

no_value : (rel : Rel) → ◌≡◌ {A = Result Rel Outcome} (Ok rel) (Err NO_MEMORY) → ⊥
no_value rel e = cc

same_outcome : (x y : Outcome) → ◌≡◌ {A = Result Rel Outcome} (Err x) (Err y) → x ≡ y
same_outcome x y e = cc

lack_is_not_done : NO_MEMORY ≡ Done → ⊥
lack_is_not_done e = cc

-- ---- 1
-- what an expression came to is what it comes to in a worker that kept all and went on
value_later : (input : Input) (script : Script) (e : Expr) (mid new : Worker) (first : Carried) (log : List Event) (rel : Rel) → AllNamesStand mid first → HistoryStands mid log →
    Keeps mid new → Stands mid rel → due_of_value Value input.turns (on_log input script e mid first log) ≡ Value (set_of mid rel) →
    due_of_value Value input.turns (on_log input script e new first log) ≡ Value (set_of new rel)
value_later input script e mid new first log rel f h k st v =
    ap (λ m. due_of_value Value input.turns (evaluated script (lookup m) e input.turns)) (sym (meant_same mid new k (carried_from first log) (carried_stands mid first log f h)))
    ∙ v ∙ ap Value (sym (keeps_set mid new rel k st))

-- a read, after which the pass went through nothing more, and the worker kept all
read_on : (s c : ℕ) (old mid new : Worker) (before between after : PASS) (log : List Event) → WasRead s c old mid before between log →
    GoesThrough [] between after → Keeps mid new → WasRead s c old new before after log
read_on s c old mid new before between after log r g k = record {
  through = through_append (turn_of log (read_of s c) ∷ []) [] before between after r.through g;
  stand = history_stands mid new (λ x h. keeps_stands mid new x k h) log r.stand;
  first_stand = all_names_stand mid new (λ x h. keeps_stands mid new x k h) (first_names before) r.first_stand;
  keeps = keeps_trans old mid new r.keeps k;
}

module _ (leaf : ℕ) (input : Input) (script : Script) (s c : ℕ) (name : List ℕ) (e : Expr) (old mid new : Worker) (before between after : PASS)
    (snaps : Kept) (log : List Event) (rel : Rel) (stood : KeptStand old snaps)
    (value : WasValued leaf input script s c e old mid before between log (Ok rel)) where
  -- no more was made in the turn of the assignment
  room_later : (puts : List Event) (taken : List Event) → TookTurn mid new between after taken puts →
      MakesAtMost (cost_of leaf input script e (meant new (carried_by before log))) old new
  room_later puts taken t =
      let k : Keeps mid new = t.stays.keeps in
      subst (λ m. m ≤ old.made + cost_of leaf input script e (meant new (carried_by before log))) (sym t.stays.made)
      (subst (λ m. mid.made ≤ old.made + cost_of leaf input script e m) (meant_same mid new k (carried_by before log) (carried_stands mid (first_names before) log value.read.first_stand value.read.stand)) value.room)

  -- the name got the value
  pub let_done : (taken : List Event) → TookTurn mid new between after taken (assign_of s c (name, rel) ∷ []) →
      (set_of new rel).rows ≡ rel.rows → (set_of new rel).cols ≡ rel.cols →
      Did leaf input script s c (COMMAND (LET name e)) old new before after snaps snaps Done [] []
  let_done taken t rows cols =
      let k : Keeps mid new = t.stays.keeps in
      let first_all : AllNamesStand new (first_names before) =
      all_names_stand mid new (λ x h. keeps_stands mid new x k h) (first_names before) value.read.first_stand in
      let ts : List Turn = turn_of log (read_of s c) ∷ turn_of taken (assign_of s c (name, rel)) ∷ [] in
      let w : Went leaf input script s c (COMMAND (LET name e)) old new before after snaps ts = record {
        through = through_append (turn_of log (read_of s c) ∷ []) (turn_of taken (assign_of s c (name, rel)) ∷ []) before between after
            value.read.through (through_one t);
        own = (by_one refl refl, (by_one refl refl, tt));
        begun = (read_of s c, [], refl);
        once = once_read log taken s c (assign_of s c (name, rel));
        stand = (
          record { first_stand = first_all; log = history_stands mid new (λ x h. keeps_stands mid new x k h) log value.read.stand; own = (tt, tt) },
          (record { first_stand = first_all; log = t.stand; own = ((keeps_stands mid new rel k value.came.0, tt), tt) }, tt),
        );
        snaps_stood = stood;
        room = room_later (assign_of s c (name, rel) ∷ []) taken t;
        keeps = keeps_trans old mid new value.read.keeps k;
      } in
      let d : Due = due_on input script (COMMAND (LET name e)) new snaps (first_names before) ts in
      let dd : d ≡ Value (set_of new rel) =
      (let_item name e).due_is input script (meant new (carried_by before log)) None
      ∙ value_later input script e mid new (first_names before) log rel value.read.first_stand value.read.stand k value.came.0 (value.came.1 Value) in
      is_done w snaps [] [] (ap outcome_due dd)
      (ap (λ m. Reads ∷ Gives name m rel.cols ∷ []) (sym rows) ∙ ap (λ n. Reads ∷ Gives name (set_of new rel).rows n ∷ []) (sym cols)
      ∙ sym (ap (done_deeds (COMMAND (LET name e))) dd))
      (subst (λ x. HaveValues (set_of new) (rel ∷ []) (gives (COMMAND (LET name e)) x)) (sym dd) (refl, tt))
      (sym (ap (done_text (prefix s c) (COMMAND (LET name e))) dd)) (sym (ap (done_save (COMMAND (LET name e))) dd)) refl tt

  -- memory ran out for the assignment
  pub let_lacks : (taken : List Event) → TookTurn mid new between after taken [] →
      Did leaf input script s c (COMMAND (LET name e)) old new before after snaps snaps NO_MEMORY (prefix s c ++ refusal_text NO_MEMORY) []
  let_lacks taken t =
      lack_did leaf input script s c (COMMAND (LET name e)) e Value old new before after snaps (let_item name e) stood log
      (read_on s c old mid new before between after log value.read (through_nothing t) t.stays.keeps) (room_later [] taken t)

module _ (leaf : ℕ) (input : Input) (script : Script) (s c : ℕ) (name : List ℕ) (e : Expr) (old mid new : Worker) (before between after : PASS)
    (snaps : Kept) (rel : Rel) (stood : KeptStand old snaps) where
  pub let_ok : ValuedInTurn leaf input script s c e old mid before between (Ok rel) → (own : List ℕ) → own ≡ name →
      ((taken : List Event) × TookTurn mid new between after taken (assign_of s c (own, rel) ∷ [])) →
      (set_of new rel).rows ≡ rel.rows → (set_of new rel).cols ≡ rel.cols →
      Did leaf input script s c (COMMAND (LET name e)) old new before after snaps snaps Done [] []
  let_ok (inl h) own n t rows cols = absurd (no_value rel h.1)
  let_ok (inr h) own n t rows cols =
      let_done leaf input script s c name e old mid new before between after snaps h.0 rel stood h.1 t.0
      (subst (λ m. TookTurn mid new between after t.0 (assign_of s c (m, rel) ∷ [])) n t.1) rows cols

  pub let_err : ValuedInTurn leaf input script s c e old mid before between (Ok rel) →
      ((taken : List Event) × TookTurn mid new between after taken []) →
      Did leaf input script s c (COMMAND (LET name e)) old new before after snaps snaps NO_MEMORY (prefix s c ++ refusal_text NO_MEMORY) []
  let_err (inl h) t = absurd (no_value rel h.1)
  let_err (inr h) t = let_lacks leaf input script s c name e old mid new before between after snaps h.0 rel stood h.1 t.0 t.1

-- a value that is refused
pub value_not_done : (leaf : ℕ) (input : Input) (script : Script) (s c : ℕ) (e : Expr) (old new : Worker) (before after : PASS) (o : Outcome) →
    ValuedInTurn leaf input script s c e old new before after (Err o) → o ≢ Done
value_not_done leaf input script s c e old new before after o (inl h) d = lack_is_not_done (sym (same_outcome o NO_MEMORY h.1) ∙ d)
value_not_done leaf input script s c e old new before after o (inr h) d =
    stopped_not_done old new e input.turns (on_log input script e new (first_names before) h.0) Value o (h.1.came Value) d

-- a LET whose value is refused did what is due: memory ran out ahead of its read, or it read, and is told why there is
-- no value
pub let_refused : (leaf : ℕ) (input : Input) (script : Script) (s c : ℕ) (name : List ℕ) (e : Expr) (old new : Worker) (before after : PASS)
    (snaps : Kept) → KeptStand old snaps → (o : Outcome) (result : Result Told LACK) →
    ValuedInTurn leaf input script s c e old new before after (Err o) → TellsRefusal s c o result →
    DidItem leaf input script s c (COMMAND (LET name e)) old new before after snaps snaps result
let_refused leaf input script s c name e old new before after snaps stood o result (inl h) t =
    told_did leaf input script s c (COMMAND (LET name e)) e Value old new before after snaps (let_item name e) stood o result (inl (h.0, same_outcome o NO_MEMORY h.1)) t
let_refused leaf input script s c name e old new before after snaps stood o result (inr h) t =
    told_did leaf input script s c (COMMAND (LET name e)) e Value old new before after snaps (let_item name e) stood o result
    (inr (h.0, h.1.read, h.1.came Value, h.1.room)) t

-- ---- 2
-- an item that reads nothing
pub record ReadsNothing (item : Item) : Type 0 where
  pub reads : reads_of item ≡ []
  pub memory : MayLackMemory item
  pub no_snapped : snapped item ≡ None
  -- and is no block
  pub no_block : lets_of item ≡ None

module _ (leaf : ℕ) (input : Input) (script : Script) (s c : ℕ) (item : Item) (old new : Worker) (before after : PASS) (snaps : Kept)
    (stood : KeptStand old snaps) (k : Keeps old new) (n : ReadsNothing item) where
  module _ (g : GoesThrough [] before after)
      (room : MakesAtMost (cost_of_item leaf input script item (state_of_turns new (first_names before) []) (snap_meant new item snaps)
      (due_on input script item new snaps (first_names before) [])) old new) where
    went_nowhere : Went leaf input script s c item old new before after snaps []
    went_nowhere = record { through = g; own = tt; begun = tt; once = tt; stand = tt; snaps_stood = stood; room = room; keeps = k }

    pub unread_lacks : Did leaf input script s c item old new before after snaps snaps NO_MEMORY (prefix s c ++ refusal_text NO_MEMORY) []
    unread_lacks = lacks went_nowhere n.memory (reads_of item, refl)

    pub unread_full : MayLackNodes item (due_on input script item new snaps (first_names before) []) → Rose old.misses new.misses →
        Did leaf input script s c item old new before after snaps snaps NODES (prefix s c ++ refusal_text NODES) []
    unread_full m r = full went_nowhere m r (sym n.reads)

    pub unread_refuses : (when : When) (o : Outcome) → due_on input script item new snaps (first_names before) [] ≡ Refused when o → IsRefusal o →
        Did leaf input script s c item old new before after snaps snaps o (prefix s c ++ refusal_text o) []
    unread_refuses when o d r = refuses went_nowhere when o d r (sym n.reads)

  -- the name got the relation that is due
  pub unread_gives : (name : List ℕ) (rel : Rel) (r : Relation) (log : List Event) →
      GoesThrough (turn_of log (assign_of s c (name, rel)) ∷ []) before after → HistoryStands new log → AllNamesStand new (first_names before) → Stands new rel → set_of new rel ≡ r →
      r.rows ≡ rel.rows → r.cols ≡ rel.cols →
      due_on input script item new snaps (first_names before) (turn_of log (assign_of s c (name, rel)) ∷ []) ≡ Value r →
      first_of item ≡ [] → gives item (Value r) ≡ (name, r) ∷ [] → ((numbers : List ℕ) → shown numbers item r ≡ []) → saved_of item r ≡ [] →
      MakesAtMost (cost_of_item leaf input script item (meant new (carried_by before log)) (snap_meant new item snaps) (Value r)) old new →
      Did leaf input script s c item old new before after snaps snaps Done [] []
  unread_gives name rel r log g h f st v rows cols dd first given text saved room =
      let ts : List Turn = turn_of log (assign_of s c (name, rel)) ∷ [] in
      let w : Went leaf input script s c item old new before after snaps ts = record {
        through = g;
        own = (by_one refl refl, tt);
        begun = (assign_of s c (name, rel), [], refl);
        once = once_one log (assign_of s c (name, rel));
        stand = (record { first_stand = f; log = h; own = ((st, tt), tt) }, tt);
        snaps_stood = stood;
        room = subst (λ d. MakesAtMost (cost_of_item leaf input script item (meant new (carried_by before log)) (snap_meant new item snaps) d) old new) (sym dd) room;
        keeps = k;
      } in
      is_done w snaps [] [] (ap outcome_due dd)
      (ap (λ m. Gives name m rel.cols ∷ []) (sym rows) ∙ ap (λ m. Gives name r.rows m ∷ []) (sym cols)
      ∙ ap (λ gs. giving gs) (sym given) ∙ ap (λ ds. ds ++ giving (gives item (Value r))) (sym first) ∙ sym (ap (done_deeds item) dd))
      (subst (HaveValues (set_of new) (rel ∷ [])) (sym (ap (gives item) dd ∙ given)) (v, tt))
      (sym (ap (done_text (prefix s c) item) dd ∙ text (prefix s c))) (sym (ap (done_save item) dd ∙ saved))
      (sym (ap (λ o. keep o (carried_by before log) snaps) n.no_snapped))
      (subst (λ l. CommitsItem (change_taken (first_versions before) ts c) l Done) (sym n.no_block) tt)

-- a value that came stands
pub value_stands : (leaf : ℕ) (input : Input) (script : Script) (s c : ℕ) (e : Expr) (old new : Worker) (before after : PASS) (rel : Rel) →
    ValuedInTurn leaf input script s c e old new before after (Ok rel) → Stands new rel
value_stands leaf input script s c e old new before after rel (inl h) = absurd (no_value rel h.1)
value_stands leaf input script s c e old new before after rel (inr h) = h.1.came.0

-- ---- 3
-- a relation is listed
module _ (leaf : ℕ) (input : Input) (script : Script) (s c : ℕ) (name : List ℕ) (rows : ℕ) (rows_at : Place) (cols : ℕ) (cols_at : Place)
    (list : Vec Row Global) (old : Worker) (before : PASS) (snaps : Kept) (stood : KeptStand old snaps) where
  abbrev item : Item
  item = COMMAND (RELATION name rows rows_at cols cols_at list)

  abbrev value : Relation
  value = relation_of rows cols (lists list.items)

  reads_nothing : ReadsNothing item
  reads_nothing = record { reads = refl; memory = tt; no_snapped = refl; no_block = refl }

  due_listed : (state : Workspace) (snap : Option Workspace) → due input script item state snap ≡ unless_over (listing_over rows rows_at cols cols_at list.items) value
  unfolding due due_of_command
  due_listed state snap = refl

  no_room : (new : Worker) (x : ℕ) → new.made ≡ old.made → new.made ≤ old.made + x
  no_room new x e = omega (arith, e)

  -- a number passes its limit
  pub list_refused : (o : Outcome) (result : Result Told LACK) → listing_over rows rows_at cols cols_at list.items ≡ Some o → TellsRefusal s c o result →
      DidItem leaf input script s c item old old before before snaps snaps result
  list_refused o (Err lack) e t = unread_lacks leaf input script s c item old old before before snaps stood (keeps_itself old) reads_nothing (through_none before) (no_room old _ refl)
  list_refused o (Ok told) e t =
      subst (λ x. Did leaf input script s c item old old before before snaps snaps x (text_of told.reply) (saved_by told.save)) (sym t.0)
      (subst (λ x. Did leaf input script s c item old old before before snaps snaps o x (saved_by told.save)) (sym t.1)
      (subst (λ x. Did leaf input script s c item old old before before snaps snaps o (prefix s c ++ refusal_text o) (saved_by x)) (sym t.2)
      (unread_refuses leaf input script s c item old old before before snaps stood (keeps_itself old) reads_nothing (through_none before) (no_room old _ refl)
      Early o (due_listed _ _ ∙ ap (λ x. unless_over x value) e) (over_refuses rows rows_at cols cols_at list.items o e))))

  -- memory ran out before anything was made
  pub list_lacks : Did leaf input script s c item old old before before snaps snaps NO_MEMORY (prefix s c ++ refusal_text NO_MEMORY) []
  list_lacks = unread_lacks leaf input script s c item old old before before snaps stood (keeps_itself old) reads_nothing (through_none before) (no_room old _ refl)

  module _ (mid : Worker) (none : listing_over rows rows_at cols cols_at list.items ≡ None) (k : Keeps old mid)
      (room : MakesAtMost (listed_cost leaf (listed_count list.items) rows cols) old mid) where
    due_value : (state : Workspace) (snap : Option Workspace) → due input script item state snap ≡ Value value
    due_value state snap = due_listed state snap ∙ ap (λ x. unless_over x value) none

    room_at : (new : Worker) (state : Workspace) (snap : Option Workspace) (d : Due) → d ≡ Value value → new.made ≡ mid.made →
        MakesAtMost (cost_of_item leaf input script item state snap d) old new
    room_at new state snap d e m =
        subst (λ x. MakesAtMost (cost_of_item leaf input script item state snap x) old new) (sym e)
        (subst (λ x. new.made ≤ old.made + listed_cost leaf (listed_count list.items) x value.cols) (sym (rows-relation_of rows cols (lists list.items)))
        (subst (λ x. new.made ≤ old.made + listed_cost leaf (listed_count list.items) rows x) (sym (cols-relation_of rows cols (lists list.items)))
        (subst (λ x. x ≤ old.made + listed_cost leaf (listed_count list.items) rows cols) (sym m) room)))

    -- the table was full, or memory ran out
    pub list_full : Rose old.misses mid.misses →
        Did leaf input script s c item old mid before before snaps snaps NODES (prefix s c ++ refusal_text NODES) []
    list_full r =
        unread_full leaf input script s c item old mid before before snaps stood k reads_nothing (through_none before)
        (room_at mid (state_of_turns mid (first_names before) []) (snap_meant mid item snaps) _ (due_value (state_of_turns mid (first_names before) []) (snap_meant mid item snaps)) refl)
        (tt, subst IsNotEarly (sym (due_value (state_of_turns mid (first_names before) []) (snap_meant mid item snaps))) tt) r

    pub made_lacks : (new : Worker) (after : PASS) → GoesThrough [] before after → Keeps mid new → new.made ≡ mid.made →
        Did leaf input script s c item old new before after snaps snaps NO_MEMORY (prefix s c ++ refusal_text NO_MEMORY) []
    made_lacks new after g l m =
        unread_lacks leaf input script s c item old new before after snaps stood (keeps_trans old mid new k l) reads_nothing g
        (room_at new (state_of_turns new (first_names before) []) (snap_meant new item snaps) _ (due_value (state_of_turns new (first_names before) []) (snap_meant new item snaps)) m)

    -- the name got the listed relation
    pub list_given : (new : Worker) (after : PASS) (rel : Rel) (own : List ℕ) → own ≡ name → GIVES_REL mid rows cols value rel →
        ((log : List Event) × TookTurn mid new before after log (assign_of s c (own, rel) ∷ [])) →
        Did leaf input script s c item old new before after snaps snaps Done [] []
    list_given new after rel own n v t =
        let t1 : TookTurn mid new before after t.0 (assign_of s c (name, rel) ∷ []) =
        subst (λ m. TookTurn mid new before after t.0 (assign_of s c (m, rel) ∷ [])) n t.1 in
        let l : Keeps mid new = t1.stays.keeps in
        let st : Stands mid rel = gives_stands mid rows cols value rel v in
        unread_gives leaf input script s c item old new before after snaps stood (keeps_trans old mid new k l) reads_nothing name rel value t.0
        (through_one t1) t1.stand t1.first_stand (keeps_stands mid new rel l st) (keeps_set mid new rel l st ∙ gives_set mid rows cols value rel v)
        (rows-relation_of rows cols (lists list.items) ∙ sym v.row_size) (cols-relation_of rows cols (lists list.items) ∙ sym v.col_size)
        (due_value (meant new (carried_by before t.0)) (snap_meant new item snaps)) refl refl (λ numbers. refl) refl
        (room_at new (meant new (carried_by before t.0)) (snap_meant new item snaps) (Value value) refl t1.stays.made)

-- a call of an engine that a full table refused
pub full_rose : (old new : Worker) (r : Result Rel LACK_OF) (l : LACK_OF) → HasCause false old new r → r ≡ Err l → l ≡ FULL → Rose old.misses new.misses
full_rose old new r l h e f = h.full (subst (λ z. IsErrOf z FULL) (sym (e ∙ ap Err f)) refl)
