-- What AT, DROP and SNAP do.
--
-- 1. AT takes no turn: what the kept names mean is what the snapshot means, in a worker that kept all and went on.
-- 2. DROP and SNAP take one turn, and make nothing.
use Rattle.std.proofs.Common.{◌≡◌, ◌∙◌, ◌≤◌, ◌+◌, inl, inr, arith, ℕ, Bool, true, false, cond, List, [], ◌∷◌, ◌++◌, Option, Some, None, Result, Ok, Err, refl, sym, ap, subst}
use Rattle.std.specs.Prelude.{IsSome}
use Rattle.std.specs.Option.{option_map}
use Rattle.std.specs.Ordering.{eq_by_cmp}
use Rattle.std.proofs.lemmas.Bool.{false≢true}
use Rattle.rel_model.specs.declared.NoMemory.{NoMemory as LACK}
use Rattle.rel_model.specs.declared.Rel.{Rel}
use Rattle.rel_model.specs.Relation.{Relation}
use Rattle.rel_model.specs.Worker.{Worker, set_of, Keeps, MakesAtMost}
use Rattle.rel_model.proofs.Workers.{keeps_itself}
use Rattle.lang_model.specs.declared.syntax.Place.{Place}
use Rattle.lang_model.specs.declared.syntax.Expr.{Expr}
use Rattle.lang_model.specs.declared.syntax.Item.{Item}
use Rattle.lang_model.specs.declared.syntax.Item.TheVariants.{Command as COMMAND}
use Rattle.lang_model.specs.declared.syntax.Command.TheVariants.{Remove as DROP, Snap as SNAP, At as AT}
use Rattle.lang_model.specs.declared.syntax.Script.{Script}
use Rattle.lang_model.specs.declared.faults.TypeFault.TheVariants.{Unknown}
use Rattle.lang_model.specs.Eval.{Evaluated, evaluated, cost_of_value, names_in}
use Rattle.lang_model.proofs.Seeing.{by_names}
use Rattle.run_model.specs.declared.event.Event.{Event}
use Rattle.run_model.specs.declared.outcome.Outcome.{Outcome}
use Rattle.run_model.specs.declared.outcome.Outcome.TheVariants.{Done, Ill as ILL, NoMemory as NO_MEMORY}
use Rattle.run_model.specs.Names.{compare, lookup, set}
use Rattle.run_model.specs.Inputs.{Input}
use Rattle.run_model.specs.Due.{Workspace, Early, Due, Nothing, Value, Values, Bytes, Explained, Refused, printed, due, due_of_command, due_of_value, due_of_drop, due_on_snapshot, outcome_due, gives}
use Rattle.run_model.specs.Outcomes.{IsNotEarly, lets_of}
use Rattle.run_model.specs.Legal.{CommitsItem}
use Rattle.run_model.specs.Turns.{change_taken}
use Rattle.run_model.specs.Events.{reads_of, done_deeds}
use Rattle.run_model.specs.Page.{done_text, done_save}
use Rattle.run_model.specs.Cost.{cost_of_item, cost_on_snapshot}
use Rattle.run_model.specs.Carried.{Carried}
use Rattle.run_model.specs.Texts.{prefix, refusal_text}
use Rattle.turn_book.specs.Views.{View as PASS}
use Rattle.rv_eval.specs.Names.{state_of}
use Rattle.rv_workspace.specs.declared.refused.DropRefused.TheVariants.{Unknown as UNKNOWN_NAME, NoMemory as DROP_NO_MEMORY}
use Rattle.rv_workspace.specs.Entering.{read_of, removal}
use Rattle.rv_sessions.specs.declared.form.Form.TheVariants.{Matrix}
use Rattle.rv_sessions.specs.declared.told.Told.{Told}
use Rattle.rv_sessions.specs.Standing.{first_names, first_versions, carried_by, Kept, KeptStand, meant}
use Rattle.rv_sessions.specs.Doing.{GoesThrough, Did, keep, state_of_turns, snap_meant, due_on}
use Rattle.rel_model.specs.Seats.{Stays}
use Rattle.rv_workspace.specs.Books.{EventStands, AllNamesStand}
use Rattle.run_model.specs.Steps.{snapped}
use Rattle.run_model.specs.Sessions.{HaveValues}
use Rattle.rv_sessions.specs.Turning.{TookTurn, DropTurn}
use Rattle.rv_sessions.specs.Valuing.{IsNotAhead, Stopped}
use Rattle.rv_sessions.specs.Showing.{CameShown}
use Rattle.rv_sessions.specs.Acting.{turn_of, WasNotRead, DidItem}
use Rattle.rv_sessions.specs.Telling.{TellsRefusal}
use Rattle.rv_sessions.proofs.FoldingKept.{meant_same}
use Rattle.rv_sessions.proofs.FoldingTurns.{through_none}
use Rattle.rv_sessions.proofs.Looking.{valued-lookup, snap_agrees}
use Rattle.rv_sessions.proofs.Building.{by_one, once_one, Went, lacks, refuses, is_done}
use Rattle.rv_sessions.proofs.Acting.{through_one, through_nothing, late_value}
use Rattle.rv_sessions.proofs.Assigning.{ReadsNothing, unread_lacks, unread_full, unread_refuses}
use Rattle.rv_sessions.proofs.Items.{is_late}
use Rattle.rv_sessions.proofs.Telling.{as_told}

-- ---- 1
no_kept : (c : Carried) → None ≡ Some c → ⊥
no_kept c e = cc

same_kept : (a b : Carried) → Some a ≡ Some b → a ≡ b
same_kept a b e = cc

kept_first : (w : Worker) (b : Bool) (x : Carried) (o : Option Carried) (c : Carried) → AllNamesStand w x → (o ≡ Some c → AllNamesStand w c) →
    cond b (Some x) o ≡ Some c → AllNamesStand w c
kept_first w true x o c s h k = subst (AllNamesStand w) (same_kept x c k) s
kept_first w false x o c s h k = h k

pub kept_stands : (w : Worker) (snaps : Kept) (n : List ℕ) (c : Carried) → KeptStand w snaps → lookup snaps n ≡ Some c → AllNamesStand w c
kept_stands w [] n c h e = absurd (no_kept c e)
kept_stands w (x ∷ xs) n c h e = kept_first w (eq_by_cmp compare n x.0) x.1 (lookup xs n) c h.0 (kept_stands w xs n c h.1) e

-- AT saves no file, whatever is due of it
at_saves : (at : Place) (name : List ℕ) (e : Expr) (d : Due) → done_save (COMMAND (AT at name e)) d ≡ []
at_saves at name e Nothing = refl
at_saves at name e (Value r) = refl
at_saves at name e (Values gifts) = refl
at_saves at name e (Bytes bytes) = refl
at_saves at name e (Explained steps) = refl
at_saves at name e (Refused when o) = refl

module _ (leaf : ℕ) (input : Input) (script : Script) (s c : ℕ) (at : Place) (name : List ℕ) (e : Expr) (old : Worker) (p : PASS) (snaps : Kept)
    (stood : KeptStand old snaps) where
  abbrev item : Item
  item = COMMAND (AT at name e)

  reads_nothing : ReadsNothing item
  reads_nothing = record { reads = refl; memory = tt; no_snapped = refl; no_block = refl }

  due_at : (state : Workspace) (snap : Option Workspace) → due input script item state snap ≡ due_on_snapshot input script at name e snap
  unfolding due due_of_command
  due_at state snap = refl

  nothing : (x : ℕ) → old.made ≤ old.made + x
  nothing x = omega arith

  pub at_lacks : Did leaf input script s c item old old p p snaps snaps NO_MEMORY (prefix s c ++ refusal_text NO_MEMORY) []
  at_lacks = unread_lacks leaf input script s c item old old p p snaps stood (keeps_itself old) reads_nothing (through_none p) (nothing _)

  -- an AT of a name without a snapshot is refused for the unknown name, with nothing read or made
  pub at_unknown : lookup snaps name ≡ None → (text : List ℕ) → text ≡ name →
      Did leaf input script s c item old old p p snaps snaps (ILL (Unknown at text)) (prefix s c ++ refusal_text (ILL (Unknown at text))) []
  at_unknown none text t =
      unread_refuses leaf input script s c item old old p p snaps stood (keeps_itself old) reads_nothing (through_none p) (nothing _) Early (ILL (Unknown at text))
      (due_at _ _ ∙ ap (λ x. due_on_snapshot input script at name e (option_map (meant old) x)) none ∙ ap (λ x. Refused Early (ILL (Unknown at x))) (sym t)) tt

  module _ (new : Worker) (kept : Carried) (there : lookup snaps name ≡ Some kept) (k : Keeps old new) (turns : ℕ) (i : input.turns ≡ turns) where
    abbrev before_ : Evaluated
    before_ = evaluated script (state_of old kept) e turns

    abbrev after_ : Evaluated
    after_ = evaluated script (lookup (meant new kept)) e input.turns

    all : AllNamesStand old kept
    all = kept_stands old snaps name kept stood there

    pub one : before_ ≡ after_
    one =
        by_names.value script (state_of old kept) (lookup (meant old kept)) e turns (snap_agrees old kept (names_in e) all)
        ∙ ap (λ m. evaluated script (lookup m) e turns) (meant_same old new k kept all)
        ∙ ap (λ t. evaluated script (lookup (meant new kept)) e t) (sym i)

    snap_is : snap_meant new item snaps ≡ Some (meant new kept)
    snap_is = ap (option_map (meant new)) there

    pub due_is : due_on input script item new snaps (first_names p) [] ≡ due_of_value printed input.turns after_
    due_is = due_at (state_of_turns new (first_names p) []) (snap_meant new item snaps) ∙ ap (due_on_snapshot input script at name e) snap_is

    room_is : MakesAtMost (cost_of_value leaf before_) old new →
        MakesAtMost (cost_of_item leaf input script item (state_of_turns new (first_names p) []) (snap_meant new item snaps) (due_on input script item new snaps (first_names p) [])) old new
    room_is room =
        subst (λ x. new.made ≤ old.made + cost_on_snapshot leaf input script e x) (sym snap_is)
        (subst (λ x. new.made ≤ old.made + cost_of_value leaf x) one room)

    pub at_shown : (bytes : List ℕ) → CameShown Matrix old new e turns before_ (Ok bytes) → MakesAtMost (cost_of_value leaf before_) old new →
        Did leaf input script s c item old new p p snaps snaps Done (prefix s c ++ bytes) []
    at_shown bytes h room =
        let r : Relation = h.0 in
        let w : Went leaf input script s c item old new p p snaps [] =
        record { through = through_none p; own = tt; begun = tt; once = tt; stand = tt; snaps_stood = stood; room = room_is room; keeps = k } in
        let dd : due_on input script item new snaps (first_names p) [] ≡ Value r =
        due_is ∙ ap (due_of_value printed input.turns) (sym one) ∙ ap (λ t. due_of_value printed t before_) i ∙ h.1 in
        is_done w snaps (prefix s c ++ bytes) [] (ap outcome_due dd) refl tt
        (ap (λ b. prefix s c ++ b) h.2 ∙ sym (ap (done_text (prefix s c) item) dd)) (sym (at_saves at name e (due_on input script item new snaps (first_names p) []))) refl tt

    pub at_stopped : (o : Outcome) (result : Result Told LACK) → Stopped old new e turns before_ printed o → MakesAtMost (cost_of_value leaf before_) old new →
        TellsRefusal s c o result → DidItem leaf input script s c item old new p p snaps snaps result
    at_stopped o (Err lack) h room t = unread_lacks leaf input script s c item old new p p snaps stood k reads_nothing (through_none p) (room_is room)
    at_stopped o (Ok told) (inl h) room t =
        as_told (Did leaf input script s c item old new p p snaps snaps) s c o told t
        (unread_refuses leaf input script s c item old new p p snaps stood k reads_nothing (through_none p) (room_is room) h.0 o
        (due_is ∙ ap (due_of_value printed input.turns) (sym one) ∙ ap (λ u. due_of_value printed u before_) i ∙ h.1) h.2)
    at_stopped o (Ok told) (inr (inl h)) room t =
        as_told (Did leaf input script s c item old new p p snaps snaps) s c o told t
        (subst (λ x. Did leaf input script s c item old new p p snaps snaps x (prefix s c ++ refusal_text x) []) (sym h.0)
        (unread_full leaf input script s c item old new p p snaps stood k reads_nothing (through_none p) (room_is room)
        (h.1.compound, subst IsNotEarly (sym due_is) (late_value printed input.turns after_ (subst IsNotAhead one h.1.not_ahead) (is_late Matrix))) h.1.rose))
    at_stopped o (Ok told) (inr (inr h)) room t = absurd (t.3 h)

-- ---- 2
made_none : (a b : ℕ) → b ≡ a → b ≤ a + 0
made_none a b e = omega (arith, e)

some_kept : (at : Place) (name : List ℕ) (f : Rel → Relation) (o : Option Rel) → IsSome o → due_of_drop at name (option_map f o) ≡ Nothing
some_kept at name f None h = absurd (false≢true h)
some_kept at name f (Some r) h = refl

module _ (leaf : ℕ) (input : Input) (script : Script) (s c : ℕ) (at : Place) (name : List ℕ) (old new : Worker) (before after : PASS) (snaps : Kept)
    (stood : KeptStand old snaps) where
  abbrev drop : Item
  drop = COMMAND (DROP at name)

  due_drop : (state : Workspace) (snap : Option Workspace) → due input script drop state snap ≡ due_of_drop at name (lookup state name)
  unfolding due due_of_command
  due_drop state snap = refl

  -- a DROP that took a turn went through that one alone: it put one event there, and made nothing
  drop_went : (log : List Event) (e : Event) → TookTurn old new before after log (e ∷ []) → e.session ≡ s → e.command ≡ c → EventStands new e →
      Went leaf input script s c drop old new before after snaps (turn_of log e ∷ [])
  drop_went log e t a b n = record {
    through = through_one t;
    own = (by_one a b, tt);
    begun = (e, [], refl);
    once = once_one log e;
    stand = (record { first_stand = t.first_stand; log = t.stand; own = (n, tt) }, tt);
    snaps_stood = stood;
    room = made_none old.made new.made t.stays.made;
    keeps = t.stays.keeps;
  }

  drop_nowhere : GoesThrough [] before after → Stays old new → Went leaf input script s c drop old new before after snaps []
  drop_nowhere g t = record {
    through = g;
    own = tt;
    begun = tt;
    once = tt;
    stand = tt;
    snaps_stood = stood;
    room = made_none old.made new.made t.made;
    keeps = t.keeps;
  }

  due_had : (log : List Event) → due input script drop (meant new (carried_by before log)) None ≡ due_of_drop at name (option_map (set_of new) (lookup (carried_by before log) name))
  due_had log = due_drop (meant new (carried_by before log)) None ∙ ap (due_of_drop at name) (valued-lookup (set_of new) (carried_by before log) name)

  -- the name is gone
  pub drop_done : DropTurn s c name old new before after (Ok tt) → Did leaf input script s c drop old new before after snaps snaps Done [] []
  drop_done h =
      let dd : due input script drop (meant new (carried_by before h.0)) None ≡ Nothing = due_had h.0 ∙ some_kept at name (set_of new) (lookup (carried_by before h.0) name) h.2 in
      is_done (drop_went h.0 (removal s c name) h.1 refl refl tt) snaps [] [] (ap outcome_due dd) refl tt (sym (ap (done_text (prefix s c) drop) dd))
      (sym (ap (done_save drop) dd)) refl tt

  -- there is no such name
  pub drop_unknown : (text : List ℕ) (result : Result Told LACK) → DropTurn s c name old new before after (Err (UNKNOWN_NAME text)) →
      TellsRefusal s c (ILL (Unknown at text)) result → DidItem leaf input script s c drop old new before after snaps snaps result
  drop_unknown text (Err lack) h t = lacks (drop_went h.0 (read_of s c) h.1 refl refl tt) tt ([], refl)
  drop_unknown text (Ok told) h t =
      as_told (Did leaf input script s c drop old new before after snaps snaps) s c (ILL (Unknown at text)) told t
      (refuses (drop_went h.0 (read_of s c) h.1 refl refl tt) Early (ILL (Unknown at text))
      (due_had h.0 ∙ ap (λ o. due_of_drop at name (option_map (set_of new) o)) h.2.1 ∙ ap (λ x. Refused Early (ILL (Unknown at x))) (sym h.2.0)) tt refl)

  -- memory ran out
  pub drop_lacks : DropTurn s c name old new before after (Err DROP_NO_MEMORY) →
      Did leaf input script s c drop old new before after snaps snaps NO_MEMORY (prefix s c ++ refusal_text NO_MEMORY) []
  drop_lacks h = lacks (drop_nowhere (through_nothing h.1) h.1.stays) tt (reads_of drop, refl)

module _ (leaf : ℕ) (input : Input) (script : Script) (s c : ℕ) (name : List ℕ) (old new : Worker) (before after : PASS) (snaps : Kept)
    (stood : KeptStand old snaps) where
  abbrev snap : Item
  snap = COMMAND (SNAP name)

  due_snap : (state : Workspace) (kept : Option Workspace) → due input script snap state kept ≡ Nothing
  unfolding due due_of_command
  due_snap state kept = refl

  -- a SNAP that took a turn went through that one alone: it read there, and made nothing
  snap_went : (log : List Event) → TookTurn old new before after log (read_of s c ∷ []) →
      Went leaf input script s c snap old new before after snaps (turn_of log (read_of s c) ∷ [])
  snap_went log t = record {
    through = through_one t;
    own = (by_one refl refl, tt);
    begun = (read_of s c, [], refl);
    once = once_one log (read_of s c);
    stand = (record { first_stand = t.first_stand; log = t.stand; own = (tt, tt) }, tt);
    snaps_stood = stood;
    room = made_none old.made new.made t.stays.made;
    keeps = t.stays.keeps;
  }

  -- all names are kept
  pub snap_done : (log : List Event) (own : List ℕ) (names : Carried) (left : Kept) → TookTurn old new before after log (read_of s c ∷ []) → own ≡ name →
      names ≡ carried_by before log → left ≡ set own names snaps → Did leaf input script s c snap old new before after snaps left Done [] []
  snap_done log own names left t n l e =
      let dd : due input script snap (meant new (carried_by before log)) None ≡ Nothing = due_snap (meant new (carried_by before log)) None in
      is_done (snap_went log t) left [] [] (ap outcome_due dd) refl tt (sym (ap (done_text (prefix s c) snap) dd)) (sym (ap (done_save snap) dd))
      (e ∙ ap (λ x. set x names snaps) n ∙ ap (λ x. set name x snaps) l) tt

  -- memory ran out, after the read or before it
  pub snap_lacks : (log : List Event) → TookTurn old new before after log (read_of s c ∷ []) →
      Did leaf input script s c snap old new before after snaps snaps NO_MEMORY (prefix s c ++ refusal_text NO_MEMORY) []
  snap_lacks log t = lacks (snap_went log t) tt ([], refl)

  pub snap_unread : WasNotRead old new before after →
      Did leaf input script s c snap old new before after snaps snaps NO_MEMORY (prefix s c ++ refusal_text NO_MEMORY) []
  snap_unread h =
      lacks {ts = []}
      (record { through = h.through; own = tt; begun = tt; once = tt; stand = tt; snaps_stood = stood; room = made_none old.made new.made h.stays.made; keeps = h.stays.keeps })
      tt (reads_of snap, refl)

-- ---- 3
-- a definition
pub defined : (leaf : ℕ) (input : Input) (script : Script) (s c : ℕ) (item : Item) (w : Worker) (p : PASS) (snaps : Kept) → KeptStand w snaps →
    ((state : Workspace) (snap : Option Workspace) → due input script item state snap ≡ Nothing) → done_deeds item Nothing ≡ [] → gives item Nothing ≡ [] →
    snapped item ≡ None → lets_of item ≡ None → Did leaf input script s c item w w p p snaps snaps Done [] []
defined leaf input script s c item w p snaps stood d deeds given kept block =
    let x : Workspace = state_of_turns w (first_names p) [] in
    let y : Option Workspace = snap_meant w item snaps in
    is_done {ts = []}
    (record { through = through_none p; own = tt; begun = tt; once = tt; stand = tt; snaps_stood = stood; room = omega arith; keeps = keeps_itself w })
    snaps [] [] (ap outcome_due (d x y)) (sym (ap (done_deeds item) (d x y) ∙ deeds))
    (subst (HaveValues (set_of w) []) (sym (ap (gives item) (d x y) ∙ given)) tt)
    (sym (ap (done_text (prefix s c) item) (d x y))) (sym (ap (done_save item) (d x y))) (sym (ap (λ o. keep o [] snaps) kept))
    (subst (λ l. CommitsItem (change_taken (first_versions p) [] c) l Done) (sym block) tt)
