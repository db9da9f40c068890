-- What ATOMIC does.
-- 1. The names that a block read agree with the workspace that its log means on all that it reads; so its expressions come
--    there to what they came to.
-- 2. It was refused, or the table was full, or memory ran out: then it has its read alone.
-- 3. No name has another version at the commit exactly where the two logs agree on the versions of the names; then it
--    assigns, and else it reads once more.
use Rattle.std.proofs.Common.{◌≡◌, ◌∙◌, ◌≤◌, ◌+◌, ◌||◌, inl, inr, arith, ℕ, Bool, true, false, cond, eqb, nat_eq, List, [], ◌∷◌, ◌++◌, append-nil, map, Option, Some, None, Result, Ok, Err, refl, sym, ap, subst}
use Rattle.std.specs.List.{list_any, flat_map, AllByRecursion}
use Rattle.std.specs.declared.vec.Vec.{Vec}
use Rattle.std.specs.declared.alloc.Global.{Global}
use Rattle.std.proofs.lemmas.Bool.{cases_Bool, false≢true, eq-eqb, ne_eqb, eqb-true, eqb-false}
use Rattle.rel_model.specs.declared.NoMemory.{NoMemory as LACK}
use Rattle.rel_model.specs.declared.Rel.{Rel}
use Rattle.rel_model.specs.Worker.{Worker, set_of, Keeps, MakesAtMost, Rose}
use Rattle.rel_model.proofs.Workers.{keeps_itself, keeps_trans, keeps_stands}
use Rattle.lang_model.specs.declared.syntax.Command.TheVariants.{Atomic as ATOMIC}
use Rattle.lang_model.specs.declared.syntax.Item.{Item}
use Rattle.lang_model.specs.declared.syntax.Item.TheVariants.{Command as COMMAND}
use Rattle.lang_model.specs.declared.syntax.Let.{Let as BlockLet}
use Rattle.lang_model.specs.declared.syntax.Script.{Script}
use Rattle.lang_model.specs.Blocks.{names_read, evaluated_block, cost_of_block}
use Rattle.lang_model.specs.Eval.{AgreeOn, Evaluated}
use Rattle.lang_model.proofs.Blocking.{blocks_by_names}
use Rattle.run_model.specs.declared.event.Event.{Event}
use Rattle.run_model.specs.declared.outcome.Outcome.{Outcome}
use Rattle.run_model.specs.declared.outcome.Outcome.TheVariants.{Done, NoMemory as NO_MEMORY, Changed}
use Rattle.run_model.specs.Blocks.{as_set, block_reads}
use Rattle.run_model.specs.Carried.{Carried, carried_from}
use Rattle.run_model.specs.Due.{Workspace, Due, Values, due, due_of_command, due_of_lets, due_of_block, outcome_due, gives}
use Rattle.run_model.specs.Events.{Reads, Gives, deed_of, giving, reads_of, done_deeds}
use Rattle.run_model.specs.Inputs.{Input}
use Rattle.run_model.specs.Legal.{change_at, is_assign}
use Rattle.run_model.specs.Names.{lookup, names_of}
use Rattle.run_model.specs.Outcomes.{IsNotEarly}
use Rattle.run_model.specs.Page.{done_text, done_save}
use Rattle.run_model.specs.Sessions.{rel_of, HaveValues}
use Rattle.run_model.specs.Texts.{prefix, refusal_text}
use Rattle.run_model.specs.Turns.{Turn, AssignsOnce, taken as taken_by, taken_again, log_or_none, change_taken}
use Rattle.run_model.specs.Versions.{Change, Versions, version_behind, first_changed}
use Rattle.run_model.proofs.Committing.{from_set}
use Rattle.turn_book.specs.Views.{View as PASS}
use Rattle.rv_eval.specs.Names.{HasSizes, state_of}
use Rattle.rv_workspace.specs.declared.refused.CommitRefused.{CommitRefused}
use Rattle.rv_workspace.specs.declared.refused.CommitRefused.TheVariants.{Changed as CHANGED, NoMemory as COMMIT_NO_MEMORY}
use Rattle.rv_workspace.specs.Books.{EventStands, HistoryStands, AllNamesStand}
use Rattle.rv_workspace.specs.Committing.{change_since}
use Rattle.rv_workspace.specs.Entering.{read_of, assigns}
use Rattle.rv_workspace.specs.Picking.{picked}
use Rattle.rv_workspace.proofs.Replaying.{history_stands, all_names_stand}
use Rattle.rv_workspace.specs.Starts.{first_of}
use Rattle.rv_sessions.specs.declared.told.Told.{Told}
use Rattle.rv_sessions.specs.Acting.{turn_of, WasNotRead, DidItem}
use Rattle.rv_sessions.specs.Blocking.{gifts_in, GiftsStand, BlockStopped, TellsRefusedCommit}
use Rattle.rv_sessions.specs.Doing.{IsBy, GoesThrough, Did, rels_by, due_on}
use Rattle.rv_sessions.specs.Standing.{first_names, first_versions, carried_by, TurnStands, Kept, KeptStand, meant}
use Rattle.rv_sessions.specs.Telling.{TellsRefusal}
use Rattle.rv_sessions.specs.Turning.{TookTurn, versions_in, BlockTurn, CommitTurn}
use Rattle.rv_sessions.proofs.Acting.{through_one, through_puts, through_nothing, not_read}
use Rattle.rv_sessions.proofs.Blocks.{gifts_kept, gifts_stand_kept}
use Rattle.rv_sessions.proofs.Building.{by_one, once_one, once_read, Went, lacks, lacks_behind, full, refuses, changes, is_done}
use Rattle.rv_sessions.proofs.FoldingKept.{meant_same, carried_stands}
use Rattle.rv_sessions.proofs.FoldingTurns.{through_none, through_append}
use Rattle.rv_sessions.proofs.Looking.{wanted_agree}
use Rattle.rv_sessions.proofs.Telling.{as_told}

-- ---- 1
reads_agree : (w : Worker) (lets : List BlockLet) (first : Carried) (log : List Event) (names : Carried) → AllNamesStand w first → HistoryStands w log →
    names ≡ picked (Some (block_reads lets)) (carried_from first log) → AgreeOn (state_of w names) (lookup (meant w (carried_from first log))) (names_read lets)
unfolding block_reads
reads_agree w lets first log names f h n =
    from_set (λ name. state_of w names name ≡ lookup (meant w (carried_from first log)) name) (names_read lets)
    (wanted_agree w (names_of (as_set (names_read lets))) first log names f h n)

-- what the expressions of a block come to on a log, behind first names, in a worker
abbrev pub block_on : Input → Script → List BlockLet → Worker → Carried → List Event → List Evaluated
block_on input script lets w first log = evaluated_block script (lookup (meant w (carried_from first log))) lets input.turns

-- a block's expressions come to the same on the names that it took and on what its log means, since these agree on all
-- names that it reads
pub came_on_log : (input : Input) (script : Script) (lets : List BlockLet) (mid new : Worker) (first : Carried) (log : List Event) (turns : ℕ) (names : Carried) →
    AllNamesStand mid first → HistoryStands mid log → Keeps mid new → names ≡ picked (Some (block_reads lets)) (carried_from first log) → input.turns ≡ turns →
    evaluated_block script (state_of mid names) lets turns ≡ block_on input script lets new first log
came_on_log input script lets mid new first log turns names f h k n i =
    blocks_by_names script (state_of mid names) (lookup (meant mid (carried_from first log))) lets turns (reads_agree mid lets first log names f h n)
    ∙ ap (λ m. evaluated_block script (lookup m) lets turns) (meant_same mid new k (carried_from first log) (carried_stands mid first log f h))
    ∙ ap (λ t. evaluated_block script (lookup (meant new (carried_from first log))) lets t) (sym i)

-- the same, where the code hands on the block as a slice and the turns of its own
module _ (input : Input) (script : Script) (lets slice : List BlockLet) (turns : ℕ) (reads : List (List ℕ)) (names first : Carried) (log : List Event) (mid end : Worker)
    (first_stand : AllNamesStand mid first) (stand : HistoryStands mid log) (slice_is : slice ≡ lets) (reads_are : reads ≡ block_reads slice)
    (names_are : names ≡ picked (Some reads) (carried_from first log)) (k : Keeps mid end) (i : input.turns ≡ turns) where
  came_is : evaluated_block script (state_of mid names) slice turns ≡ block_on input script lets end first log
  came_is =
      ap (λ ls. evaluated_block script (state_of mid names) ls turns) slice_is
      ∙ came_on_log input script lets mid end first log turns names first_stand stand k
      (names_are ∙ ap (λ ws. picked (Some ws) (carried_from first log)) (reads_are ∙ ap block_reads slice_is)) i

  due_is_same : due_of_lets turns slice (evaluated_block script (state_of mid names) slice turns) ≡ due_of_lets input.turns lets (block_on input script lets end first log)
  due_is_same = λ j. due_of_lets (sym i j) (slice_is j) (came_is j)

  pub stopped_there : (o : Outcome) → BlockStopped mid end slice (due_of_lets turns slice (evaluated_block script (state_of mid names) slice turns)) o →
      BlockStopped mid end lets (due_of_lets input.turns lets (block_on input script lets end first log)) o
  stopped_there o h =
      subst (λ d. BlockStopped mid end lets d o) due_is_same
      (subst (λ ls. BlockStopped mid end ls (due_of_lets turns slice (evaluated_block script (state_of mid names) slice turns)) o) slice_is h)

  pub values_there : (d : Due) → due_of_lets turns slice (evaluated_block script (state_of mid names) slice turns) ≡ d →
      due_of_lets input.turns lets (block_on input script lets end first log) ≡ d
  values_there d h = sym due_is_same ∙ h

  pub room_there : (leaf : ℕ) → MakesAtMost (cost_of_block leaf (evaluated_block script (state_of mid names) slice turns)) mid end →
      MakesAtMost (cost_of_block leaf (block_on input script lets end first log)) mid end
  room_there leaf h = subst (λ es. MakesAtMost (cost_of_block leaf es) mid end) came_is h

-- ---- commits
turned_test : (a b : ℕ) → nat_eq a b ≡ nat_eq b a
turned_test a b = elim (cases_Bool (nat_eq a b)) [
  | inl t ↦ t ∙ sym (eq-eqb b a (sym (eqb-true a b t)))
  | inr f ↦ f ∙ sym (ne_eqb b a (λ e. eqb-false a b f (sym e)))
]

-- the change that a commit told is the one between the two logs
same_change : (v : Versions) (log taken : List Event) (names : List (List ℕ)) →
    change_since v (versions_in v log names) taken ≡ first_changed (version_behind v log) (version_behind v taken) names
same_change v log taken [] = refl
same_change v log taken (n ∷ ns) =
    let a = version_behind v log n in
    let b = version_behind v taken n in
    ap (λ x. cond (nat_eq b a) x (Some (change_of a b))) (same_change v log taken ns)
    ∙ ap (λ t. cond t (first_changed (version_behind v log) (version_behind v taken) ns) (Some (change_of a b))) (turned_test b a)
  where
    change_of : ℕ → ℕ → Change
    change_of seen found = record { name = n; seen = seen; found = found }

-- ---- assignments
pub puts_assign : (s c : ℕ) (list : List (List ℕ × Rel)) → AllByRecursion (λ e. is_assign e.act ≡ true) (assigns s c list)
puts_assign s c [] = tt
puts_assign s c (g ∷ gs) = (refl, puts_assign s c gs)

pub puts_by : (s c : ℕ) (list : List (List ℕ × Rel)) → AllByRecursion (λ e. (e.session ≡ s) × (e.command ≡ c)) (assigns s c list)
puts_by s c [] = tt
puts_by s c (g ∷ gs) = ((refl, refl), puts_by s c gs)

pub puts_stand : (w : Worker) (s c : ℕ) (list : List (List ℕ × Rel)) → GiftsStand w list → AllByRecursion (EventStands w) (assigns s c list)
puts_stand w s c [] h = tt
puts_stand w s c (g ∷ gs) h = ((h.0, tt), puts_stand w s c gs h.1)

pub assigned_last : (s c : ℕ) (list : List (List ℕ × Rel)) → AllByRecursion (λ e. is_assign e.act ≡ true → false ≡ false) (assigns s c list)
assigned_last s c [] = tt
assigned_last s c (g ∷ gs) = ((λ h. refl), assigned_last s c gs)

pub assigned_values : (w : Worker) (s c : ℕ) (list : List (List ℕ × Rel)) → HaveValues (set_of w) (flat_map (λ e. rel_of e.act) (assigns s c list)) (gifts_in w list)
assigned_values w s c [] = tt
assigned_values w s c (g ∷ gs) = (refl, assigned_values w s c gs)

pub assigned_deeds : (w : Worker) → HasSizes w → (s c : ℕ) (list : List (List ℕ × Rel)) → GiftsStand w list → map (λ e. deed_of e.act) (assigns s c list) ≡ giving (gifts_in w list)
assigned_deeds w z s c [] h = refl
assigned_deeds w z s c (g ∷ gs) h =
    let a = z.rows g.1 h.0 in
    let b = z.cols g.1 h.0 in
    let rest = assigned_deeds w z s c gs h.1 in
    λ i. Gives g.0 (sym a i) (sym b i) ∷ rest i

-- whether or not a command assigned anything, nothing changed before its commit
no_change : (v : Versions) (log taken : List Event) (names : List (List ℕ)) (b : Bool) → first_changed (version_behind v log) (version_behind v taken) names ≡ None →
    change_at (version_behind v log) (version_behind v) (cond b (Some taken) None) names ≡ None
no_change v log taken names true e = e
no_change v log taken names false e = refl

-- what changed between a read and a commit is what the two turns took
own_change : (v : Versions) (s c : ℕ) (log taken puts : List Event) (names : List (List ℕ)) →
    change_taken v (turn_of log (read_of s c) ∷ record { took = taken; put = puts } ∷ []) c names
    ≡ change_at (version_behind v log) (version_behind v) (cond (list_any (λ e. eqb e.command c) puts) (Some taken) None) names
own_change v s c log taken puts names =
    let commit : List Turn = record { took = taken; put = puts } ∷ [] in
    ap (λ b. change_at (version_behind v (log_or_none (cond (b || false) (Some log) (taken_by c commit)))) (version_behind v)
    (cond (b || false) (taken_by c commit) (taken_again c commit)) names) (eq-eqb c c refl)

module _ (leaf : ℕ) (input : Input) (script : Script) (s c : ℕ) (lets : Vec BlockLet Global) (old : Worker) (before : PASS) (snaps : Kept) (stood : KeptStand old snaps) where
  abbrev item : Item
  item = COMMAND (ATOMIC lets)

  due_block : (state : Workspace) (snap : Option Workspace) → due input script item state snap ≡ due_of_block input script lets.items state
  unfolding due due_of_command
  due_block state snap = refl

  -- ---- 2
  -- nothing was read
  pub block_unread : (new : Worker) (after : PASS) → WasNotRead old new before after →
      Did leaf input script s c item old new before after snaps snaps NO_MEMORY (prefix s c ++ refusal_text NO_MEMORY) []
  block_unread new after h =
      lacks {ts = []}
      (record { through = h.through; own = tt; begun = tt; once = tt; stand = tt; snaps_stood = stood; room = made_less old.made new.made _ h.stays.made; keeps = h.stays.keeps })
      tt (reads_of item, refl)
    where
      made_less : (a b x : ℕ) → b ≡ a → b ≤ a + x
      made_less a b x e = omega (arith, e)

  module _ (mid : Worker) (between : PASS) (log : List Event) (read : TookTurn old mid before between log (read_of s c ∷ [])) where
    -- the cost of the block on the log, in a worker that keeps all
    abbrev costs : Worker → ℕ
    costs w = cost_of_block leaf (block_on input script lets.items w (first_names before) log)

    room_from : (w : Worker) → MakesAtMost (costs w) mid w → MakesAtMost (costs w) old w
    room_from w r = subst (λ n. w.made ≤ n + costs w) read.stays.made r

    went : (new : Worker) (after : PASS) → GoesThrough [] between after → Keeps mid new → MakesAtMost (costs new) mid new →
        Went leaf input script s c item old new before after snaps (turn_of log (read_of s c) ∷ [])
    went new after g k room = record {
      through = through_append (turn_of log (read_of s c) ∷ []) [] before between after (through_one read) g;
      own = (by_one refl refl, tt);
      begun = (read_of s c, [], refl);
      once = once_one log (read_of s c);
      stand = (
        record {
          first_stand = all_names_stand mid new (λ x h. keeps_stands mid new x k h) (first_names before) read.first_stand;
          log = history_stands mid new (λ x h. keeps_stands mid new x k h) log read.stand;
          own = (tt, tt);
        },
        tt,
      );
      snaps_stood = stood;
      room = room_from new room;
      keeps = keeps_trans old mid new read.stays.keeps k;
    }

    -- memory ran out behind the read
    pub block_lacks : (new : Worker) (after : PASS) → GoesThrough [] between after → Keeps mid new → MakesAtMost (costs new) mid new →
        Did leaf input script s c item old new before after snaps snaps NO_MEMORY (prefix s c ++ refusal_text NO_MEMORY) []
    block_lacks new after g k room = lacks (went new after g k room) tt ([], refl)

    -- the block stopped
    pub block_stopped : (new : Worker) (after : PASS) → GoesThrough [] between after → (k : Keeps mid new) → (room : MakesAtMost (costs new) mid new) →
        (o : Outcome) (result : Result Told LACK) → BlockStopped mid new lets.items (due_of_lets input.turns lets.items (block_on input script lets.items new (first_names before) log)) o →
        TellsRefusal s c o result → DidItem leaf input script s c item old new before after snaps snaps result
    block_stopped new after g k room o (Err lack) h t = block_lacks new after g k room
    block_stopped new after g k room o (Ok told) (inl h) t =
        as_told (Did leaf input script s c item old new before after snaps snaps) s c o told t
        (refuses (went new after g k room) h.0 o (due_block _ _ ∙ h.1) h.2 refl)
    block_stopped new after g k room o (Ok told) (inr (inl h)) t =
        as_told (Did leaf input script s c item old new before after snaps snaps) s c o told t
        (subst (λ x. Did leaf input script s c item old new before after snaps snaps x (prefix s c ++ refusal_text x) []) (sym h.0)
        (full (went new after g k room) (h.1, subst IsNotEarly (sym (due_block (meant new (carried_by before log)) None)) h.2)
        (subst (λ n. Rose n new.misses) read.stays.misses h.3) refl))
    block_stopped new after g k room o (Ok told) (inr (inr h)) t = absurd (t.3 h)

    -- ---- 3
    -- all values are due, and the commit took another log
    module _ (end new : Worker) (after : PASS) (taken : List Event) (list : List (List ℕ × Rel)) (values : Keeps mid end) (room : MakesAtMost (costs end) mid end)
        (stands : GiftsStand end list) (due_is : due_of_lets input.turns lets.items (block_on input script lets.items end (first_names before) log) ≡ Values (gifts_in end list)) where
      module _ (puts : List Event) (t : TookTurn end new between after taken puts) where
        keeps_all : Keeps mid new
        keeps_all = keeps_trans mid end new values t.stays.keeps

        same_block : block_on input script lets.items end (first_names before) log ≡ block_on input script lets.items new (first_names before) log
        same_block =
            ap (λ m. evaluated_block script (lookup m) lets.items input.turns)
            (meant_same end new t.stays.keeps (carried_by before log) (carried_stands end (first_names before) log (all_names_stand mid end (λ x h. keeps_stands mid end x values h) (first_names before) read.first_stand)
            (history_stands mid end (λ x h. keeps_stands mid end x values h) log read.stand)))

        room_all : MakesAtMost (costs new) mid new
        room_all = subst (λ n. n ≤ mid.made + costs new) (sym t.stays.made) (subst (λ es. end.made ≤ mid.made + cost_of_block leaf es) same_block room)

        due_all : due_on input script item new snaps (first_names before) (turn_of log (read_of s c) ∷ []) ≡ Values (gifts_in new list)
        due_all =
            due_block _ _ ∙ ap (due_of_lets input.turns lets.items) (sym same_block) ∙ due_is ∙ ap Values (sym (gifts_kept end new list t.stays.keeps stands))

        abbrev turn : Turn
        turn = record { took = taken; put = puts }

        abbrev turns : List Turn
        turns = turn_of log (read_of s c) ∷ turn ∷ []

        -- the first names stand in it
        first_all : AllNamesStand new (first_names before)
        first_all = all_names_stand mid new (λ x h. keeps_stands mid new x keeps_all h) (first_names before) read.first_stand

        went_on : IsBy s c turn → AssignsOnce turns → TurnStands new (first_names before) turn → Went leaf input script s c item old new before after snaps turns
        went_on by once stand = record {
          through = through_append (turn_of log (read_of s c) ∷ []) (turn ∷ []) before between after (through_one read) (through_puts t);
          own = (by_one refl refl, (by, tt));
          begun = (read_of s c, [], refl);
          once = once;
          stand = (record { first_stand = first_all; log = history_stands mid new (λ x h. keeps_stands mid new x keeps_all h) log read.stand; own = (tt, tt) }, (stand, tt));
          snaps_stood = stood;
          room = room_from new room_all;
          keeps = keeps_trans old mid new read.stays.keeps keeps_all;
        }

      -- the block was committed
      committed_did : HasSizes new → TookTurn end new between after taken (assigns s c list) →
          change_since (first_versions before) (versions_in (first_versions before) log (block_reads lets.items)) taken ≡ None →
          Did leaf input script s c item old new before after snaps snaps Done [] []
      committed_did sizes t none =
          let there : GiftsStand new list = gifts_stand_kept end new list t.stays.keeps stands in
          let w = went_on (assigns s c list) t (record { each = puts_by s c list; kind = inr (puts_assign s c list) })
          (((λ h. absurd (false≢true h)), tt), (assigned_last s c list, tt)) (record { first_stand = first_all (assigns s c list) t; log = t.stand; own = puts_stand new s c list there }) in
          let dd = due_all (assigns s c list) t in
          is_done w snaps [] [] (ap outcome_due dd)
          (ap (λ es. Reads ∷ map (λ e. deed_of e.act) es) (append-nil (assigns s c list)) ∙ ap (λ ds. Reads ∷ ds) (assigned_deeds new sizes s c list there) ∙ sym (ap (done_deeds item) dd))
          (subst (HaveValues (set_of new) (rels_by (turns (assigns s c list) t))) (sym (ap (gives item) dd))
          (subst (λ es. HaveValues (set_of new) (flat_map (λ e. rel_of e.act) es) (gifts_in new list)) (sym (append-nil (assigns s c list))) (assigned_values new s c list)))
          (sym (ap (done_text (prefix s c) item) dd)) (sym (ap (done_save item) dd)) refl
          (own_change (first_versions before) s c log taken (assigns s c list) (block_reads lets.items)
          ∙ no_change (first_versions before) log taken (block_reads lets.items) (list_any (λ e. eqb e.command c) (assigns s c list)) (sym (same_change (first_versions before) log taken (block_reads lets.items)) ∙ none))

      changed_went : (t : TookTurn end new between after taken (read_of s c ∷ [])) →
          Went leaf input script s c item old new before after snaps (turns (read_of s c ∷ []) t)
      changed_went t = went_on (read_of s c ∷ []) t (by_one refl refl) (once_read log taken s c (read_of s c)) (record { first_stand = first_all (read_of s c ∷ []) t; log = t.stand; own = (tt, tt) })

      -- it was refused at its commit
      changed_did : (name : List ℕ) (seen found : ℕ) → TookTurn end new between after taken (read_of s c ∷ []) →
          change_since (first_versions before) (versions_in (first_versions before) log (block_reads lets.items)) taken ≡ Some (record { name = name; seen = seen; found = found }) →
          Did leaf input script s c item old new before after snaps snaps (Changed name seen found) (prefix s c ++ refusal_text (Changed name seen found)) []
      changed_did name seen found t some =
          changes (changed_went t) name seen found refl (ap outcome_due (due_all (read_of s c ∷ []) t)) refl
          (own_change (first_versions before) s c log taken (read_of s c ∷ []) (block_reads lets.items)
          ∙ ap (λ b. change_at (version_behind (first_versions before) log) (version_behind (first_versions before)) (cond (b || false) (Some taken) None) (block_reads lets.items)) (eq-eqb c c refl)
          ∙ sym (same_change (first_versions before) log taken (block_reads lets.items)) ∙ some)

      -- memory ran out behind the second read
      change_lacks : TookTurn end new between after taken (read_of s c ∷ []) →
          Did leaf input script s c item old new before after snaps snaps NO_MEMORY (prefix s c ++ refusal_text NO_MEMORY) []
      change_lacks t = lacks_behind (changed_went t) tt ([], refl)

      -- memory ran out at the commit
      commit_lacks : TookTurn end new between after taken [] →
          Did leaf input script s c item old new before after snaps snaps NO_MEMORY (prefix s c ++ refusal_text NO_MEMORY) []
      commit_lacks t = block_lacks new after (through_nothing t) (keeps_all [] t) (room_all [] t)

    -- what a commit answered
    module _ (end new : Worker) (after : PASS) (list : List (List ℕ × Rel)) (values : Keeps mid end) (room : MakesAtMost (costs end) mid end)
        (stands : GiftsStand end list) (due_is : due_of_lets input.turns lets.items (block_on input script lets.items end (first_names before) log) ≡ Values (gifts_in end list)) where
      -- what changed is told by the versions with which the book began, as each pass knows them
      known : (taken : List Event) (x : Option Change) → change_since (first_versions between) (versions_in (first_versions before) log (block_reads lets.items)) taken ≡ x →
          change_since (first_versions before) (versions_in (first_versions before) log (block_reads lets.items)) taken ≡ x
      known taken x h =
          subst (λ begun. change_since (first_of begun).versions (versions_in (first_versions before) log (block_reads lets.items)) taken ≡ x) read.kept.start h

      pub commit_done : HasSizes new → CommitTurn s c (versions_in (first_versions before) log (block_reads lets.items)) list end new between after (Ok tt) →
          Did leaf input script s c item old new before after snaps snaps Done [] []
      commit_done sizes h = committed_did end new after h.0 list values room stands due_is sizes h.1 (known h.0 None h.2)

      pub commit_refused : (why : CommitRefused) (result : Result Told LACK) → CommitTurn s c (versions_in (first_versions before) log (block_reads lets.items)) list end new between after (Err why) →
          TellsRefusedCommit s c why result → DidItem leaf input script s c item old new before after snaps snaps result
      commit_refused (CHANGED name seen found) (Err lack) h t = change_lacks end new after h.0 list values room stands due_is h.1
      commit_refused (CHANGED name seen found) (Ok told) h t =
          as_told (Did leaf input script s c item old new before after snaps snaps) s c (Changed name seen found) told t
          (changed_did end new after h.0 list values room stands due_is name seen found h.1
          (known h.0 (Some (record { name = name; seen = seen; found = found })) h.2))
      commit_refused COMMIT_NO_MEMORY result h t =
          subst (DidItem leaf input script s c item old new before after snaps snaps) (sym t.1) (commit_lacks end new after h.0 list values room stands due_is h.1)

-- a read for which memory ran out, before it or behind it
pub read_lacks : (leaf : ℕ) (input : Input) (script : Script) (s c : ℕ) (lets : Vec BlockLet Global) (old new : Worker) (before after : PASS) (snaps : Kept) (reads : List (List ℕ)) (lack : LACK) →
    KeptStand old snaps → BlockTurn s c reads old new before after (Err lack) →
    Did leaf input script s c (COMMAND (ATOMIC lets)) old new before after snaps snaps NO_MEMORY (prefix s c ++ refusal_text NO_MEMORY) []
read_lacks leaf input script s c lets old new before after snaps reads lack stood (log, inl t) =
    block_lacks leaf input script s c lets old before snaps stood new after log t new after (through_none after) (keeps_itself new) (omega arith)
read_lacks leaf input script s c lets old new before after snaps reads lack stood (log, inr t) =
    block_unread leaf input script s c lets old before snaps stood new after (not_read t)
