-- From works that were joined to the end of their batch.
-- 1. Works whose sessions all told something are its sessions, with the scripts in order.
-- 2. Their passes make up the closed log, so each has its account, and tells its promise of the batch.
-- 3. The worker that took them all in holds all relations, and counts what they made and missed.
use Rattle.std.specs.List.{AllByRecursion}
use Rattle.std.specs.Prelude.{IfSome}
use Rattle.std.proofs.Common.{◌≡◌, ◌<◌, ◌+◌, ◌-◌, ◌++◌, ℕ, suc, List, [], ◌∷◌, length, Some, refl, sym, ap, subst, ◌∙◌, map, arith, get_or, All, append_assoc}
use Rattle.std.proofs.lemmas.List.{get_or-append-add, length-map}
use Rattle.rel_model.specs.Worker.{Worker}
use Rattle.rel_model.specs.Seats.{Holds, SplitsWorker, JoinsWorker}
use Rattle.run_model.specs.declared.event.Event.{Event}
use Rattle.run_model.specs.declared.outcome.Outcome.{Outcome}
use Rattle.run_model.specs.declared.outcome.Outcome.TheVariants.{Parse, Ill}
use Rattle.run_model.specs.Inputs.{Input, Reading, NoScript, Flawed, Runs, AreReadings}
use Rattle.run_model.specs.Versions.{version_behind}
use Rattle.run_model.specs.Carried.{Carried, First, carried_from}
use Rattle.run_model.specs.Turns.{BeginsLog}
use Rattle.run_model.proofs.Whole.{from_zero}
use Rattle.turn_book.specs.Entries.{Entry}
use Rattle.turn_book.specs.Logs.{Begins, MakeUp}
use Rattle.turn_book.specs.Views.{Book, View, lists_of}
use Rattle.turn_book.specs.Joined.{JoinsAll, all_lists}
use Rattle.rv_workspace.specs.Books.{HistoryStands, AllNamesStand, Held, IsBook, names_of, versions_of}
use Rattle.rv_workspace.specs.Starts.{start_of, first_of}
use Rattle.rv_workspace.proofs.Keeping.{held_stands}
use Rattle.rv_workspace.proofs.Replaying.{history_stands, all_names_stand}
use Rattle.rv_workspace.proofs.Starting.{first_of-start_of}
use Rattle.run_model.specs.declared.files.Loaded.{Loaded}
use Rattle.rv_sessions.specs.declared.transcript.Transcript.{Transcript}
use Rattle.rv_sessions.specs.Telling.{input_of}
use Rattle.rv_sessions.specs.Running.{one_for_nodes, nodes_in, RoseBy}
use Rattle.rv_sessions.specs.Sessions.{DidReading}
use Rattle.rv_runs.specs.declared.work.Work.{Work}
use Rattle.rv_runs.specs.Past.{outcomes_of, made_in, IsWithin}
use Rattle.rv_runs.specs.Parts.{MissedWhereFull, AreParts, CameToEnd}
use Rattle.rv_runs.specs.Works.{HasRun, IsAbsorbed, bytes_of, CanJoin, RanWhereTold, Numbered, TakesAll, SplitsWorkers, made_by, pass_of, told_of}
use Rattle.rv_runs.proofs.Accounts.{Session, part_of_session, Accounts, readings_of, are_readings, promises}
use Rattle.rv_runs.proofs.Joining.{length_more, holds_on, absorbed_on, joins_first, one_list_each}
use Rattle.rv_runs.proofs.Sharing.{AllHaveRun, mine_of, within, accounts}

-- ---- works as sessions
module _ {E : Type 0} (worker : E → Worker) (first_number : ℕ) (scripts : List (List ℕ)) where
  abbrev session_of : Work E → Transcript → Session
  session_of w t = record { bytes = bytes_of first_number scripts w.number; own = worker w.seat.engine; pass = w.seat.pass; told = t }

  abbrev pub sessions_of : List (Work E) → List Transcript → List Session
  sessions_of [] ts = []
  sessions_of (w ∷ ws) [] = []
  sessions_of (w ∷ ws) (t ∷ ts) = session_of w t ∷ sessions_of ws ts

  -- all told something
  abbrev pub AllTold : List (Work E) → List Transcript → Type 0
  AllTold ws ts = map (λ t. Some t) ts ≡ map told_of ws

  first_told : (w : Work E) (ws : List (Work E)) (t : Transcript) (ts : List Transcript) → AllTold (w ∷ ws) (t ∷ ts) → w.told ≡ Some t
  first_told w ws t ts e = cc

  later_told : (w : Work E) (ws : List (Work E)) (t : Transcript) (ts : List Transcript) → AllTold (w ∷ ws) (t ∷ ts) → AllTold ws ts
  later_told w ws t ts e = cc

  too_few : (w : Work E) (ws : List (Work E)) → AllTold (w ∷ ws) [] → ⊥
  too_few w ws e = cc

  too_many : (t : Transcript) (ts : List Transcript) → AllTold [] (t ∷ ts) → ⊥
  too_many t ts e = cc

  later_numbers : (s : ℕ) (w : Work E) (ws : List (Work E)) → Numbered s (w ∷ ws) → Numbered (s + 1) ws
  later_numbers s w ws h k d l = h (suc k) d (omega arith) ∙ later k
    where
      later : (k : ℕ) → suc k + s ≡ k + (s + 1)
      later k = omega arith

  have_run : (leaf : ℕ) (given : Input) (s : ℕ) (ws : List (Work E)) (ts : List Transcript) → AllTold ws ts → All (RanWhereTold worker leaf given first_number scripts) ws → Numbered s ws → AllHaveRun leaf given s (sessions_of ws ts)
  have_run leaf given s [] ts e r n = tt
  have_run leaf given s (w ∷ ws) [] e r n = absurd (too_few w ws e)
  have_run leaf given s (w ∷ ws) (t ∷ ts) e r n = (
    (let here = subst (λ o. IfSome o (HasRun leaf given w.number (bytes_of first_number scripts w.number) (worker w.seat.engine) w.seat.pass)) (first_told w ws t ts e) (r 0 w (omega arith)) in
        let at : w.number ≡ 0 + s = n 0 w (omega arith) in
        let number : w.number ≡ s = omega arith in
        subst (λ m. HasRun leaf given m (bytes_of first_number scripts w.number) (worker w.seat.engine) w.seat.pass t) number here),
    have_run leaf given (s + 1) ws ts (later_told w ws t ts e) (λ k d l. r (suc k) d (omega arith)) (later_numbers s w ws n),
  )

  have_begun_with : (first : First) (ws : List (Work E)) (ts : List Transcript) → All (λ work. first_of work.seat.pass.start ≡ first) ws → AllByRecursion (λ (p : Session). first_of p.pass.start ≡ first) (sessions_of ws ts)
  have_begun_with first [] ts h = tt
  have_begun_with first (w ∷ ws) [] h = tt
  have_begun_with first (w ∷ ws) (t ∷ ts) h = (h 0 w (omega arith), have_begun_with first ws ts (λ k d l. h (suc k) d (omega arith)))

  have_holds : (all : Worker) (ws : List (Work E)) (ts : List Transcript) → All (λ work. IsAbsorbed (worker work.seat.engine) all) ws → AllByRecursion (λ (p : Session). IsAbsorbed p.own all) (sessions_of ws ts)
  have_holds all [] ts h = tt
  have_holds all (w ∷ ws) [] h = tt
  have_holds all (w ∷ ws) (t ∷ ts) h = (h 0 w (omega arith), have_holds all ws ts (λ k d l. h (suc k) d (omega arith)))

  have_begun : (log : List Event) (ws : List (Work E)) (ts : List Transcript) → All (λ (p : View). Begins p.seen log) (map pass_of ws) → AllByRecursion (λ (p : Session). BeginsLog p.pass.seen log) (sessions_of ws ts)
  have_begun log [] ts h = tt
  have_begun log (w ∷ ws) [] h = tt
  have_begun log (w ∷ ws) (t ∷ ts) h = (h 0 w.seat.pass (omega arith), have_begun log ws ts (λ k d l. h (suc k) d (omega arith)))

  same_lists : (ws : List (Work E)) (ts : List Transcript) → AllTold ws ts → map mine_of (sessions_of ws ts) ≡ map (λ work. work.seat.pass.mine) ws
  same_lists [] ts e = refl
  same_lists (w ∷ ws) [] e = absurd (too_few w ws e)
  same_lists (w ∷ ws) (t ∷ ts) e = ap (λ (l : List (List Event)). w.seat.pass.mine ∷ l) (same_lists ws ts (later_told w ws t ts e))

  same_made : (ws : List (Work E)) (ts : List Transcript) → AllTold ws ts → made_in (map part_of_session (sessions_of ws ts)) ≡ made_by worker ws
  same_made [] ts e = refl
  same_made (w ∷ ws) [] e = absurd (too_few w ws e)
  same_made (w ∷ ws) (t ∷ ts) e = ap (λ n. (worker w.seat.engine).made + n) (same_made ws ts (later_told w ws t ts e))

  same_told : (ws : List (Work E)) (ts : List Transcript) → AllTold ws ts → map (λ (p : Session). p.told) (sessions_of ws ts) ≡ ts
  same_told [] [] e = refl
  same_told [] (t ∷ ts) e = absurd (too_many t ts e)
  same_told (w ∷ ws) [] e = absurd (too_few w ws e)
  same_told (w ∷ ws) (t ∷ ts) e = ap (λ (l : List Transcript). t ∷ l) (same_told ws ts (later_told w ws t ts e))

  -- the sessions of works have the bytes of the scripts, in order: by induction, since the number of each work finds
  -- its script
  same_bytes : (pre rest : List (List ℕ)) (ws : List (Work E)) (ts : List Transcript) → scripts ≡ pre ++ rest → AllTold ws ts → Numbered (length pre + first_number) ws → length ws ≡ length rest
      → map (λ (p : Session). p.bytes) (sessions_of ws ts) ≡ rest
  same_bytes pre [] [] ts is e n l = refl
  same_bytes pre (b ∷ rest) [] ts is e n l = absurd (omega arith)
  same_bytes pre [] (w ∷ ws) ts is e n l = absurd (omega arith)
  same_bytes pre (b ∷ rest) (w ∷ ws) [] is e n l = absurd (too_few w ws e)
  same_bytes pre (b ∷ rest) (w ∷ ws) (t ∷ ts) is e n l =
      let number : w.number ≡ 0 + (length pre + first_number) = n 0 w (omega arith) in
      let at : w.number - first_number ≡ length pre + 0 = omega arith in
      let long = length_more pre b in
      let here : bytes_of first_number scripts w.number ≡ b = ap (λ k. get_or scripts k []) at ∙ (ap (λ (l : List (List ℕ)). get_or l (length pre + 0) []) is ∙ get_or-append-add pre (b ∷ rest) 0 []) in
      (λ i. here i ∷ same_bytes (pre ++ b ∷ []) rest ws ts (is ∙ sym (append_assoc pre (b ∷ []) rest)) (later_told w ws t ts e)
      (λ k d m. later_numbers (length pre + first_number) w ws n k d m ∙ next k long) (omega arith) i)
    where
      next : (k : ℕ) → length (pre ++ b ∷ []) ≡ length pre + 1 → k + (length pre + first_number + 1) ≡ k + (length (pre ++ b ∷ []) + first_number)
      next k e = omega arith

-- sessions are parts, by their scripts and transcripts
are_parts : (ones : List Session) → AreParts (map (λ one. one.bytes) ones) (map (λ one. one.told) ones) (map part_of_session ones)
are_parts [] = tt
are_parts (one ∷ ones) = ((one.own.made, refl), are_parts ones)

-- ---- misses
nodes_miss : (m : ℕ) (os : List Outcome) → (0 < nodes_in os → 0 < m) → MissedWhereFull m os
nodes_miss m [] h = tt
nodes_miss m (o ∷ os) h = (
  λ e. h (let one : one_for_nodes o ≡ 1 = ap one_for_nodes e in omega arith),
  nodes_miss m os (λ l. h (omega arith)),
)

rose_some : (count before now : ℕ) → before ≡ 0 → RoseBy count before now → 0 < count → 0 < now
rose_some count before now z r l = omega arith

fault_misses : (m : ℕ) (os : List Outcome) (o : Outcome) → os ≡ o ∷ [] → one_for_nodes o ≡ 0 → MissedWhereFull m os
fault_misses m os o e z = nodes_miss m os (λ l. let n : nodes_in os ≡ nodes_in (o ∷ []) = ap nodes_in e in absurd (omega arith))

did_miss : (leaf : ℕ) (given : Input) (s : ℕ) (reading : Reading) (old new : Worker) (before after : View) (told : Transcript)
    → DidReading leaf given s reading old new before after told → old.misses ≡ 0 → (m : ℕ) → (0 < new.misses → 0 < m) → MissedWhereFull m told.outcomes.items
did_miss leaf given s (NoScript fault) old new before after told d z m h = fault_misses m told.outcomes.items (Parse fault) d.outcomes refl
did_miss leaf given s (Flawed fault) old new before after told d z m h = fault_misses m told.outcomes.items (Ill fault) d.outcomes refl
did_miss leaf given s (Runs script) old new before after told d z m h =
    nodes_miss m told.outcomes.items (λ l. h (rose_some (nodes_in told.outcomes.items) old.misses new.misses z d.missed l))

all_missed : (leaf : ℕ) (given : Input) (first : First) (all : Worker) (log : List Event) (s : ℕ) (ones : List Session) → Accounts leaf given first all log s ones →
    AllByRecursion (MissedWhereFull all.misses) (outcomes_of (map part_of_session ones))
all_missed leaf given first all log s [] h = tt
all_missed leaf given first all log s (p ∷ ps) h = (
  (let r = h.0.has_run in did_miss leaf given s r.ran.reading r.first p.own r.before p.pass p.told r.ran.did r.no_misses all.misses h.0.absorbed.missed),
  all_missed leaf given first all log (s + 1) ps h.1,
)

-- ---- the book in the end
-- a book that began so left this
pub record IsLeft {E : Type 0} (worker : E → Worker) (first : First) (archive : E) (log : List Event) (names : Carried) (versions : List ℕ → ℕ) : Type 0 where
  pub stand : HistoryStands (worker archive) log
  pub spare : (worker archive).spare ≡ 1
  pub made : (worker archive).made ≡ 0
  pub names_are : names ≡ carried_from first.names log
  pub versions_are : (name : List ℕ) → versions name ≡ version_behind first.versions log name

-- a book leaves its archive and its log, and the names and versions that this log leaves of the first ones
pub book_left : {E : Type 0} (worker : E → Worker) (first : First) (book : Held E) (archive : E) (log : List Event) (names : Carried) (versions : List ℕ → ℕ) → IsBook worker book
    → start_of book.first ≡ start_of first → archive ≡ book.archive → log ≡ book.history → names ≡ names_of book → ((name : List ℕ) → versions name ≡ versions_of book name)
    → IsLeft worker first archive log names versions
book_left worker first book archive log names versions b s a l n v =
    let same : book.first ≡ first = sym (first_of-start_of book.first) ∙ (ap first_of s ∙ first_of-start_of first) in
    record {
      stand = subst (λ (x : _). HistoryStands (worker x) log) (sym a) (subst (λ (h : List Event). HistoryStands (worker book.archive) h) (sym l) b.stand);
      spare = ap (λ x. (worker x).spare) a ∙ b.spare;
      made = ap (λ x. (worker x).made) a ∙ b.made;
      names_are = n ∙ (λ i. carried_from (same i).names (sym l i));
      versions_are = λ name. v name ∙ (λ i. version_behind (same i).versions (sym l i) name);
    }

-- ---- the batch
module _ {E : Type 0} (worker : E → Worker) (leaf : ℕ) (scripts : List (List ℕ)) (number : ℕ) (files : List Loaded) (turns : ℕ) (first : First) where
  -- works that were joined, and the log that was closed
  pub record Gathered (book : Book) (works : List (Work E)) (told : List Transcript) (mid pass : View) (log : List Event) : Type 0 where
    pub ran : All (RanWhereTold worker leaf (input_of files turns) number scripts) works
    pub joins : All (CanJoin worker book) works
    pub numbers : Numbered number works
    pub starts : All (λ work. first_of work.seat.pass.start ≡ first) works
    pub long : length works ≡ length scripts
    pub all_told : map (λ t. Some t) told ≡ map told_of works
    pub no_mine : mid.mine ≡ []
    pub no_joined : mid.joined ≡ []
    pub joined : JoinsAll (map pass_of works) mid pass
    pub seen : log ≡ pass.seen
    pub makes : MakeUp (lists_of pass) log

  -- workers that were split off and taken in again
  pub record Returned (works : List (Work E)) (old one early late archived kept new : Worker) : Type 0 where
    pub archive_split : SplitsWorker 1 old one archived
    pub splits : SplitsWorkers (length works) one early
    pub takes : TakesAll worker works early late
    pub archive_joins : JoinsWorker late kept new
    pub first_stood : AllNamesStand old first.names

  module _ (book : Book) (works : List (Work E)) (told : List Transcript) (mid pass : View) (log : List Event) (names : Carried) (versions : List ℕ → ℕ)
      (old one early late archived new : Worker) (archive : E) (g : Gathered book works told mid pass log) (r : Returned works old one early late archived (worker archive) new)
      (left : IsLeft worker first archive log names versions) where
    abbrev ones : List Session
    ones = sessions_of worker number scripts works told

    runs : AllHaveRun leaf (input_of files turns) number ones
    runs = have_run worker number scripts leaf (input_of files turns) number works told g.all_told g.ran g.numbers

    make_up : MakeUp ([] ∷ map mine_of ones) log
    make_up =
        let joined : pass.joined ≡ map mine_of ones =
        g.joined.joined ∙ (ap (λ (l : List (List Entry)). l ++ all_lists (map pass_of works)) g.no_joined ∙ (one_list_each worker book works g.joins ∙ sym (same_lists worker number scripts works told g.all_told))) in
        let mine : pass.mine ≡ [] = g.joined.mine ∙ g.no_mine in
        subst (λ (ls : List (List Entry)). MakeUp ls log) (λ i. mine i ∷ joined i) g.makes

    absorbed : (w : Worker) → IsAbsorbed w late → IsAbsorbed w new
    absorbed w a = absorbed_on w late new a (joins_first late (worker archive) new r.archive_joins)

    all_accounts : Accounts leaf (input_of files turns) first new log number ones
    all_accounts =
        accounts leaf (input_of files turns) number ones log runs make_up first new
        (have_begun_with worker number scripts first works told g.starts)
        (have_holds worker number scripts new works told (λ k d l. absorbed (worker (get_or works k d).seat.engine) (r.takes.each k d l)))
        (have_begun worker number scripts log works told (subst (λ (q : List Event). All (λ (p : View). Begins p.seen q) (map pass_of works)) (sym g.seen) g.joined.each_seen))

    -- what stood before stands, with the same sets
    holds : Holds old new
    holds =
        holds_on old one new r.archive_split.holds
        (holds_on one early new r.splits.holds (absorbed early r.takes.own).holds)

    pub came_to : CameToEnd leaf scripts number files turns first old new log told names versions
    came_to =
        let h = all_accounts in
        let bytes = same_bytes worker number scripts [] scripts works told refl g.all_told (subst (λ n. Numbered n works) (sym (from_zero number)) g.numbers) g.long in
        let kept = worker archive in
        record {
          readings = readings_of leaf (input_of files turns) first new log number ones h;
          read = subst (λ (l : List (List ℕ)). AreReadings l (readings_of leaf (input_of files turns) first new log number ones h)) bytes
              (are_readings leaf (input_of files turns) first new log number ones h);
          parts = map part_of_session ones;
          are = subst (λ (l : List (List ℕ)). AreParts l told (map part_of_session ones)) bytes
              (subst (λ (l : List Transcript). AreParts (map (λ one. one.bytes) ones) l (map part_of_session ones)) (same_told worker number scripts works told g.all_told) (are_parts ones));
          promises = promises leaf files turns first new log number ones h;
          numbers = subst (λ n. AllByRecursion (IsWithin number n) log) (sym (length-map ones part_of_session)) (within leaf (input_of files turns) number ones log runs make_up);
          stand = history_stands kept new (λ x s. held_stands kept new x r.archive_joins.other_holds s) log left.stand;
          first_stand = all_names_stand old new (λ x s. held_stands old new x holds s) first.names r.first_stood;
          holds = holds;
          missed = all_missed leaf (input_of files turns) first new log number ones h;
          made = (let a = r.archive_split.made in let b = r.splits.made in let c = r.takes.made in let d = r.archive_joins.made in let e = left.made in
              let m = same_made worker number scripts works told g.all_told in omega arith);
          house = r.archive_joins.house ∙ (r.takes.house ∙ (r.splits.house ∙ r.archive_split.house));
          spare = (let a = r.archive_split.spares in let b = r.splits.spare in let c = r.takes.spare in let d = r.archive_joins.spares in let e = left.spare in omega arith);
          names_are = left.names_are;
          versions_are = left.versions_are;
        }
