-- A turn of a command, from what the book and its call say.
use Rattle.std.proofs.Common.{◌≡◌, ◌∙◌, ℕ, false, List, [], ◌∷◌, ◌++◌, append-nil, length, drop, Result, Ok, Err, Option, refl, sym, ap, subst, arith, ◌+◌}
use Rattle.std.specs.Prelude.{OnOk, OnErr, IfOk}
use Rattle.rel_model.specs.declared.NoMemory.{NoMemory}
use Rattle.rel_model.specs.declared.Rel.{Rel}
use Rattle.rel_model.specs.Seats.{Learns, Stays}
use Rattle.rel_model.specs.Worker.{Worker}
use Rattle.run_model.specs.declared.event.Event.{Event}
use Rattle.run_model.specs.Carried.{First, carried_from}
use Rattle.run_model.specs.Turns.{BeginsLog}
use Rattle.turn_book.specs.Views.{View as PASS, with_turn, with_log}
use Rattle.rv_workspace.specs.Starts.{start_of, first_of}
use Rattle.rv_workspace.proofs.Starting.{first_of-start_of}
use Rattle.rv_workspace.specs.declared.reading.View.{View}
use Rattle.rv_workspace.specs.Books.{HistoryStands, AllNamesStand}
use Rattle.rv_workspace.specs.Entering.{read_of}
use Rattle.rv_workspace.specs.Picking.{picked}
use Rattle.rv_workspace.proofs.Keeping.{held_stands}
use Rattle.rv_workspace.proofs.Replaying.{history_stands, all_names_stand}
use Rattle.run_model.specs.Versions.{Versions, noted, version}
use Rattle.run_model.proofs.Places.{version-append}
use Rattle.rv_workspace.specs.declared.refused.CommitRefused.{CommitRefused}
use Rattle.rv_workspace.specs.Committing.{commit_entries}
use Rattle.rv_sessions.specs.Standing.{first_names}
use Rattle.rv_sessions.specs.Turning.{TookTurn, ReadTurn, PutTurn, versions_in}

-- what stands in an archive stands where that was learnt
pub learnt : (archive mine new : Worker) (log : List Event) → HistoryStands archive log → Learns mine archive new → HistoryStands new log
learnt archive mine new log h l = history_stands archive new (λ r s. held_stands archive new r l.other_holds s) log h

-- a book began with what its passes know
pub first_is : (first : First) (before : PASS) → start_of first ≡ before.start → first ≡ first_of before.start
first_is first before e = sym (first_of-start_of first) ∙ ap first_of e

-- its first names, where they stand in the archive, stand where that was learnt
pub first_learnt : (archive mine new : Worker) (first : First) (before : PASS) → start_of first ≡ before.start → AllNamesStand archive first.names →
    Learns mine archive new → AllNamesStand new (first_names before)
first_learnt archive mine new first before e h l =
    subst (λ (f : First). AllNamesStand new f.names) (first_is first before e)
    (all_names_stand archive new (λ r s. held_stands archive new r l.other_holds s) first.names h)

-- and it goes back with the same
pub start_back : (log : List Event) (old new : First) (mid before : PASS) → mid ≡ with_turn log before → start_of old ≡ before.start → new ≡ old →
    start_of new ≡ mid.start
start_back log old new mid before m e f = ap start_of f ∙ e ∙ sym (ap (λ p. p.start) m)

-- behind a list stands what was added to it
pub drop-append : (xs ys : List Event) → drop (length xs) (xs ++ ys) ≡ ys
drop-append [] ys = refl
drop-append (x ∷ xs) ys = drop-append xs ys

-- a log that goes back begins with the one that was taken
pub begins_back : (log history puts : List Event) (mid before : PASS) → mid ≡ with_turn log before → history ≡ log ++ puts →
    BeginsLog mid.seen history
begins_back log history puts mid before m e = (puts, e ∙ ap (λ xs. xs ++ puts) (sym (ap (λ p. p.seen) m)))

-- a pass that took a turn and gave it back
pub took : (old new : Worker) (before mid after : PASS) (log history puts : List Event) → before.turn ≡ false →
    mid ≡ with_turn log before → BeginsLog before.seen log → after ≡ with_log history mid → history ≡ log ++ puts →
    HistoryStands new log → AllNamesStand new (first_names before) → Stays old new → TookTurn old new before after log puts
took old new before mid after log history puts idle m b a e h f s =
    let all : after ≡ with_log (log ++ puts) (with_turn log before) =
    a ∙ ap (λ z. with_log z mid) e ∙ ap (with_log (log ++ puts)) m in
    subst (λ p. TookTurn old new before p log puts) (sym all)
    (record {
      begins = b;
      seen = refl;
      mine = ap (λ z. before.mine ++ z) (drop-append log puts);
      kept = record { book = refl; house = refl; start = refl; joined = refl; spare = refl; turn = sym idle };
      stand = h;
      first_stand = f;
      stays = s;
    })

-- a history that stays is what was there with nothing behind it
pub with_nothing : (log history : List Event) → history ≡ log → history ≡ log ++ []
with_nothing log history e = e ∙ sym (append-nil log)

-- ---- a read
pub read_begins : (s c : ℕ) (result : Result View NoMemory) (log history : List Event) (mid before : PASS) →
    mid ≡ with_turn log before → OnOk result (history ≡ log ++ read_of s c ∷ []) → OnErr result (history ≡ log) →
    BeginsLog mid.seen history
read_begins s c (Ok view) log history mid before m e d = begins_back log history (read_of s c ∷ []) mid before m e
read_begins s c (Err refused) log history mid before m e d = begins_back log history [] mid before m (with_nothing log history d)

pub read_took : (s c : ℕ) (wanted : Option (List (List ℕ))) (old new : Worker) (before mid after : PASS)
    (log history : List Event) (result : Result View NoMemory) (first : First) → first ≡ first_of before.start → before.turn ≡ false →
    mid ≡ with_turn log before → BeginsLog before.seen log → after ≡ with_log history mid →
    OnOk result (history ≡ log ++ read_of s c ∷ []) → OnErr result (history ≡ log) →
    IfOk result (λ v. v.names.items ≡ picked wanted (carried_from first.names log)) →
    HistoryStands new log → AllNamesStand new (first_names before) → Stays old new → ReadTurn s c wanted old new before after result
read_took s c wanted old new before mid after log history (Ok view) first is idle m b a e d n h f t =
    (log, took old new before mid after log history (read_of s c ∷ []) idle m b a e h f t, n ∙ ap (λ (x : First). picked wanted (carried_from x.names log)) is)
read_took s c wanted old new before mid after log history (Err refused) first is idle m b a e d n h f t =
    (log, took old new before mid after log history [] idle m b a (with_nothing log history d) h f t)

-- ---- assignments
pub put_begins : (puts : List Event) (result : Result (Unit {0}) NoMemory) (log history : List Event)
    (mid before : PASS) → mid ≡ with_turn log before → OnOk result (history ≡ log ++ puts) →
    OnErr result (history ≡ log) → BeginsLog mid.seen history
put_begins puts (Ok done) log history mid before m e d = begins_back log history puts mid before m e
put_begins puts (Err refused) log history mid before m e d =
    begins_back log history [] mid before m (with_nothing log history d)

pub put_took : (puts : List Event) (old new : Worker) (before mid after : PASS)
    (log history : List Event) (result : Result (Unit {0}) NoMemory) → before.turn ≡ false →
    mid ≡ with_turn log before → BeginsLog before.seen log → after ≡ with_log history mid →
    OnOk result (history ≡ log ++ puts) → OnErr result (history ≡ log) →
    HistoryStands new log → AllNamesStand new (first_names before) → Stays old new → PutTurn puts old new before after result
put_took puts old new before mid after log history (Ok done) idle m b a e d h f t =
    (log, took old new before mid after log history puts idle m b a e h f t)
put_took puts old new before mid after log history (Err refused) idle m b a e d h f t =
    (log, took old new before mid after log history [] idle m b a (with_nothing log history d) h f t)

-- ---- the read of a block
-- a read changes no version
version-read : (s c : ℕ) (name : List ℕ) (log : List Event) → version name (log ++ read_of s c ∷ []) ≡ version name log
version-read s c name log = version-append name log (read_of s c ∷ []) ∙ none_more (version name log)
  where
    none_more : (n : ℕ) → n + 0 ≡ n
    none_more n = omega arith

pub versions-read : (s c : ℕ) (first now : Versions) (log history : List Event) (names : List (List ℕ)) → now ≡ first → history ≡ log ++ read_of s c ∷ [] →
    versions_in now history names ≡ versions_in first log names
versions-read s c first now log history [] f e = refl
versions-read s c first now log history (n ∷ ns) f e =
    let v = ap (λ (m : Versions). noted m n + version n history) f ∙ ap (λ k. noted first n + k) (ap (version n) e ∙ version-read s c n log) in
    let i = versions-read s c first now log history ns f e in λ j. (n, v j) ∷ i j

-- ---- a commit
pub commit_begins : (s c : ℕ) (list : List (List ℕ × Rel)) (result : Result (Unit {0}) CommitRefused) (log history : List Event) (mid before : PASS) →
    mid ≡ with_turn log before → history ≡ log ++ commit_entries s c list result → BeginsLog mid.seen history
commit_begins s c list result log history mid before m e = begins_back log history (commit_entries s c list result) mid before m e
