-- The words of a table in the end hold the batch of its sessions.
-- 1. The seat that is given back saw all relations of the batch, and the words hold all that it has seen, so these
--    relations stand in them, with the values that they have in the worker.
-- 2. As many nodes are stored as the seat counted at first and the sessions made.
-- 3. A full table was counted as a miss, and then the seat saw every place taken.
use Rattle.std.proofs.Common.{◌≡◌, ◌≢◌, ◌<◌, ◌+◌, ◌∙◌, ℕ, List, [], ◌∷◌, Option, Some, None, refl, sym, ap, subst, arith}
use Rattle.std.specs.Prelude.{IsSome, unwrap_or}
use Rattle.std.specs.List.{AllByRecursion}
use Rattle.std.proofs.lemmas.List.Elements.{All-head, All-tail}
use Rattle.std.proofs.lemmas.Bool.{false≢true}
use Rattle.rel_model.specs.declared.Rel.{Rel}
use Rattle.rel_model.specs.Relation.{Relation}
use Rattle.run_model.specs.declared.event.Event.{Event}
use Rattle.run_model.specs.declared.outcome.Outcome.{Outcome}
use Rattle.run_model.specs.declared.files.Loaded.{Loaded}
use Rattle.run_model.specs.Inputs.{AreReadings}
use Rattle.run_model.specs.Sessions.{rel_of}
use Rattle.run_model.specs.Carried.{Carried, First, carried_from, valued}
use Rattle.run_model.specs.Versions.{noted}
use Rattle.run_model.specs.Stored.{FillsWhereFull, AreInWords, LiveIn}
use Rattle.rel_model.specs.Words.{Extends, IsFull}
use Rattle.rel_model.specs.Equations.{node_words}
use Rattle.rel_model.specs.Trees.{bottom_height}
use Rattle.rel_model.specs.Views.{Table, View, IsOf, IsClosed}
use Rattle.rel_model.specs.Quads.{Keeper}
use Rattle.rel_model.specs.Worker.{Worker, Stands, set_of}
use Rattle.rel_model.specs.Roots.{relation_in}
use Rattle.rel_model.proofs.Rooting.{relation_in-stays, one_root}
use Rattle.fork_quads.specs.Crew.{worker_of}
use Rattle.fork_quads.proofs.Crewing.{house_of-injective}
use Rattle.rv_workspace.specs.Books.{HistoryStands, EventStands, AllNamesStand}
use Rattle.rv_runs.specs.Past.{outcomes_of}
use Rattle.rv_runs.specs.Parts.{CameToEnd, MissedWhereFull}
use Rattle.rv_runs.proofs.Telling.{scripts_by}
use Rattle.relview.specs.declared.over_table.OverTable.{OverTable}
use Rattle.relview.specs.OverTable.{AllNamed, RanOver}
use Rattle.relview.proofs.Standing.{left_names_stand}

-- ---- full tables
-- taken places stay taken
full_stays : (old new : List ℕ) → Extends old new → IsFull old → IsFull new
full_stays old new x f n a b = λ z. f n a (let e = x.same_length in omega arith) (sym (x.kept n (f n a (let e = x.same_length in omega arith))) ∙ z)

-- a full table among the outcomes of a session was missed, and then all is taken
fills : (os : List Outcome) (misses : ℕ) (words : List ℕ) → (misses ≢ 0 → IsFull words) → MissedWhereFull misses os → FillsWhereFull words os
fills [] misses words f h = tt
fills (o ∷ os) misses words f h = ((λ e. f (some (h.0 e))), fills os misses words f h.1)
  where
    some : 0 < misses → misses ≢ 0
    some r z = absurd (omega (arith, r, z))

-- the same of all sessions
all_fill : (oss : List (List Outcome)) (misses : ℕ) (words : List ℕ) → (misses ≢ 0 → IsFull words) → AllByRecursion (MissedWhereFull misses) oss → AllByRecursion (FillsWhereFull words) oss
all_fill [] misses words f h = tt
all_fill (os ∷ oss) misses words f h = (fills os misses words f h.0, all_fill oss misses words f h.1)

-- ---- stored relations
-- a relation that stands has its set
set_stands : (o : Option Relation) → IsSome o → o ≡ Some (unwrap_or o (record { rows = 0; cols = 0; pairs = [] }))
set_stands (Some r) h = refl
set_stands None h = absurd (false≢true h)

-- one that is found stands
found_stands : (o : Option Relation) (r : Relation) → o ≡ Some r → IsSome o
found_stands o r e = subst IsSome (sym e) refl

module _ (w : Worker) (words : List ℕ) (found : (rel : Rel) → Stands w rel → relation_in words rel ≡ w.relation rel) where
  -- relations that stand in a worker stand in words where each of them is found
  rels_in : (rels : List Rel) → AllByRecursion (Stands w) rels → AllByRecursion (λ rel. relation_in words rel ≡ Some (set_of w rel)) rels
  rels_in [] h = tt
  rels_in (rel ∷ rels) h = (found rel h.0 ∙ set_stands (w.relation rel) h.0, rels_in rels h.1)

  -- so do those of events
  events_in : (es : List Event) → HistoryStands w es → AreInWords words (set_of w) es
  events_in [] h = tt
  events_in (e ∷ es) h = (rels_in (rel_of e.act) (All-head (EventStands w) e es h), events_in es (All-tail (EventStands w) e es h))

  -- and those of names
  names_in : (names : Carried) → AllNamesStand w names → LiveIn words names (valued (set_of w) names)
  names_in [] h = tt
  names_in (entry ∷ names) h = (refl, found entry.1 h.0 ∙ set_stands (w.relation entry.1) h.0, names_in names h.1)

-- ---- the words
-- the seat that is given back is of the table that was made
pub of_table : (table : Table) (seat last : View) (w : Keeper) → (worker_of w).house ≡ (worker_of (record { table = table; view = seat; misses = seat.refused })).house
    → IsOf last w.table → IsOf last table
of_table table seat last w house of = subst (λ t. IsOf last t) (house_of-injective w.table table house) of

-- as many seats as were made are there to be closed
pub whole_table : (table : Table) (seat last : View) (w : Keeper) → seat.spare + 1 ≡ table.seats → (worker_of w).spare ≡ (worker_of (record { table = table; view = seat; misses = seat.refused })).spare
    → last ≡ w.view → last.spare + 1 ≡ table.seats
whole_table table seat last w seats spare view = ap (λ v. v.spare + 1) view ∙ ap (λ n. n + 1) spare ∙ seats

-- names whose relations stand in the words of a seat stand in its worker
pub named_stand : (table : Table) (seat : View) (names : Carried) → AllNamed seat.words names → AllNamesStand (worker_of (record { table = table; view = seat; misses = seat.refused })) names
named_stand table seat [] h = tt
named_stand table seat (entry ∷ names) h = (h.0, named_stand table seat names h.1)

-- a batch over a table, whose seat was given back and closed
pub ran_over : (bits : ℕ) (table : Table) (seat last : View) (w : Keeper) (scripts : List (List ℕ)) (number : ℕ) (files : List Loaded) (turns : ℕ) (first : First) (ran : OverTable)
    → table.bits ≡ bits
    → CameToEnd bottom_height scripts number files turns first (worker_of (record { table = table; view = seat; misses = seat.refused })) (worker_of w)
    ran.events.items ran.told.items ran.names (noted ran.versions)
    → last ≡ w.view → IsOf last table → (w.misses ≢ 0 → IsFull last.words) → IsClosed table.bits last ran.words.items
    → RanOver bits scripts number files turns first seat ran
ran_over bits table seat last w scripts number files turns first ran size came view of full closed =
    let words = ran.words.items in
    let all = worker_of w in
    let c = subst (λ b. IsClosed b last words) size closed in
    let nodes = node_words bits words in
    let distinct = c.sound.nodes.distinct in
    let seen : relation_in last.words ≡ relation_in w.view.words = ap (λ v. relation_in v.words) view in
    let found : (rel : Rel) → Stands all rel → relation_in nodes rel ≡ all.relation rel =
    λ rel s. let here = ap (λ f. f rel) seen in relation_in-stays last.words nodes rel c.holds of.canonical distinct (subst IsSome (sym here) s) ∙ here in
    let left = carried_from first.names ran.events.items in
    record {
      past = record { readings = came.readings; first = first; means = set_of all; log = ran.events.items; parts = came.parts };
      first_is = refl;
      log_is = refl;
      read = subst (λ bytes. AreReadings bytes came.readings) (sym (scripts_by scripts ran.told.items came.parts came.are)) came.read;
      promises = came.promises;
      numbers = came.numbers;
      told = came.are;
      kept = λ rel r e. ap (λ o. unwrap_or o (record { rows = 0; cols = 0; pairs = [] })) (came.holds.same rel (found_stands (relation_in seat.words rel) r e) ∙ e);
      held = record {
        sound = c.sound;
        one_root = one_root nodes distinct;
        in_words = events_in all nodes found ran.events.items came.stand;
        room = omega (arith, c.counted, ap (λ v. v.made) view, came.made);
        full = all_fill (outcomes_of came.parts) w.misses nodes (λ m. full_stays last.words nodes c.holds (full m)) came.missed;
      };
      live = subst (λ names. LiveIn nodes names (valued (set_of all) left)) (sym came.names_are)
          (names_in all nodes found left (left_names_stand all first.names ran.events.items came.first_stand came.stand));
      versions_are = came.versions_are;
    }
