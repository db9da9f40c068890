-- One batch more behind those that are over.
-- 1. What its sessions promise is that of a batch that begins with the relations and versions that the last one left:
--    its first names have in its table the values that they had in the words before.
-- 2. What is left of the last batch joins what is left of those before, and the new batch is the last.
-- 3. In the end all are one lawful run, whose words hold it.
use Rattle.std.proofs.Common.{◌≡◌, ◌≤◌, ◌+◌, ◌++◌, ◌∙◌, ℕ, suc, Bool, true, false, cond, List, [], ◌∷◌, length, map, refl, sym, ap, subst, arith, append-nil, length-append}
use Rattle.std.specs.List.{flat_map}
use Rattle.std.proofs.lemmas.List.Concat.{flat_map-append}
use Rattle.rel_model.specs.Trees.{bottom_height}
use Rattle.rel_model.specs.Words.{stored_count}
use Rattle.rel_model.specs.Equations.{node_words}
use Rattle.rel_model.specs.Views.{Table, View, IsFresh}
use Rattle.run_model.specs.declared.event.Event.{Event}
use Rattle.run_model.specs.declared.batch.OldBatch.{OldBatch}
use Rattle.run_model.specs.declared.files.Loaded.{Loaded}
use Rattle.run_model.specs.declared.outcome.Outcome.{Outcome}
use Rattle.run_model.specs.Names.{no_names}
use Rattle.run_model.specs.Due.{Workspace}
use Rattle.run_model.specs.Versions.{changes, noted, version}
use Rattle.run_model.specs.Carried.{Carried, First, valued}
use Rattle.run_model.specs.Inputs.{Reading}
use Rattle.run_model.specs.Stored.{LiveIn, uses_of_live, HoldsRun}
use Rattle.run_model.specs.Batches.{state_left, versions_left}
use Rattle.run_model.specs.Page.{SavedFile, event_line}
use Rattle.run_model.specs.Run.{IsRun}
use Rattle.run_model.specs.Filed.{saved_all}
use Rattle.run_model.proofs.Places.{version-append}
use Rattle.run_model.proofs.Whole.{from_zero}
use Rattle.rv_runs.specs.Past.{scripts_of, outcomes_of, text_of, files_of, Past, batch_of_past, ArePast, parts_of, readings_of, history_of, ends_from, page_of_past}
use Rattle.rv_runs.specs.PastWords.{state_behind, versions_behind, upto_behind, uses_behind, IsHeld, AreHeld}
use Rattle.rv_runs.specs.Pages.{saved_by_session, page_told}
use Rattle.rv_runs.specs.Parts.{AreParts}
use Rattle.rv_runs.proofs.Telling.{text_by, saved_by, outcomes_by, scripts_by, parts_as_many}
use Rattle.rv_runs.proofs.WholeRuns.{whole_runs}
use Rattle.rv_runs.proofs.PastPlaces.{history_at}
use Rattle.rv_runs.proofs.PastWords.{past_append, held_append, upto_of, state_last, versions_last, uses_last, words_hold_runs}
use Rattle.rv_compact.specs.Compacted.{nodes_of}
use Rattle.pair_table.specs.Opened.{IsOpened}
use Rattle.relview.specs.declared.over_table.OverTable.{OverTable}
use Rattle.relview.specs.declared.between.CarriedOn.{CarriedOn}
use Rattle.relview.specs.declared.batches.SoFar.{SoFar}
use Rattle.relview.specs.declared.batches.Finished.{Finished}
use Rattle.relview.specs.OverTable.{RanOver, AllNamed}
use Rattle.relview.specs.Between.{IsCarriedOn}
use Rattle.relview.specs.Batches.{IsSoFar}
use Rattle.relview.specs.Finished.{input_with, IsFinished}
use Rattle.relview.proofs.Telling.{parts_append}
use Rattle.relview.proofs.Carrying.{nodes_are, live_named, live_alike, live_values}

-- ---- a batch that is over
-- by what it promises, on what the one before left
one_past : (bits : ℕ) (scripts : List (List ℕ)) (number : ℕ) (files : List Loaded) (turns : ℕ) (first : First) (seat : View) (ran : OverTable) (state : Workspace) (versions : List ℕ → ℕ)
    → (r : RanOver bits scripts number files turns first seat ran) → 1 ≤ length scripts → LiveIn seat.words first.names state → ((name : List ℕ) → noted first.versions name ≡ versions name)
    → ArePast bottom_height files turns number state versions (r.past ∷ [])
one_past bits scripts number files turns first seat ran state versions r some live counts = (
  r.read,
  r.promises,
  r.numbers,
  (let many = sym (parts_as_many scripts ran.told.items r.past.parts r.told) in omega (arith, many, some)),
  ap (λ f. valued r.past.means f.names) r.first_is ∙ live_values seat.words r.past.means first.names state r.kept live,
  λ name. ap (λ f. noted f.versions name) r.first_is ∙ counts name,
  tt,
)

-- its words hold it over more uses too
held_over : (bits uses more : ℕ) (words : List ℕ) (p : Past) → uses ≤ more → IsHeld bits uses words p → IsHeld bits more words p
held_over bits uses more words p l h =
    let room = h.room in
    record { sound = h.sound; one_root = h.one_root; in_words = h.in_words; room = omega (arith, l, room); full = h.full }

-- the versions that it leaves count its own events behind those before
counted_behind : (bits : ℕ) (scripts : List (List ℕ)) (number : ℕ) (files : List Loaded) (turns : ℕ) (first : First) (seat : View) (ran : OverTable) (done : List Event)
    → (r : RanOver bits scripts number files turns first seat ran) → ((name : List ℕ) → noted first.versions name ≡ version name done)
    → (name : List ℕ) → noted ran.versions name ≡ version name (done ++ ran.events.items)
counted_behind bits scripts number files turns first seat ran done r counts name =
    r.versions_are name ∙ ap (λ f. noted f.versions name + version name r.past.log) r.first_is ∙ ap (λ l. noted first.versions name + version name l) r.log_is
    ∙ ap (λ n. n + version name ran.events.items) (counts name) ∙ sym (version-append name done ran.events.items)

-- a name changes no more often than there are events
pub few_versions : (name : List ℕ) (es : List Event) → version name es ≤ length es
few_versions name [] = omega arith
few_versions name (e ∷ es) = let rest = few_versions name es in one (changes name e.act) rest
  where
    one : (b : Bool) → version name es ≤ length es → cond b 1 0 + version name es ≤ suc (length es)
    one true r = omega (arith, r)
    one false r = omega (arith, r)

-- ---- lists of batches
parts_last : (ps : List Past) (p : Past) → parts_of (ps ++ p ∷ []) ≡ parts_of ps ++ p.parts
parts_last ps p = flat_map-append (λ q. q.parts) ps (p ∷ []) ∙ ap (λ xs. parts_of ps ++ xs) (append-nil p.parts)

history_last : (ps : List Past) (p : Past) → history_of (ps ++ p ∷ []) ≡ history_of ps ++ p.log
history_last ps p = history_at ps p [] ∙ ap (λ xs. history_of ps ++ xs) (append-nil p.log)

ends_last : (count : ℕ) (ps : List Past) (p : Past) → ends_from count (ps ++ p ∷ []) ≡ ends_from count ps ++ (count + length (parts_of ps) + length p.parts) ∷ []
ends_last count [] p = ap (λ n. (n + length p.parts) ∷ []) (none count)
  where
    none : (n : ℕ) → n ≡ n + 0
    none n = omega arith
ends_last count (x ∷ ps) p =
    ap (λ xs. (count + length x.parts) ∷ xs) (ends_last (count + length x.parts) ps p ∙ ap (λ n. ends_from (count + length x.parts) ps ++ (n + length p.parts) ∷ []) (further count x ps))
  where
    further : (count : ℕ) (x : Past) (ps : List Past) → count + length x.parts + length (parts_of ps) ≡ count + length (parts_of (x ∷ ps))
    further count x ps = let long = length-append x.parts (parts_of ps) in omega (arith, long)

-- ---- the first batch
pub first_done : (bits seats : ℕ) (table : Table) (seat : View) (scripts : List (List ℕ)) (files : List Loaded) (turns : ℕ) (ran : OverTable) (so_far : SoFar)
    → IsFresh bits seats (table, seat) → RanOver bits scripts 1 files turns (record { names = []; versions = [] }) seat ran → 1 ≤ length scripts
    → so_far.events.items ≡ ran.events.items → so_far.told.items ≡ ran.told.items → so_far.old.items ≡ [] → so_far.words.items ≡ ran.words.items
    → so_far.names ≡ ran.names → so_far.versions ≡ ran.versions → IsSoFar bits files turns scripts (length scripts ∷ []) so_far
first_done bits seats table seat scripts files turns ran so_far fresh r some events told old words names versions =
    let made = fresh.none_made in
    let held = held_over bits seat.made 0 ran.words.items r.past (omega (arith, made)) r.held in
    record {
      before = [];
      last = r.past;
      are = one_past bits scripts 1 files turns (record { names = []; versions = [] }) seat ran no_names (λ name. 0) r some tt (λ name. refl);
      held = subst (AreHeld bits 0 0 []) (sym old) tt;
      held_last = subst (λ olds. IsHeld bits (uses_behind bits 0 olds) so_far.words.items r.past) (sym old) (subst (λ ws. IsHeld bits 0 ws r.past) (sym words) held);
      live = subst (λ ws. LiveIn (node_words bits ws) so_far.names (state_left (batch_of_past r.past))) (sym words)
          (subst (λ ns. LiveIn (node_words bits ran.words.items) ns (state_left (batch_of_past r.past))) (sym names) r.live);
      events_are = events ∙ sym r.log_is ∙ sym (append-nil r.past.log);
      told_are = subst (λ ts. AreParts scripts ts (parts_of (r.past ∷ []))) (sym told) (subst (AreParts scripts ran.told.items) (sym (append-nil r.past.parts)) r.told);
      versions_are = λ name. ap (λ v. noted v name) versions ∙ r.versions_are name;
      counted = λ name.
          ap (λ v. noted v name) versions ∙ counted_behind bits scripts 1 files turns (record { names = []; versions = [] }) seat ran [] r (λ other. refl) name
          ∙ ap (version name) (sym events);
      ends_are = ap (λ n. n ∷ []) (sym (parts_as_many scripts ran.told.items r.past.parts r.told) ∙ sym (from_zero (length r.past.parts)));
    }

-- ---- one batch more
module _ (bits : ℕ) (files : List Loaded) (turns : ℕ) (scripts : List (List ℕ)) (ends : List ℕ) (so_far : SoFar) (s : IsSoFar bits files turns scripts ends so_far) where
  -- the names stand in the words of the last table
  pub last_named : (live : Carried) → live ≡ so_far.names → AllNamed (nodes_of so_far.words.items) live
  last_named live is =
      let sound = s.held_last.sound in
      subst (λ ws. AllNamed ws live) (sym (nodes_are bits so_far.words.items sound.size))
      (live_named (node_words bits so_far.words.items) live (state_left (batch_of_past s.last))
      (subst (λ ns. LiveIn (node_words bits so_far.words.items) ns (state_left (batch_of_past s.last))) (sym is) s.live))

  -- and in the words for the next one
  pub next_named : (live : Carried) (next : CarriedOn) → live ≡ so_far.names → IsCarriedOn so_far.words.items live next → LiveIn (node_words bits next.words.items) next.names (state_left (batch_of_past s.last))
  next_named live next is c =
      let sound = s.held_last.sound in
      let old = nodes_are bits so_far.words.items sound.size in
      let new = nodes_are bits next.words.items (c.sound bits sound).size in
      let here = subst (λ ns. LiveIn (node_words bits so_far.words.items) ns (state_left (batch_of_past s.last))) (sym is) s.live in
      subst (λ ws. LiveIn ws next.names (state_left (batch_of_past s.last))) new
      (live_alike (nodes_of so_far.words.items) (nodes_of next.words.items) live next.names (state_left (batch_of_past s.last)) c.alike
      (subst (λ ws. LiveIn ws live (state_left (batch_of_past s.last))) (sym old) here))

  -- the new batch begins with what the last one left, so it joins those that are over; and its events, outcomes, table
  -- and names go behind theirs
  pub more_done : (table : Table) (seat : View) (seats number : ℕ) (more : List (List ℕ)) (next : CarriedOn) (ran : OverTable) (old : OldBatch) (new : SoFar)
      → number ≡ 1 + length scripts → 1 ≤ length more → IsCarriedOn so_far.words.items old.live.items next → old.live.items ≡ so_far.names → old.words.items ≡ so_far.words.items
      → old.upto ≡ length so_far.events.items → IsOpened bits next.words.items seats (table, seat)
      → RanOver bits more number files turns (record { names = next.names; versions = so_far.versions }) seat ran
      → new.events.items ≡ so_far.events.items ++ ran.events.items → new.told.items ≡ so_far.told.items ++ ran.told.items → new.old.items ≡ so_far.old.items ++ old ∷ []
      → new.words.items ≡ ran.words.items → new.names ≡ ran.names → new.versions ≡ ran.versions
      → IsSoFar bits files turns (scripts ++ more) (ends ++ (length scripts + length more) ∷ []) new
  more_done table seat seats number more next ran old new is_number some c live words upto opened r events told olds new_words names versions =
      let ps = s.before ++ s.last ∷ [] in
      let p = r.past in
      let first : First = record { names = next.names; versions = so_far.versions } in
      let many = sym (parts_as_many scripts so_far.told.items (parts_of ps) s.told_are) in
      let many_more = sym (parts_as_many more ran.told.items p.parts r.told) in
      let number_is : number ≡ 1 + length (parts_of ps) = is_number ∙ ap (λ n. 1 + n) many in
      let seen = subst (λ ws. LiveIn ws next.names (state_left (batch_of_past s.last))) (sym opened.words_are) (next_named old.live.items next live c) in
      let here = one_past bits more number files turns first seat ran (state_left (batch_of_past s.last)) (versions_left (batch_of_past s.last)) r some seen s.versions_are in
      let behind = subst (λ n. ArePast bottom_height files turns n (state_behind no_names ps) (versions_behind (λ name. 0) ps) (p ∷ [])) number_is
      (subst (λ st. ArePast bottom_height files turns number st (versions_behind (λ name. 0) ps) (p ∷ [])) (sym (state_last no_names s.before s.last))
      (subst (λ vs. ArePast bottom_height files turns number (state_left (batch_of_past s.last)) vs (p ∷ [])) (sym (versions_last (λ name. 0) s.before s.last)) here)) in
      let last = subst (λ ws. IsHeld bits (uses_behind bits 0 so_far.old.items) ws s.last) (sym words) s.held_last in
      let live_last = subst (λ ws. LiveIn (node_words bits ws) old.live.items (state_left (batch_of_past s.last))) (sym words)
      (subst (λ ns. LiveIn (node_words bits so_far.words.items) ns (state_left (batch_of_past s.last))) (sym live) s.live) in
      let log : new.events.items ≡ history_of ps ++ p.log = events ∙ ap (λ xs. xs ++ ran.events.items) s.events_are ∙ ap (λ xs. history_of ps ++ xs) (sym r.log_is) in
      record {
        before = ps;
        last = p;
        are = past_append bottom_height files turns ps (p ∷ []) 1 no_names (λ name. 0) s.are behind;
        held = subst (AreHeld bits 0 0 ps) (sym olds) (held_append bits 0 0 s.before so_far.old.items s.last old s.held last (came_to) live_last);
        held_last = subst (λ all. IsHeld bits (uses_behind bits 0 all) new.words.items p) (sym olds)
            (subst (λ n. IsHeld bits n new.words.items p) (sym (uses_last bits 0 so_far.old.items old))
            (subst (λ ws. IsHeld bits (uses_of_live (node_words bits old.words.items) old.live.items) ws p) (sym new_words)
            (held_over bits seat.made (uses_of_live (node_words bits old.words.items) old.live.items) ran.words.items p begun r.held)));
        live = subst (λ ws. LiveIn (node_words bits ws) new.names (state_left (batch_of_past p))) (sym new_words)
            (subst (λ ns. LiveIn (node_words bits ran.words.items) ns (state_left (batch_of_past p))) (sym names) r.live);
        events_are = log ∙ sym (history_last ps p);
        told_are = subst (λ ts. AreParts (scripts ++ more) ts (parts_of (ps ++ p ∷ []))) (sym told)
            (subst (AreParts (scripts ++ more) (so_far.told.items ++ ran.told.items)) (sym (parts_last ps p))
            (parts_append scripts more so_far.told.items ran.told.items (parts_of ps) p.parts s.told_are r.told));
        versions_are = λ name. ap (λ v. noted v name) versions ∙ r.versions_are name;
        counted = λ name.
            ap (λ v. noted v name) versions ∙ counted_behind bits more number files turns first seat ran so_far.events.items r s.counted name ∙ ap (version name) (sym events);
        ends_are = ap (λ xs. xs ++ (length scripts + length more) ∷ []) s.ends_are
            ∙ ap (λ n. ends_from 0 ps ++ n ∷ []) (ap (λ n. n + length more) many ∙ ap (λ n. length (parts_of ps) + n) many_more ∙ ap (λ n. n + length p.parts) (sym (from_zero (length (parts_of ps)))))
            ∙ sym (ends_last 0 ps p);
      }
    where
      came_to : old.upto ≡ upto_behind 0 so_far.old.items + length s.last.log
      came_to =
          let behind = upto_of bits 0 0 s.before so_far.old.items s.held in
          let all = ap length (s.events_are ∙ history_last s.before s.last) in
          let long = length-append (history_of s.before) s.last.log in
          omega (arith, upto, behind, all, long)

      begun : seat.made ≤ uses_of_live (node_words bits old.words.items) old.live.items
      begun =
          let sound = s.held_last.sound in
          let few = subst (λ ws. stored_count (nodes_of next.words.items) ≤ uses_of_live ws old.live.items) (nodes_are bits so_far.words.items sound.size ∙ ap (node_words bits) (sym words)) c.few in
          let new = subst (λ ws. stored_count ws ≤ uses_of_live (node_words bits old.words.items) old.live.items) (nodes_are bits next.words.items (c.sound bits sound).size) few in
          let made = opened.all_made in
          omega (arith, new, made)

-- ---- the end
same_run : (scripts bytes : List (List ℕ)) (readings : List Reading) (files : List Loaded) (turns : ℕ) (asked : Bool) (ends es : List ℕ) (history log : List Event) (outcomes os : List (List Outcome))
    (page shown : List ℕ) (saves fs : List SavedFile) → scripts ≡ bytes → ends ≡ es → history ≡ log → outcomes ≡ os → page ≡ shown → saves ≡ fs
    → IsRun bytes (input_with readings files turns asked es) log os shown fs → IsRun scripts (input_with readings files turns asked ends) history outcomes page saves
same_run scripts bytes readings files turns asked ends es history log outcomes os page shown saves fs a b c d e f r =
    subst (λ x. IsRun x (input_with readings files turns asked ends) history outcomes page saves) (sym a)
    (subst (λ x. IsRun bytes (input_with readings files turns asked x) history outcomes page saves) (sym b)
    (subst (λ x. IsRun bytes (input_with readings files turns asked es) x outcomes page saves) (sym c)
    (subst (λ x. IsRun bytes (input_with readings files turns asked es) log x page saves) (sym d)
    (subst (λ x. IsRun bytes (input_with readings files turns asked es) log os x saves) (sym e)
    (subst (IsRun bytes (input_with readings files turns asked es) log os shown) (sym f) r)))))

same_words : (bits : ℕ) (readings : List Reading) (files : List Loaded) (turns : ℕ) (asked : Bool) (ends es : List ℕ) (history log : List Event) (outcomes os : List (List Outcome))
    (olds others : List OldBatch) (words ws : List ℕ) → ends ≡ es → history ≡ log → outcomes ≡ os → olds ≡ others → words ≡ ws
    → HoldsRun bits (input_with readings files turns asked es) log os others ws → HoldsRun bits (input_with readings files turns asked ends) history outcomes olds words
same_words bits readings files turns asked ends es history log outcomes os olds others words ws a b c d e h =
    subst (λ x. HoldsRun bits (input_with readings files turns asked x) history outcomes olds words) (sym a)
    (subst (λ x. HoldsRun bits (input_with readings files turns asked es) x outcomes olds words) (sym b)
    (subst (λ x. HoldsRun bits (input_with readings files turns asked es) log x olds words) (sym c)
    (subst (λ x. HoldsRun bits (input_with readings files turns asked es) log os x words) (sym d)
    (subst (HoldsRun bits (input_with readings files turns asked es) log os others) (sym e) h))))

-- the run of all batches
pub all_finished : (bits turns : ℕ) (files : List Loaded) (scripts : List (List ℕ)) (ends : List ℕ) (asked : Bool) (so_far : SoFar) (finished : Finished)
    → IsSoFar bits files turns scripts ends so_far → finished.history.items ≡ so_far.events.items
    → map (λ v. v.items) finished.outcomes.items ≡ map (λ t. t.outcomes.items) so_far.told.items → finished.page.items ≡ page_told so_far.told.items so_far.events.items asked
    → saved_all finished.saves.items ≡ flat_map saved_by_session so_far.told.items → finished.old.items ≡ so_far.old.items → finished.words.items ≡ so_far.words.items
    → IsFinished bits scripts files turns asked ends finished
all_finished bits turns files scripts ends asked so_far finished s history outcomes page saves old words =
    let ps = s.before ++ s.last ∷ [] in
    let parts = parts_of ps in
    let whole = whole_runs bottom_height files turns asked ps s.are in
    let holds = words_hold_runs bits files turns asked s.before s.last so_far.old.items so_far.words.items s.are s.held s.held_last in
    let bytes = sym (scripts_by scripts so_far.told.items parts s.told_are) in
    let came = outcomes ∙ sym (outcomes_by scripts so_far.told.items parts s.told_are) in
    let log = history ∙ s.events_are in
    let shown : finished.page.items ≡ text_of parts ++ cond asked (flat_map event_line (history_of ps)) [] =
    page ∙ ap (λ xs. xs ++ cond asked (flat_map event_line so_far.events.items) []) (sym (text_by scripts so_far.told.items parts s.told_are))
    ∙ ap (λ es. text_of parts ++ cond asked (flat_map event_line es) []) s.events_are in
    let files_are = saves ∙ sym (saved_by scripts so_far.told.items parts s.told_are) in
    record {
      readings = readings_of ps;
      run = same_run scripts (scripts_of parts) (readings_of ps) files turns asked ends (ends_from 0 ps) finished.history.items (history_of ps) (map (λ v. v.items) finished.outcomes.items) (outcomes_of parts)
          finished.page.items (page_of_past asked ps) (saved_all finished.saves.items) (files_of parts) bytes s.ends_are log came shown files_are whole.run;
      holds = same_words bits (readings_of ps) files turns asked ends (ends_from 0 ps) finished.history.items (history_of ps) (map (λ v. v.items) finished.outcomes.items) (outcomes_of parts)
          finished.old.items so_far.old.items finished.words.items so_far.words.items s.ends_are log came old words holds;
    }
