-- Batch after batch is put behind those that are over; and in the end the words of all hold the run.
-- 1. What is put behind lists that are over stands there on what the last of them left.
-- 2. Each batch has its place in the history of the run, so its words hold what is due there.
use Rattle.std.specs.List.{AllByRecursion}
use Rattle.std.proofs.Common.{◌≡◌, ◌+◌, ◌++◌, ℕ, Bool, List, [], ◌∷◌, length, take, refl, sym, ap, subst, ◌∙◌, arith, append_assoc, length-append}
use Rattle.rel_model.specs.Trees.{bottom_height}
use Rattle.rel_model.specs.Equations.{node_words}
use Rattle.run_model.specs.declared.batch.OldBatch.{OldBatch}
use Rattle.run_model.specs.declared.event.Event.{Event}
use Rattle.run_model.specs.declared.files.Loaded.{Loaded}
use Rattle.run_model.specs.declared.outcome.Outcome.{Outcome}
use Rattle.run_model.specs.Names.{no_names}
use Rattle.run_model.specs.Inputs.{Input, batch_of}
use Rattle.run_model.specs.Due.{Workspace}
use Rattle.run_model.specs.States.{start, replay, gifts_due, state_after}
use Rattle.run_model.specs.Batches.{state_left, versions_left}
use Rattle.run_model.specs.Stored.{AreStored, HoldsBatch, LiveIn, uses_of_live, HoldsFrom}
use Rattle.rv_runs.specs.Past.{outcomes_of, Past, batch_of_past, ArePast, parts_of, history_of, ends_from, input_of_past}
use Rattle.rv_runs.specs.PastWords.{state_behind, versions_behind, upto_behind, uses_behind, IsHeld, AreHeld, WordsHoldRuns}
use Rattle.rv_runs.proofs.PastPlaces.{HasPlace, history_at, has_place}

-- ---- one batch more
-- batches behind others that are over, on what these left
pub past_append : (leaf : ℕ) (files : List Loaded) (turns : ℕ) (ps qs : List Past) (number : ℕ) (state : Workspace) (versions : List ℕ → ℕ) →
    ArePast leaf files turns number state versions ps →
    ArePast leaf files turns (number + length (parts_of ps)) (state_behind state ps) (versions_behind versions ps) qs →
    ArePast leaf files turns number state versions (ps ++ qs)
past_append leaf files turns [] qs number state versions h k = subst (λ n. ArePast leaf files turns n state versions qs) (none number) k
  where
    none : (n : ℕ) → n + 0 ≡ n
    none n = omega arith
past_append leaf files turns (p ∷ ps) qs number state versions h k = (
  h.0,
  h.1,
  h.2,
  h.3,
  h.4,
  h.5,
  past_append leaf files turns ps qs (number + length p.parts) (state_left (batch_of_past p)) (versions_left (batch_of_past p)) h.6
      (subst (λ n. ArePast leaf files turns n (state_behind (state_left (batch_of_past p)) ps) (versions_behind (versions_left (batch_of_past p)) ps) qs)
      (further number p ps) k),
)
  where
    further : (number : ℕ) (p : Past) (ps : List Past) → number + length (parts_of (p ∷ ps)) ≡ number + length p.parts + length (parts_of ps)
    further number p ps = let long = length-append p.parts (parts_of ps) in omega (arith, long)

-- the last one tells what is left
pub state_last : (state : Workspace) (ps : List Past) (p : Past) → state_behind state (ps ++ p ∷ []) ≡ state_left (batch_of_past p)
state_last state [] p = refl
state_last state (x ∷ ps) p = state_last (state_left (batch_of_past x)) ps p

pub versions_last : (versions : List ℕ → ℕ) (ps : List Past) (p : Past) → versions_behind versions (ps ++ p ∷ []) ≡ versions_left (batch_of_past p)
versions_last versions [] p = refl
versions_last versions (x ∷ ps) p = versions_last (versions_left (batch_of_past x)) ps p

pub upto_last : (from : ℕ) (olds : List OldBatch) (old : OldBatch) → upto_behind from (olds ++ old ∷ []) ≡ old.upto
upto_last from [] old = refl
upto_last from (x ∷ olds) old = upto_last x.upto olds old

pub uses_last : (bits uses : ℕ) (olds : List OldBatch) (old : OldBatch) →
    uses_behind bits uses (olds ++ old ∷ []) ≡ uses_of_live (node_words bits old.words.items) old.live.items
uses_last bits uses [] old = refl
uses_last bits uses (x ∷ olds) old = uses_last bits (uses_of_live (node_words bits x.words.items) x.live.items) olds old

-- batches came as far as their logs
pub upto_of : (bits from uses : ℕ) (ps : List Past) (olds : List OldBatch) → AreHeld bits from uses ps olds → upto_behind from olds ≡ from + length (history_of ps)
upto_of bits from uses [] [] h = omega arith
upto_of bits from uses [] (old ∷ olds) h = absurd h
upto_of bits from uses (p ∷ ps) [] h = absurd h
upto_of bits from uses (p ∷ ps) (old ∷ olds) h =
    let rest = upto_of bits old.upto (uses_of_live (node_words bits old.words.items) old.live.items) ps olds h.3 in
    let here = h.1 in
    let long = length-append p.log (history_of ps) in
    omega (arith, rest, here, long)

-- one more that is held
pub held_append : (bits from uses : ℕ) (ps : List Past) (olds : List OldBatch) (p : Past) (old : OldBatch) → AreHeld bits from uses ps olds →
    IsHeld bits (uses_behind bits uses olds) old.words.items p → old.upto ≡ upto_behind from olds + length p.log →
    LiveIn (node_words bits old.words.items) old.live.items (state_left (batch_of_past p)) → AreHeld bits from uses (ps ++ p ∷ []) (olds ++ old ∷ [])
held_append bits from uses [] [] p old h is upto live = (is, upto, live, tt)
held_append bits from uses [] (x ∷ olds) p old h is upto live = absurd h
held_append bits from uses (q ∷ ps) [] p old h is upto live = absurd h
held_append bits from uses (q ∷ ps) (x ∷ olds) p old h is upto live =
    (h.0, h.1, h.2, held_append bits x.upto (uses_of_live (node_words bits x.words.items) x.live.items) ps olds p old h.3 is upto live)

-- a run has one end for each batch
ends_of : (count : ℕ) (ps : List Past) → length (ends_from count ps) ≡ length ps
ends_of count [] = refl
ends_of count (p ∷ ps) = let i = ends_of (count + length p.parts) ps in omega (arith, i)

-- ---- the run
module _ (bits : ℕ) (files : List Loaded) (turns : ℕ) (asked : Bool) (whole : List Past) (are : ArePast bottom_height files turns 1 no_names (λ name. 0) whole) where
  abbrev input : Input
  input = input_of_past files turns asked whole

  abbrev history : List Event
  history = history_of whole

  abbrev outcomes : List (List Outcome)
  outcomes = outcomes_of (parts_of whole)

  -- the words of one batch hold it at its place
  held_batch : (before : List Past) (p : Past) (after : List Past) → whole ≡ before ++ p ∷ after → (b from upto uses : ℕ) (words : List ℕ) → length before ≡ b →
      length (history_of before) ≡ from → upto ≡ from + length p.log → IsHeld bits uses words p → HoldsBatch bits input history outcomes b from upto uses words
  held_batch before p after split b from upto uses words is_b is_from is_upto held =
      let there = has_place bottom_height files turns asked whole before p after split are in
      let here : HasPlace bottom_height input history outcomes b from p =
      subst (λ n. HasPlace bottom_height input history outcomes b n p) is_from
      (subst (λ n. HasPlace bottom_height input history outcomes n (length (history_of before)) p) is_b there) in
      subst (λ n. HoldsBatch bits input history outcomes b from n uses words) (sym is_upto) (at_place b from uses here held)
    where
      at_place : (b from uses : ℕ) → HasPlace bottom_height input history outcomes b from p → IsHeld bits uses words p →
          HoldsBatch bits input history outcomes b from (from + length p.log) uses words
      at_place b from uses here held =
          let room = held.room in
          let cost = here.cost in
          record {
            forward = omega arith;
            within = here.within;
            events = subst (AllByRecursion (λ e. batch_of input.ends e.session ≡ b)) (sym here.own) here.events;
            sound = held.sound;
            stored = subst (AreStored (gifts_due input) (node_words bits words) (replay (gifts_due input) start (take from history))) (sym here.own)
                (here.due_stored (node_words bits words) held.in_words);
            one_root = held.one_root;
            cost = omega (arith, room, cost);
            full = here.full (node_words bits words) held.full;
          }

  -- so do those of all batches from one on
  holds_from : (before ps : List Past) (p : Past) (olds : List OldBatch) (b from uses : ℕ) (words : List ℕ) → whole ≡ before ++ (ps ++ p ∷ []) → length before ≡ b →
      length (history_of before) ≡ from → AreHeld bits from uses ps olds → IsHeld bits (uses_behind bits uses olds) words p →
      HoldsFrom bits input history outcomes b from uses olds words
  holds_from before [] p [] b from uses words split is_b is_from held last =
      (held_batch before p [] split b from (length history) uses words is_b is_from (all_seen split) last, all_ended split)
    where
      all_seen : whole ≡ before ++ p ∷ [] → length history ≡ from + length p.log
      all_seen split =
          let same = ap (λ ps. length (history_of ps)) split ∙ ap length (history_at before p []) in
          let long = length-append (history_of before) (p.log ++ []) in
          let longer = length-append p.log [] in
          omega (arith, same, long, longer, is_from)

      all_ended : whole ≡ before ++ p ∷ [] → b + 1 ≡ length (ends_from 0 whole)
      all_ended split =
          let same = ap length split in
          let long = length-append before (p ∷ []) in
          let ends = ends_of 0 whole in
          omega (arith, same, long, ends, is_b)
  holds_from before [] p (old ∷ olds) b from uses words split is_b is_from held last = absurd held
  holds_from before (x ∷ ps) p [] b from uses words split is_b is_from held last = absurd held
  holds_from before (x ∷ ps) p (old ∷ olds) b from uses words split is_b is_from held last =
      let there = has_place bottom_height files turns asked whole before x (ps ++ p ∷ []) split are in
      let upto : length (history_of before) + length x.log ≡ old.upto = ap (λ n. n + length x.log) is_from ∙ sym held.1 in
      let state : state_after input (take old.upto history) ≡ state_left (batch_of_past x) = ap (λ n. state_after input (take n history)) (sym upto) ∙ there.state in (
        held_batch before x (ps ++ p ∷ []) split b from old.upto uses old.words.items is_b is_from held.1 held.0,
        subst (LiveIn (node_words bits old.words.items) old.live.items) (sym state) held.2,
        holds_from (before ++ x ∷ []) ps p olds (b + 1) old.upto (uses_of_live (node_words bits old.words.items) old.live.items) words
            (split ∙ sym (append_assoc before (x ∷ []) (ps ++ p ∷ []))) (longer before x is_b) (history_longer before x upto) held.3 last,
      )
    where
      longer : (before : List Past) (x : Past) → length before ≡ b → length (before ++ x ∷ []) ≡ b + 1
      longer before x is_b = let long = length-append before (x ∷ []) in omega (arith, long, is_b)

      history_longer : (before : List Past) (x : Past) → length (history_of before) + length x.log ≡ old.upto → length (history_of (before ++ x ∷ [])) ≡ old.upto
      history_longer before x upto =
          let same = ap length (history_at before x []) in
          let long = length-append (history_of before) (x.log ++ []) in
          let more = length-append x.log [] in
          omega (arith, same, long, more, upto)

pub words_hold_runs : WordsHoldRuns
words_hold_runs bits files turns asked ps p olds words are held last = holds_from bits files turns asked (ps ++ p ∷ []) are [] ps p olds 0 0 0 words refl refl refl held last
