-- What carried relations mean in a worker, and in one that keeps all of the first.
-- 1. A map that is set or loses a name has relations that stand, if all that it had and got do. So the relations that a
--    log leaves stand where those of the first names and of its events do.
-- 2. What stands keeps its set. So what stands means the same in the second worker as in the first, name by name, and so
--    do snapshots.
-- 3. To mean goes name by name: it passes into a look-up, and into a map that is set.
use Rattle.std.proofs.Common.{◌≡◌, ℕ, Bool, true, false, cond, not, List, [], ◌∷◌, Option, Some, None, Ordering, Less, Equal, Greater, refl, sym, ap, ◌∙◌}
use Rattle.std.specs.Prelude.{option_and_then}
use Rattle.std.specs.List.{AllByRecursion}
use Rattle.std.specs.Option.{option_map}
use Rattle.std.specs.Ordering.{eq_by_cmp}
use Rattle.std.specs.FinMap.Entries.{by_order}
use Rattle.std.proofs.lemmas.List.Elements.{All-head, All-tail}
use Rattle.rel_model.specs.declared.Rel.{Rel}
use Rattle.rel_model.specs.Worker.{Worker, Stands, Keeps}
use Rattle.rel_model.proofs.Workers.{keeps_set, keeps_stands}
use Rattle.lang_model.specs.declared.syntax.Item.{Item}
use Rattle.run_model.specs.declared.event.Event.{Event}
use Rattle.run_model.specs.declared.event.Act.{Act}
use Rattle.run_model.specs.declared.event.Act.TheVariants.{Read, Assign, Remove}
use Rattle.run_model.specs.Names.{compare, Names, lookup, set, remove}
use Rattle.run_model.specs.Steps.{Ending, Succeeds, Fails, Changes, LacksMemory, Snapshots, snapped, asked, keep as keep_state, kept_at, snap_for}
use Rattle.run_model.specs.States.{Replay, begun}
use Rattle.run_model.specs.Carried.{Carried, carry_act, carry, carried_from}
use Rattle.run_model.specs.Turns.{Turn}
use Rattle.run_model.specs.Sessions.{rel_of}
use Rattle.rv_workspace.specs.Books.{EventStands, HistoryStands, AllNamesStand}
use Rattle.rv_sessions.specs.Standing.{TurnsStand, Kept, KeptStand, meant, meant_all}
use Rattle.rv_sessions.specs.Doing.{names_took, keep, kept_behind, snap_meant}
use Rattle.rv_sessions.proofs.FoldingTurns.{all_weaker}

-- ---- what stands
-- where all that a map has is so, and what it gets, all that it has then is so
module _ {V : Type 0} (P : V → Type 0) where
  abbrev Each : Names V → Type 0
  Each = AllByRecursion (λ entry. P entry.1)

  in_order : (o : Ordering) (x y z : Names V) → Each x → Each y → Each z → Each (by_order o x y z)
  in_order Less x y z h k l = h
  in_order Equal x y z h k l = k
  in_order Greater x y z h k l = l

  set_each : (name : List ℕ) (v : V) (m : Names V) → P v → Each m → Each (set name v m)
  set_each name v [] s h = (s, tt)
  set_each name v (e ∷ es) s h =
      in_order (compare name e.0) ((name, v) ∷ e ∷ es) ((e.0, v) ∷ es) (e ∷ set name v es) (s, h) (s, h.1) (h.0, set_each name v es s h.1)

  kept_each : (b : Bool) (e : List ℕ × V) (es : Names V) → P e.1 → Each es → Each (cond b (e ∷ es) es)
  kept_each true e es s h = (s, h)
  kept_each false e es s h = h

  remove_each : (name : List ℕ) (m : Names V) → Each m → Each (remove name m)
  remove_each name [] h = tt
  remove_each name (e ∷ es) h = kept_each (not (eq_by_cmp compare name e.0)) e (remove name es) h.0 (remove_each name es h.1)

module _ (w : Worker) where
  act_stands : (s c : ℕ) (act : Act) (p : Replay Rel) → AllByRecursion (Stands w) (rel_of act) → AllNamesStand w p.now → AllNamesStand w (carry_act s c act p).now
  act_stands s c Read p h all = all
  act_stands s c (Assign name rel) p h all = set_each (Stands w) name rel p.now h.0 all
  act_stands s c (Remove name) p h all = remove_each (Stands w) name p.now all

  carry_stands : (es : List Event) (p : Replay Rel) → HistoryStands w es → AllNamesStand w p.now → AllNamesStand w (carry p es).now
  carry_stands [] p h all = all
  carry_stands (e ∷ es) p h all =
      carry_stands es (carry_act e.session e.command e.act p) (All-tail (EventStands w) e es h) (act_stands e.session e.command e.act p (All-head (EventStands w) e es h) all)

  -- where the relations of first names and of a log stand, so do all that it leaves
  pub carried_stands : (first : Carried) (es : List Event) → AllNamesStand w first → HistoryStands w es → AllNamesStand w (carried_from first es)
  unfolding carried_from
  carried_stands first es f h = carry_stands es (begun first) h f

  -- and all that the first of a command's turns took
  pub took_stand : (first : Carried) (ts : List Turn) → TurnsStand w first ts → AllNamesStand w (names_took first ts)
  took_stand first [] h = tt
  took_stand first (t ∷ ts) h = carried_stands first t.took h.0.first_stand h.0.log

-- ---- a worker that keeps another
module _ (v w : Worker) (k : Keeps v w) where
  pub meant_same : (m : Carried) → AllNamesStand v m → meant v m ≡ meant w m
  meant_same [] h = refl
  meant_same (e ∷ es) h = let i = meant_same es h.1 in λ j. (e.0, sym (keeps_set v w e.1 k h.0) j) ∷ i j

  pub all_meant_same : (snaps : Kept) → KeptStand v snaps → meant_all v snaps ≡ meant_all w snaps
  all_meant_same [] h = refl
  all_meant_same (e ∷ es) h = let i = all_meant_same es h.1 in λ j. (e.0, meant_same e.1 h.0 j) ∷ i j

  -- what stood of snapshots stands
  pub snaps_stand : (snaps : Kept) → KeptStand v snaps → KeptStand w snaps
  snaps_stand snaps h =
      all_weaker (λ entry. AllNamesStand v entry.1) (λ entry. AllNamesStand w entry.1)
      (λ e s. all_weaker (λ entry. Stands v entry.1) (λ entry. Stands w entry.1) (λ x h. keeps_stands v w x.1 k h) e.1 s) snaps h

  -- so does what an item leaves, where the names that it took stand
  pub left_stands : (x : Ending) (item : Item) (m : Carried) (snaps : Kept) → AllNamesStand w m → KeptStand v snaps →
      KeptStand w (kept_behind x item m snaps)
  left_stands Succeeds item m snaps h s = put_stands (snapped item)
    where
      put_stands : (o : Option (List ℕ)) → KeptStand w (keep o m snaps)
      put_stands None = snaps_stand snaps s
      put_stands (Some name) = set_each (AllNamesStand w) name m snaps h (snaps_stand snaps s)
  left_stands Fails item m snaps h s = snaps_stand snaps s
  left_stands Changes item m snaps h s = snaps_stand snaps s
  left_stands LacksMemory item m snaps h s = snaps_stand snaps s

-- ---- name by name
module _ (w : Worker) where
  one_order : (o : Ordering) (x y z : Kept) → meant_all w (by_order o x y z) ≡ by_order o (meant_all w x) (meant_all w y) (meant_all w z)
  one_order Less x y z = refl
  one_order Equal x y z = refl
  one_order Greater x y z = refl

  set_meant : (name : List ℕ) (m : Carried) (snaps : Kept) → meant_all w (set name m snaps) ≡ set name (meant w m) (meant_all w snaps)
  set_meant name m [] = refl
  set_meant name m (e ∷ es) =
      one_order (compare name e.0) ((name, m) ∷ e ∷ es) ((e.0, m) ∷ es) (e ∷ set name m es)
      ∙ ap (λ (z : Snapshots). by_order (compare name e.0) ((name, meant w m) ∷ (e.0, meant w e.1) ∷ meant_all w es) ((e.0, meant w m) ∷ meant_all w es) ((e.0, meant w e.1) ∷ z)) (set_meant name m es)

  keep_meant : (o : Option (List ℕ)) (m : Carried) (snaps : Kept) → meant_all w (keep o m snaps) ≡ keep_state o (meant w m) (meant_all w snaps)
  keep_meant None m snaps = refl
  keep_meant (Some name) m snaps = set_meant name m snaps

  -- what is kept behind an item means what is kept of the state that is meant
  pub behind_meant : (x : Ending) (item : Item) (m : Carried) (snaps : Kept) → meant_all w (kept_behind x item m snaps) ≡ kept_at x item (meant w m) (meant_all w snaps)
  behind_meant Succeeds item m snaps = keep_meant (snapped item) m snaps
  behind_meant Fails item m snaps = refl
  behind_meant Changes item m snaps = refl
  behind_meant LacksMemory item m snaps = refl

  pick_meant : (b : Bool) (m : Carried) (o : Option Carried) → cond b (Some (meant w m)) (option_map (meant w) o) ≡ option_map (meant w) (cond b (Some m) o)
  pick_meant true m o = refl
  pick_meant false m o = refl

  lookup_meant : (snaps : Kept) (n : List ℕ) → lookup (meant_all w snaps) n ≡ option_map (meant w) (lookup snaps n)
  lookup_meant [] n = refl
  lookup_meant (e ∷ es) n =
      ap (cond (eq_by_cmp compare n e.0) (Some (meant w e.1))) (lookup_meant es n) ∙ pick_meant (eq_by_cmp compare n e.0) e.1 (lookup es n)

  asked_meant : (o : Option (List ℕ)) (snaps : Kept) → option_and_then (lookup (meant_all w snaps)) o ≡ option_map (meant w) (option_and_then (lookup snaps) o)
  asked_meant None snaps = refl
  asked_meant (Some n) snaps = lookup_meant snaps n

  -- the snapshot that an item asks is what the kept one means
  pub snap_is_meant : (item : Item) (snaps : Kept) → snap_for item (meant_all w snaps) ≡ snap_meant w item snaps
  snap_is_meant item snaps = asked_meant (asked item) snaps
