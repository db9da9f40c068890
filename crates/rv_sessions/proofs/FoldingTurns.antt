-- Turns of a session, and those of one command more behind them.
-- 1. Turns behind turns are turns: the first log of the later ones begins with all that the earlier ones saw.
-- 2. The later ones are of a number of their own. So the earlier commands took the same logs with them as without, and
--    the later command took the log of the first of them.
-- 3. In the same way the events of each command have the same relations with the later ones as without.
-- 4. All that stood in a worker stands where its relations are kept.
use Rattle.std.proofs.Common.{◌≡◌, ◌≤◌, ◌+◌, ◌||◌, ℕ, Bool, true, false, cond, eqb, List, [], ◌∷◌, ◌++◌, map, Option, Some, None, refl, sym, ap, ◌∙◌, arith, append_assoc, append-nil}
use Rattle.std.specs.List.{list_any, flat_map, AllByRecursion}
use Rattle.std.proofs.lemmas.Bool.{eq-eqb, ne_eqb}
use Rattle.std.proofs.lemmas.List.{map-append}
use Rattle.rel_model.specs.declared.Rel.{Rel}
use Rattle.rel_model.specs.Worker.{Worker, Stands, Keeps}
use Rattle.rel_model.proofs.Workers.{keeps_stands}
use Rattle.run_model.specs.declared.event.Event.{Event}
use Rattle.run_model.specs.Events.{deed_of, entry_of, entries}
use Rattle.run_model.specs.Turns.{Turn, puts_of, taken}
use Rattle.run_model.proofs.Extending.{puts_append, turns_append, UpTo, OfNext, taken_old as old_taken, taken_new as new_taken}
use Rattle.run_model.specs.Sessions.{rel_of, rels_of}
use Rattle.turn_book.specs.Views.{View, IsKept}
use Rattle.run_model.specs.Carried.{Carried}
use Rattle.rv_workspace.specs.Books.{EventStands, HistoryStands, AllNamesStand}
use Rattle.rv_workspace.proofs.Replaying.{history_stands, all_names_stand}
use Rattle.rv_sessions.specs.Standing.{TurnStands, TurnsStand}
use Rattle.rv_sessions.specs.Doing.{IsBy, BeginsWithEvent, deeds_by, rels_by, GoesThrough}
use Rattle.rv_sessions.specs.Running.{IsAmong}

-- ---- elements
pub all_append : {X : Type 0} (P : X → Type 0) (xs ys : List X) → AllByRecursion P xs → AllByRecursion P ys → AllByRecursion P (xs ++ ys)
all_append P [] ys h k = k
all_append P (x ∷ xs) ys h k = (h.0, all_append P xs ys h.1 k)

pub all_weaker : {X : Type 0} (P Q : X → Type 0) → ((x : X) → P x → Q x) → (xs : List X) → AllByRecursion P xs → AllByRecursion Q xs
all_weaker P Q w [] h = tt
all_weaker P Q w (x ∷ xs) h = (w x h.0, all_weaker P Q w xs h.1)

-- ---- passes
kept_itself : (v : View) → IsKept v v
kept_itself v = record { book = refl; house = refl; start = refl; joined = refl; spare = refl; turn = refl }

kept_on : (u v w : View) → IsKept u v → IsKept v w → IsKept u w
kept_on u v w h k = record {
  book = k.book ∙ h.book;
  house = k.house ∙ h.house;
  start = k.start ∙ h.start;
  joined = k.joined ∙ h.joined;
  spare = k.spare ∙ h.spare;
  turn = k.turn ∙ h.turn;
}

-- a pass that stands where it stood went through no turn
pub through_none : (v : View) → GoesThrough [] v v
through_none v = record { turns = ([], sym (append-nil v.seen)); mine = sym (append-nil v.mine); kept = kept_itself v }

-- a pass that went through turns and then through others went through all of them
pub through_append : (ts us : List Turn) (u v w : View) → GoesThrough ts u v → GoesThrough us v w → GoesThrough (ts ++ us) u w
through_append ts us u v w h k = record {
  turns = turns_append ts us u.seen v.seen w.seen h.turns k.turns;
  mine = k.mine ∙ (ap (λ (l : List Event). l ++ puts_of us) h.mine ∙ (append_assoc u.mine (puts_of ts) (puts_of us) ∙ ap (λ (l : List Event). u.mine ++ l) (sym (puts_append ts us))));
  kept = kept_on u v w h.kept k.kept;
}

-- ---- lists of events
-- the log of the first turn, where there is one
abbrev pub first_log : List Turn → Option (List Event)
first_log [] = None
first_log (t ∷ ts) = Some t.took

-- the relations that a command assigns in two lists of events are those of the first and then those of the second,
-- event by event
rels-append : (c : ℕ) (xs ys : List Event) → rels_of c (xs ++ ys) ≡ rels_of c xs ++ rels_of c ys
rels-append c [] ys = refl
rels-append c (x ∷ xs) ys = ap (λ (rs : List Rel). cond (eqb x.command c) (rel_of x.act ++ rs) rs) (rels-append c xs ys) ∙ at (eqb x.command c)
  where
    at : (b : Bool) → cond b (rel_of x.act ++ (rels_of c xs ++ rels_of c ys)) (rels_of c xs ++ rels_of c ys)
        ≡ cond b (rel_of x.act ++ rels_of c xs) (rels_of c xs) ++ rels_of c ys
    at true = sym (append_assoc (rel_of x.act) (rels_of c xs) (rels_of c ys))
    at false = refl

-- ---- numbers
module _ (s n : ℕ) where
  abbrev Older : List Turn → Type 0
  Older = AllByRecursion (IsAmong s n)

  abbrev Newer : List Turn → Type 0
  Newer = AllByRecursion (IsBy s (n + 1))

  among_newer : (t : Turn) → IsBy s (n + 1) t → IsAmong s (n + 1) t
  among_newer t a = record {
    turn = (n + 1, a.each, a.kind);
    numbers = all_weaker (λ e. (e.session ≡ s) × (e.command ≡ n + 1)) (λ e. (1 ≤ e.command) × (e.command ≤ n + 1))
        (λ e h. (omega (arith, h.1), omega (arith, h.1))) t.put a.each;
  }

  among_older : (t : Turn) → IsAmong s n t → IsAmong s (n + 1) t
  among_older t a = record {
    turn = a.turn;
    numbers = all_weaker (λ e. (1 ≤ e.command) × (e.command ≤ n)) (λ e. (1 ≤ e.command) × (e.command ≤ n + 1))
        (λ e h. (h.0, omega (arith, h.1))) t.put a.numbers;
  }

  pub among_more : (ts us : List Turn) → Older ts → Newer us → AllByRecursion (IsAmong s (n + 1)) (ts ++ us)
  among_more ts us h k =
      all_append (IsAmong s (n + 1)) ts us (all_weaker (IsAmong s n) (IsAmong s (n + 1)) among_older ts h)
      (all_weaker (IsBy s (n + 1)) (IsAmong s (n + 1)) among_newer us k)

  pub up_to : (ts : List Turn) → Older ts → AllByRecursion (UpTo n) ts
  up_to ts h =
      all_weaker (IsAmong s n) (UpTo n)
      (λ t a. all_weaker (λ e. (1 ≤ e.command) × (e.command ≤ n)) (λ e. e.command ≤ n) (λ e k. k.1) t.put a.numbers) ts h

  pub of_next : (us : List Turn) → Newer us → AllByRecursion (OfNext n) us
  of_next us h =
      all_weaker (IsBy s (n + 1)) (OfNext n)
      (λ t a. all_weaker (λ e. (e.session ≡ s) × (e.command ≡ n + 1)) (λ e. e.command ≡ n + 1) (λ e k. k.1) t.put a.each) us h

  -- the events of all turns
  pub old_puts : (ts : List Turn) → Older ts → AllByRecursion (λ e. e.command ≤ n) (puts_of ts)
  old_puts [] h = tt
  old_puts (t ∷ ts) h = all_append (λ e. e.command ≤ n) t.put (puts_of ts) (up_to (t ∷ ts) h).0 (old_puts ts h.1)

  pub new_puts : (us : List Turn) → Newer us → AllByRecursion (λ e. (e.session ≡ s) × (e.command ≡ n + 1)) (puts_of us)
  new_puts [] h = tt
  new_puts (u ∷ us) h = all_append (λ e. (e.session ≡ s) × (e.command ≡ n + 1)) u.put (puts_of us) h.0.each (new_puts us h.1)

  -- ---- logs that commands took
  -- an earlier command took what it took
  pub taken_old : (c : ℕ) (ts us : List Turn) → c ≤ n → Newer us → taken c (ts ++ us) ≡ taken c ts
  taken_old c ts us l k = old_taken n c ts us l (of_next us k)

  no_event : (e : Event) (rest : List Event) → [] ≡ e ∷ rest → ⊥
  no_event e rest h = cc

  has_first : (es : List Event) → (e : Event) × (rest : List Event) × (es ≡ e ∷ rest) → AllByRecursion (λ e. (e.session ≡ s) × (e.command ≡ n + 1)) es →
      list_any (λ e. eqb e.command (n + 1)) es ≡ true
  has_first [] b h = absurd (no_event b.0 b.1 b.2)
  has_first (e ∷ es) b h = ap (λ x. x || list_any (λ y. eqb y.command (n + 1)) es) (eq-eqb e.command (n + 1) h.0.1)

  own_taken : (us : List Turn) → BeginsWithEvent us → Newer us → taken (n + 1) us ≡ first_log us
  own_taken [] b k = refl
  own_taken (u ∷ us) b k = ap (λ x. cond x (Some u.took) (taken (n + 1) us)) (has_first u.put b k.0.each)

  -- the later one took the log of its first turn
  pub taken_new : (ts us : List Turn) → Older ts → BeginsWithEvent us → Newer us → taken (n + 1) (ts ++ us) ≡ first_log us
  taken_new ts us h b k = new_taken n ts us (up_to ts h) ∙ own_taken us b k

  -- ---- relations that commands assigned
  none_newer : (c : ℕ) (es : List Event) → c ≤ n → AllByRecursion (λ e. (e.session ≡ s) × (e.command ≡ n + 1)) es → rels_of c es ≡ []
  none_newer c [] l k = refl
  none_newer c (e ∷ es) l k = rw (ne_eqb e.command c (λ h. absurd (omega (arith, k.0.1)))) (none_newer c es l k.1)

  none_older : (es : List Event) → AllByRecursion (λ e. e.command ≤ n) es → rels_of (n + 1) es ≡ []
  none_older [] h = refl
  none_older (e ∷ es) h = rw (ne_eqb e.command (n + 1) (λ k. absurd (omega (arith, h.0)))) (none_older es h.1)

  own_rels : (es : List Event) → AllByRecursion (λ e. (e.session ≡ s) × (e.command ≡ n + 1)) es → rels_of (n + 1) es ≡ flat_map (λ e. rel_of e.act) es
  own_rels [] k = refl
  own_rels (e ∷ es) k = rw (eq-eqb e.command (n + 1) k.0.1) (ap (λ (rs : List Rel). rel_of e.act ++ rs) (own_rels es k.1))

  pub rels_old : (c : ℕ) (ts us : List Turn) → c ≤ n → Newer us → rels_of c (puts_of (ts ++ us)) ≡ rels_of c (puts_of ts)
  rels_old c ts us l k =
      ap (rels_of c) (puts_append ts us) ∙ rels-append c (puts_of ts) (puts_of us)
      ∙ ap (λ rs. rels_of c (puts_of ts) ++ rs) (none_newer c (puts_of us) l (new_puts us k)) ∙ append-nil (rels_of c (puts_of ts))

  pub rels_new : (ts us : List Turn) → Older ts → Newer us → rels_of (n + 1) (puts_of (ts ++ us)) ≡ rels_by us
  rels_new ts us h k =
      ap (rels_of (n + 1)) (puts_append ts us) ∙ rels-append (n + 1) (puts_of ts) (puts_of us)
      ∙ ap (λ rs. rs ++ rels_of (n + 1) (puts_of us)) (none_older (puts_of ts) (old_puts ts h)) ∙ own_rels (puts_of us) (new_puts us k)

-- ---- entries
-- the entries of a command's turns are those of its deeds
entries_of : (s c : ℕ) (es : List Event) → AllByRecursion (λ e. (e.session ≡ s) × (e.command ≡ c)) es → map entry_of es ≡ entries s c (map (λ e. deed_of e.act) es)
entries_of s c [] h = refl
entries_of s c (e ∷ es) h = let i = entries_of s c es h.1 in λ j. record { session = h.0.0 j; command = h.0.1 j; deed = deed_of e.act } ∷ i j

pub entries_by : (s n : ℕ) (us : List Turn) → AllByRecursion (IsBy s (n + 1)) us → map entry_of (puts_of us) ≡ entries s (n + 1) (deeds_by us)
entries_by s n us h = entries_of s (n + 1) (puts_of us) (new_puts s n us h)

pub entries_append : (ts us : List Turn) → map entry_of (puts_of (ts ++ us)) ≡ map entry_of (puts_of ts) ++ map entry_of (puts_of us)
entries_append ts us = ap (map entry_of) (puts_append ts us) ∙ map-append entry_of (puts_of ts) (puts_of us)

-- ---- what stands
module _ (w : Worker) where
  picked : {X : Type 0} (P : X → Type 0) (b : Bool) (x y : X) → P x → P y → P (cond b x y)
  picked P true x y h k = h
  picked P false x y h k = k

  -- the relations of the first names and of a log, where there is one
  abbrev pub LogStands : Carried → Option (List Event) → Type 0
  LogStands first None = Unit {0}
  LogStands first (Some log) = AllNamesStand w first × HistoryStands w log

  -- those of each log that a command took
  pub taken_stands : (first : Carried) (c : ℕ) (ts : List Turn) → TurnsStand w first ts → LogStands first (taken c ts)
  taken_stands first c [] h = tt
  taken_stands first c (t ∷ ts) h =
      picked (LogStands first) (list_any (λ e. eqb e.command c) t.put) (Some t.took) (taken c ts) (h.0.first_stand, h.0.log) (taken_stands first c ts h.1)

  puts_stand : (first : Carried) (ts : List Turn) → TurnsStand w first ts → AllByRecursion (EventStands w) (puts_of ts)
  puts_stand first [] h = tt
  puts_stand first (t ∷ ts) h = all_append (EventStands w) t.put (puts_of ts) h.0.own (puts_stand first ts h.1)

  each_stands : (c : ℕ) (es : List Event) → AllByRecursion (EventStands w) es → AllByRecursion (Stands w) (rels_of c es)
  each_stands c [] h = tt
  each_stands c (e ∷ es) h =
      picked (AllByRecursion (Stands w)) (eqb e.command c) (rel_of e.act ++ rels_of c es) (rels_of c es)
      (all_append (Stands w) (rel_of e.act) (rels_of c es) h.0 (each_stands c es h.1)) (each_stands c es h.1)

  -- and those that it assigned
  pub rels_stand : (first : Carried) (c : ℕ) (ts : List Turn) → TurnsStand w first ts → AllByRecursion (Stands w) (rels_of c (puts_of ts))
  rels_stand first c ts h = each_stands c (puts_of ts) (puts_stand first ts h)

-- all turns stand where what stood is kept
pub turns_stand : (v w : Worker) → Keeps v w → (first : Carried) (ts : List Turn) → TurnsStand v first ts → TurnsStand w first ts
turns_stand v w k first ts h = all_weaker (TurnStands v first) (TurnStands w first) (λ t s. one t s) ts h
  where
    one : (t : Turn) → TurnStands v first t → TurnStands w first t
    one t s = record {
      first_stand = all_names_stand v w (λ r. keeps_stands v w r k) first s.first_stand;
      log = history_stands v w (λ r. keeps_stands v w r k) t.took s.log;
      own = all_weaker (EventStands v) (EventStands w) (λ e x. all_weaker (Stands v) (Stands w) (λ r. keeps_stands v w r k) (rel_of e.act) x) t.put s.own;
    }
