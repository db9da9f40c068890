-- The rule of a turn book: what holds of its words, its slot and the views of all passes at every moment.
use Rattle.std.specs.Prelude.{◌≡◌, ◌≢◌, ◌⊎◌, ◌<◌, ◌+◌, ◌-◌, ◌%◌, ◌^◌, ℕ, true, false, List, [], ◌∷◌, ◌++◌, length, Option, Some, None}
use mathlib.Core.Option.{some}
use mathlib.Core.Option as maybe
use lib.ListN.{get_elem?}
use Rattle.atomic_table.specs.Table.{State}
use Rattle.turn_book.specs.Entries.{Entry}
use Rattle.turn_book.specs.declared.rule.Known.{Known}
use Rattle.turn_book.specs.declared.rule.Opening.{Opening}
use Rattle.turn_book.specs.Logs.{Begins, EachWithin, weigh, weigh_all}
use Rattle.turn_book.specs.Origins.{Origin}
use Rattle.turn_book.specs.Views.{longer, shorter}

-- one for a ticket, zero for none
abbrev pub waiting_for : Option ℕ → ℕ
waiting_for None = 0
waiting_for (Some t) = 1

module _ {S : Type 0} where
  abbrev pub waiting : Known S → ℕ
  waiting v = waiting_for v.ticket

  -- the sum of a number over all views
  abbrev pub total : (Known S → ℕ) → List (Known S) → ℕ
  total f [] = 0
  total f (v ∷ vs) = f v + total f vs

  -- all lists of entries that a view holds
  abbrev pub lists : Known S → List (List Entry)
  lists v = v.mine ∷ v.joined

  -- a pass that was joined to another has no ticket and holds no entry
  pub record IsSpent (v : Known S) : Type 0 where
    pub no_ticket : v.ticket ≡ None
    pub no_turn : v.turn ≡ false
    pub no_seen : v.seen ≡ []
    pub no_mine : v.mine ≡ []
    pub no_joined : v.joined ≡ []

  -- the passes stand for as many as the book was made for
  pub record Counted (passes : ℕ) (views : List (Known S)) : Type 0 where
    pub in_all : total (λ v. v.parts) views ≡ passes
    pub few : passes < 2 ^ 32
    pub idle : (id : ℕ) (v : Known S) → get_elem? views id ≡ some v → v.parts ≡ 0 → IsSpent v

  -- tickets and turns, modulo 2^64: the tickets drawn are the turns served plus the passes that wait, and these have
  -- the next numbers, all different
  pub record Queued (ticket serving : ℕ) (views : List (Known S)) : Type 0 where
    pub served : ℕ
    pub serving_is : serving ≡ served % 2 ^ 64
    pub ticket_is : ticket ≡ (served + total waiting views) % 2 ^ 64
    pub in_line : (id : ℕ) (v : Known S) (t : ℕ) → get_elem? views id ≡ some v → v.ticket ≡ Some t
        → (k : ℕ) × (k < total waiting views) × (t ≡ (served + k) % 2 ^ 64)
    pub apart : (i j : ℕ) (v w : Known S) (t : ℕ) → get_elem? views i ≡ some v → get_elem? views j ≡ some w
        → v.ticket ≡ Some t → w.ticket ≡ Some t → i ≡ j

  -- the logs that passes have seen are prefixes of the present log, and the entries that they added make it up
  pub record Logged (present : List Entry) (views : List (Known S)) : Type 0 where
    pub seen : (id : ℕ) (v : Known S) → get_elem? views id ≡ some v → Begins v.seen present
    pub told : (id : ℕ) (v : Known S) → get_elem? views id ≡ some v → Begins v.told present
    pub longest : (id : ℕ) × (v : Known S) × (get_elem? views id ≡ some v) × (v.seen ≡ present)
    pub in_order : (id : ℕ) (v : Known S) → get_elem? views id ≡ some v → EachWithin (lists v) present
    pub exactly : (h : Entry → ℕ) → total (λ v. weigh_all h (lists v)) views ≡ weigh h present

  -- either the value is in the slot, or the pass with the turn has it; while it is out, the present log is the one with
  -- which it was taken
  module _ (log : S → List Entry) (origin : S → Origin) (first : S) where
    pub record IsHome (present : List Entry) (home : maybe.Option (Option S)) (views : List (Known S)) : Type 0 where
      pub value : S
      pub there : home ≡ some (Some value)
      pub log_is : log value ≡ present
      pub origin_is : origin value ≡ origin first
      pub none_out : (id : ℕ) (v : Known S) → get_elem? views id ≡ some v → v.turn ≡ false

    pub record IsOut (views : List (Known S)) : Type 0 where
      pub holder : ℕ
      pub view : Known S
      pub at : get_elem? views holder ≡ some view
      pub holds : view.turn ≡ true

    pub record Placed (serving : ℕ) (present : List Entry) (homes : List (maybe.Option (Option S)))
        (views : List (Known S)) : Type 0 where
      pub one_slot : length homes ≡ 1
      pub place : ((home : maybe.Option (Option S)) × (get_elem? homes 0 ≡ some home) × IsHome present home views)
          ⊎ IsOut views
      pub turn_is : (id : ℕ) (v : Known S) → get_elem? views id ≡ some v → v.turn ≡ true
          → (v.ticket ≡ Some serving) × (v.seen ≡ present)
      pub one_origin : (id : ℕ) (v : Known S) → get_elem? views id ≡ some v → v.parts ≢ 0 → v.origin ≡ Some first

    pub record HoldsAt (passes : ℕ) (s : State (Option S) (Known S)) : Type 0 where
      pub ticket : ℕ
      pub serving : ℕ
      pub present : List Entry
      pub words : s.words ≡ ticket ∷ serving ∷ []
      pub counted : Counted passes s.views
      pub queued : Queued ticket serving s.views
      pub logged : Logged present s.views
      pub placed : Placed serving present s.homes s.views

  -- the whole rule
  abbrev pub Holds : (S → List Entry) → (S → Origin) → Opening S → State (Option S) (Known S) → Type 0
  Holds log origin key s = HoldsAt log origin key.first.value key.passes s

  -- the view of the first pass
  abbrev pub first_view : Opening S → Known S
  first_view key = record {
    origin = Some key.first.value;
    parts = key.passes;
    ticket = None;
    turn = false;
    seen = [];
    told = [];
    mine = [];
    joined = [];
  }

  -- what a pass keeps when a second one is split off
  abbrev pub left_of : Known S → Known S
  left_of v = record {
    origin = v.origin;
    parts = v.parts - 1;
    ticket = v.ticket;
    turn = v.turn;
    seen = v.seen;
    told = v.told;
    mine = v.mine;
    joined = v.joined;
  }

  -- what the second pass gets when it is split off
  abbrev pub right_of : Known S → Known S
  right_of v =
      record {
        origin = v.origin;
        parts = 1;
        ticket = None;
        turn = false;
        seen = v.seen;
        told = [];
        mine = [];
        joined = [];
      }

  -- what a pass is after another was joined to it: it has seen the longer of both logs, and keeps the shorter until it
  -- is known to be a prefix
  abbrev pub both_of : Known S → Known S → Known S
  both_of v w = record {
    origin = v.origin;
    parts = v.parts + w.parts;
    ticket = v.ticket;
    turn = v.turn;
    seen = longer v.seen w.seen;
    told = shorter v.seen w.seen;
    mine = v.mine;
    joined = v.joined ++ lists w;
  }

  -- what is left of a pass that was joined to another
  abbrev pub spent : Known S
  spent = record { origin = None; parts = 0; ticket = None; turn = false; seen = []; told = []; mine = []; joined = [] }
