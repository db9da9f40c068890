-- The rule of a table: what holds of its words and of the views of all seats at every moment.
use Rattle.std.specs.Prelude.{◌≡◌, ◌≢◌, ◌<◌, ◌+◌, ◌-◌, ◌^◌, ℕ, List, [], ◌∷◌, length, None}
use mathlib.Core.Option.{some}
use lib.ListN.{get_elem?}
use Rattle.atomic_table.specs.Table.{State}
use Rattle.rel_model.specs.Words.{Extends, IsSound, stored_count}
use Rattle.rel_model.specs.Equations.{IsMemo, memo_slots, memo_word, node_words}
use Rattle.pair_table.specs.declared.rule.Known.{Known}
use Rattle.pair_table.specs.declared.rule.Start.{Start}
use Rattle.pair_table.specs.Memos.{IsStillTaken, IsStillThere}

-- the sum of a number over all views
abbrev pub total : (Known → ℕ) → List Known → ℕ
total f [] = 0
total f (v ∷ vs) = f v + total f vs

-- the rule of the node words: they are sound; the words extend what each seat has seen, and what a seat that was joined
-- to it had seen; the seats together count as many words as are stored, and stand for as many seats as the table has
pub record NodesHold (start : Start) (words : List ℕ) (views : List Known) : Type 0 where
  pub size_is : length words ≡ 2 ^ start.bits
  pub sound : IsSound words
  pub seen : (id : ℕ) (v : Known) → get_elem? views id ≡ some v → v.parts ≢ 0 → Extends v.words words
  pub told : (id : ℕ) (v : Known) → get_elem? views id ≡ some v → v.parts ≢ 0 → Extends v.told words
  pub idle : (id : ℕ) (v : Known) → get_elem? views id ≡ some v → v.parts ≡ 0 → v.made ≡ 0
  pub made_in_all : total (λ v. v.made) views ≡ stored_count words
  pub parts_in_all : total (λ v. v.parts) views ≡ start.seats
  pub few : start.seats < 2 ^ 32

-- the whole rule: that of the node words; each memo word that is not 0 is a true equation at home in its slot; a slot
-- that a seat found or left taken stays taken; and with a single seat its word stays
pub record Holds {S : Type 0} (start : Start) (s : State S Known) : Type 0 where
  pub long : length s.words ≡ 2 ^ start.bits + memo_slots
  pub nodes : NodesHold start (node_words start.bits s.words) s.views
  pub memo : (slot : ℕ) → slot < memo_slots → memo_word start.bits s.words slot ≢ 0
      → IsMemo (node_words start.bits s.words) slot (memo_word start.bits s.words slot)
  pub taken : (id : ℕ) (v : Known) → get_elem? s.views id ≡ some v → IsStillTaken start.bits s.words v.last
  pub alone : start.seats ≡ 1 → (id : ℕ) (v : Known) → get_elem? s.views id ≡ some v → v.parts ≢ 0
      → IsStillThere start.bits s.words v.last

-- the view of the first seat: it has seen the node words, and counts the stored ones as made
abbrev pub first_view : Start → Known
first_view start = record {
  words = node_words start.bits start.words.items;
  told = node_words start.bits start.words.items;
  made = stored_count (node_words start.bits start.words.items);
  parts = start.seats;
  cut = 0;
  last = None;
}

-- what a seat keeps when a second one is split off
abbrev pub left_of : Known → Known
left_of v = record {
  words = v.words;
  told = v.told;
  made = v.made;
  parts = v.parts - (v.cut + 1);
  cut = v.cut;
  last = v.last;
}

-- what the second seat gets when it is split off
abbrev pub right_of : Known → Known
right_of v = record { words = v.words; told = v.told; made = 0; parts = v.cut + 1; cut = 0; last = v.last }

-- what a seat is after another was joined to it: it also keeps the words that the other has seen, which a further step
-- adds to its own
abbrev pub both_of : Known → Known → Known
both_of v w = record {
  words = v.words;
  told = w.words;
  made = v.made + w.made;
  parts = v.parts + w.parts;
  cut = 0;
  last = v.last;
}

-- what is left of a seat that was joined to another
abbrev pub spent : Known
spent = record { words = []; told = []; made = 0; parts = 0; cut = 0; last = None }
