-- What is true of every table and of every seat, and how callers see them.
use Rattle.std.specs.Prelude.{◌≡◌, ◌≤◌, ◌<◌, ◌+◌, ◌^◌, ℕ, []}
use Rattle.atomic_table.specs.Table.{Me}
use Rattle.atomic_table.specs.Seated.{TableId, table_id_coded}
use Rattle.rel_model.specs.Words.{IsDistinct, most_bits}
use Rattle.rel_model.specs.Equations.{memo_slots}
use Rattle.rel_model.specs.Views.{House, View}
use Rattle.pair_table.specs.declared.rule.Known.{Known}
use Rattle.pair_table.specs.declared.rule.Start.{Start}

-- the identity of a table
abbrev pub house_of : TableId → House
house_of id = table_id_coded.code id

-- a table has its node words and its memo words, and no slot for values
pub record IsTable (id : TableId) (key : Start) (count bits seats : ℕ) : Type 0 where
  pub words : id.words ≡ 2 ^ bits + memo_slots
  pub slots : id.slots ≡ 0
  pub bits_are : key.bits ≡ bits
  pub seats_are : key.seats ≡ seats
  pub count_is : count + 2 ≡ 2 ^ bits
  pub few_bits : bits ≤ most_bits
  pub small : count + 2 ≤ 2 ^ most_bits
  pub not_none : 0 < count

-- a seat stands for itself and its spare seats, and its names are canonical
pub record IsSeat {S : Type 0} (me : Me S Known) (spare : ℕ) : Type 0 where
  pub parts : me.0.parts ≡ spare + 1
  pub none_held : me.1 ≡ []
  pub canonical : IsDistinct me.0.words

-- a seat as callers see it
abbrev pub view_of : {S : Type 0} → TableId → Me S Known → ℕ → ℕ → View
view_of id me spare refused = record {
  house = house_of id;
  words = me.0.words;
  made = me.0.made;
  spare = spare;
  last = me.0.last;
  refused = refused;
}
