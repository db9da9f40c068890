-- What lives on from one batch to the next.
use Rattle.std.specs.Prelude.{◌≡◌, ◌≤◌, ℕ, List, [], ◌∷◌}
use Rattle.rel_model.specs.declared.Rel.{Rel}
use Rattle.rel_model.specs.Roots.{relation_in}
use Rattle.rel_model.specs.Words.{stored_count}
use Rattle.rel_model.specs.Equations.{IsSoundTable}
use Rattle.run_model.specs.Carried.{Carried}
use Rattle.run_model.specs.Stored.{uses_of_live}
use Rattle.rv_compact.specs.Compacted.{nodes_of}
use Rattle.relview.specs.declared.between.CarriedOn.{CarriedOn}

-- the names with other relations: each gets the one at its own place
abbrev pub renamed : Carried → List Rel → Carried
renamed [] rels = []
renamed (entry ∷ entries) [] = []
renamed (entry ∷ entries) (rel ∷ rels) = (entry.0, rel) ∷ renamed entries rels

-- these names have, in the new words, relations with the same sets as in the old words
abbrev pub AreAlike : List ℕ → List ℕ → Carried → Carried → Type 0
AreAlike old new [] [] = Unit {0}
AreAlike old new (entry ∷ entries) (other ∷ others) =
    (other.0 ≡ entry.0) × (relation_in new other.1 ≡ relation_in old entry.1) × AreAlike old new entries others
AreAlike old new [] (other ∷ others) = ⊥
AreAlike old new (entry ∷ entries) [] = ⊥

-- the names that live on have their relations in other words of such a table; these are sound, and store at most as
-- many nodes as there are uses of nodes reached from the relations
pub record IsCarriedOn (words : List ℕ) (live : Carried) (next : CarriedOn) : Type 0 where
  pub sound : (bits : ℕ) → IsSoundTable bits words → IsSoundTable bits next.words.items
  pub alike : AreAlike (nodes_of words) (nodes_of next.words.items) live next.names
  pub few : stored_count (nodes_of next.words.items) ≤ uses_of_live (nodes_of words) live
