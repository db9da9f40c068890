-- The laws of names, as the public functions of `laws.rt` promise them.
use Rattle.std.specs.Prelude.{◌≡◌, ◌≢◌, ◌↔◌, ◌<◌, ◌+◌, ◌*◌, ◌^◌, ℕ, suc, true, List, slice_index}
use Rattle.rel_model.specs.Cells.{Cells, block_cells}
use Rattle.rel_model.specs.Trees.{first_of, second_of, paired, cells, stands}
use Rattle.rel_model.specs.Words.{Extends, IsDistinct}
use Rattle.rel_model.specs.Views.{View, IsSet}

-- two names that stand at one depth are equal if and only if their sets are
abbrev pub NamesAreSets : View → Type 0
NamesAreSets v = (depth a b : ℕ) → stands v.words depth a ≡ true → stands v.words depth b ≡ true
    → (a ≡ b) ↔ (cells v.words depth a ≡ cells v.words depth b)

-- in words that extend others, each name keeps its word, and each name that stood stands with the same set
abbrev pub NamesStay : Type 0
NamesStay = (old new : List ℕ) → Extends old new → IsDistinct old → IsDistinct new
    → ((name : ℕ) → slice_index old name ≢ 0 → slice_index new name ≡ slice_index old name)
    × ((depth name : ℕ) → stands old depth name ≡ true
    → (stands new depth name ≡ true) × (cells new depth name ≡ cells old depth name))

-- in any view, a name whose word is the pair of two names that stand at one depth stands at the next, and its set is
-- the pairing of theirs; a name whose word is a block stands at depth 0
abbrev pub PairsStand : Type 0
PairsStand = (v : View) → ((left right name depth : ℕ) (f g : Cells) → right < 2 ^ 32 → left + right ≢ 0
    → slice_index v.words name ≡ left * 2 ^ 32 + right → IsSet v depth left f → IsSet v depth right g
    → IsSet v (suc depth) name (paired depth f g))
    × ((bits name : ℕ) → bits ≢ 0 → slice_index v.words name ≡ bits → IsSet v 0 name (block_cells bits))

-- both halves of a name that stands above depth 0 stand at the depth below, and its set is the pairing of theirs
abbrev pub KidsStand : View → Type 0
KidsStand v = (depth name : ℕ) → stands v.words (suc depth) name ≡ true
    → (stands v.words depth (first_of (slice_index v.words name)) ≡ true)
    × (stands v.words depth (second_of (slice_index v.words name)) ≡ true)
    × (cells v.words (suc depth) name ≡ paired depth (cells v.words depth (first_of (slice_index v.words name)))
    (cells v.words depth (second_of (slice_index v.words name))))
