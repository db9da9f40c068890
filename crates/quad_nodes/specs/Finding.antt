-- Results that stand already are answered, and no word is placed for them.
use Rattle.std.specs.Prelude.{◌≡◌, ℕ, suc, Result, Ok}
use Rattle.rel_model.specs.declared.Quad.{Quad}
use Rattle.rel_model.specs.Cells.{Cells}
use Rattle.rel_model.specs.Trees.{paired}
use Rattle.rel_model.specs.Views.{IsSet}
use Rattle.rel_model.specs.Quads.{Keeper, IsQuad, ReadsQuads}

-- a call answers what was there, places no word and counts no miss
pub record Finds {T E : Type 0} (old new : Keeper) (x : T) (result : Result T E) : Type 0 where
  pub answer : result ≡ Ok x
  pub reads : ReadsQuads old new

-- a quad of this height and set that stood already is found
abbrev pub FindsQuad : {E : Type 0} → Keeper → Keeper → ℕ → Cells → Result Quad E → Type 0
FindsQuad old new height f result = (q : Quad) → IsQuad old height f q → Finds old new q result

-- the empty quad of this height is found
abbrev pub FindsNone : {E : Type 0} → Keeper → Keeper → ℕ → Result Quad E → Type 0
FindsNone old new height result = Finds {T = Quad} old new (record { height = height; name = 0 }) result

-- a name that stood already, with the pairing of two names' sets, is found
abbrev pub FindsPair : {E : Type 0} → Keeper → Keeper → ℕ → ℕ → Result ℕ E → Type 0
FindsPair old new left right result = (depth name : ℕ) (f g : Cells) → IsSet old.view depth left f
    → IsSet old.view depth right g → IsSet old.view (suc depth) name (paired depth f g) → Finds old new name result

-- two quads of this height with these sets that stood already are found
abbrev pub FindsBoth : {E : Type 0} → Keeper → Keeper → ℕ → Cells → Cells → Result (Quad × Quad) E → Type 0
FindsBoth old new height f g result = (p q : Quad) → IsQuad old height f p → IsQuad old height g q
    → Finds old new (p, q) result
