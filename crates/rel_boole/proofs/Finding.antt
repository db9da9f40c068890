-- A result that stands already is found: over it stand its quarters, which are the results on the operands' quarters.
use Rattle.std.proofs.Common.{◌≡◌, ◌⊎◌, ℕ, Bool, true, inl, inr}
use Rattle.std.proofs.lemmas.Bool.{or_cases, and_parts}
use Rattle.rel_model.specs.Cells.{Cells}
use Rattle.rel_model.proofs.TreeLaws.{Within}
use Rattle.rel_boole.specs.declared.boole.Boole.{Boole}
use Rattle.rel_boole.specs.declared.boole.Boole.TheVariants.{Union as UNION, Inter as INTER, Diff as DIFF}
use Rattle.rel_boole.specs.Cellwise.{holds_by, cells_by}

-- an operator holds where one of its operands does
holds_by-one : (op : Boole) (x y : Bool) → holds_by op x y ≡ true → (x ≡ true) ⊎ (y ≡ true)
holds_by-one UNION x y e = or_cases x y e
holds_by-one INTER x y e = inl (and_parts _ _ e).0
holds_by-one DIFF x y e = inl (and_parts _ _ e).0

-- so its result lies within the square of its operands
pub cells_by-within : (op : Boole) (m : ℕ) (f g : Cells) → Within m m f → Within m m g → Within m m (cells_by op f g)
cells_by-within op m f g a b = record {
  row = λ i j e. elim (holds_by-one op (f i j) (g i j) e) [ inl x ↦ a.row i j x | inr y ↦ b.row i j y ];
  col = λ i j e. elim (holds_by-one op (f i j) (g i j) e) [ inl x ↦ a.col i j x | inr y ↦ b.col i j y ];
}
