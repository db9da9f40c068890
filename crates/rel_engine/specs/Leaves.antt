-- The leaves of the table's trees, in the form in which the trait states its law.
use Rattle.std.proofs.Common.{◌≡◌, ℕ, refl}

-- the leaves are blocks of 8 by 8 cells
pub leaf_height_law : ◌≡◌ {A = ℕ} 3 3
leaf_height_law = refl
