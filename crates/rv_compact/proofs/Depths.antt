-- The depth of a height.
use Rattle.std.proofs.Common.{◌≡◌, ◌*◌, zero, suc, ℕ, refl, arith}
use Rattle.rel_model.specs.Trees.{twice}

-- the depth of a square is twice the quarterings above a block
pub twice-double : (d : ℕ) → twice d ≡ d * 2
twice-double zero = refl
twice-double (suc d) = let e = twice-double d in omega arith
