-- What a call keeps stands.
use Rattle.std.proofs.Common.{ℕ}
use Rattle.rel_model.specs.Quads.{Keeper, IsKeeper, KeepsQuads}
use Rattle.rel_model.proofs.QuadLaws.{quad_stays}
use Rattle.bench_trees.specs.Holding.{Holds}

pub holds_by : (m : ℕ) (v w : Keeper) → KeepsQuads m v w → Holds v w
holds_by m v w k = record { after = k.after; standing = λ q s. quad_stays m v w q k s }

pub holds_on : (u v w : Keeper) → Holds u v → Holds v w → Holds u w
holds_on u v w h k = record { after = k.after; standing = λ q s. k.standing q (h.standing q s) }

pub holds_itself : (w : Keeper) → IsKeeper w → Holds w w
holds_itself w i = record { after = i; standing = λ q s. s }
