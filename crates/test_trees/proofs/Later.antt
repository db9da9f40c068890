-- What stood in one state stands in a later one.
use Rattle.std.proofs.Common.{ℕ, refl}
use Rattle.rel_model.specs.declared.Quad.{Quad}
use Rattle.rel_model.specs.declared.Rel.{Rel}
use Rattle.rel_model.specs.Equations.{depth_of}
use Rattle.rel_model.specs.Quads.{Keeper, IsKeeper, QuadStands, KeepsQuads}
use Rattle.rel_model.specs.Worker.{Worker, Stands, Keeps}
use Rattle.rel_model.proofs.TreeLaws.{zero_stands, kept_stands}
use Rattle.rel_model.proofs.NamesStand.{extends_on}
use Rattle.rel_model.proofs.Workers as workers
use Rattle.test_trees.specs.Staying.{Stays}

pub stays_itself : (w : Keeper) → IsKeeper w → Stays w w
stays_itself w i = record { before = i; after = i; seen = record { same_length = refl; kept = λ n h. refl } }

pub stays_kept : (m : ℕ) (v w : Keeper) → KeepsQuads m v w → Stays v w
stays_kept m v w k = record { before = k.before; after = k.after; seen = k.seen }

pub stays_on : (u v w : Keeper) → Stays u v → Stays v w → Stays u w
stays_on u v w s t = record { before = s.before; after = t.after; seen = extends_on _ _ _ s.seen t.seen }

pub stands_kept : (m : ℕ) (v w : Keeper) (q : Quad) → KeepsQuads m v w → QuadStands v q → QuadStands w q
stands_kept m v w q k s = record { low = s.low; high = s.high; standing = kept_stands v.view.words w.view.words k.seen (depth_of q.height) q.name s.standing }

pub stands_later : (v w : Keeper) (q : Quad) → Stays v w → QuadStands v q → QuadStands w q
stands_later v w q k s = record { low = s.low; high = s.high; standing = kept_stands v.view.words w.view.words k.seen (depth_of q.height) q.name s.standing }

pub rel_later : (a b : Worker) (r : Rel) → Keeps a b → Stands a r → Stands b r
rel_later = workers.keeps_stands

-- the quad of name 0 stands at the height of any quad
pub none_stands : (w : Keeper) (a : Quad) → QuadStands w a → QuadStands w (record { height = a.height; name = 0 })
none_stands w a s = record { low = s.low; high = s.high; standing = zero_stands w.view.words (depth_of a.height) }
