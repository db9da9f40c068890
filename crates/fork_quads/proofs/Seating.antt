-- What splitting and joining keepers of quads is of them as workers.
use Rattle.std.proofs.Common.{◌≡◌, ◌∙◌, ℕ, Some, sym, ap, subst}
use Rattle.rel_model.specs.Cells.{Cells}
use Rattle.rel_model.specs.Words.{Extends}
use Rattle.rel_model.specs.Quads.{Keeper, IsKeeper, QuadStands, SplitsKeeper, JoinsKeeper}
use Rattle.rel_model.specs.Equations.{depth_of}
use Rattle.rel_model.proofs.TreeLaws.{kept_stands, kept_cells}
use Rattle.rel_model.proofs.Rooting.{relation_in-stays}
use Rattle.rel_model.specs.Seats.{Holds, Kin, SplitsWorker, JoinsWorker}
use Rattle.fork_quads.specs.Crew.{house_of, worker_of}
use Rattle.fork_quads.proofs.Crewing.{house_of-injective, has_quad-stands, stands-quad_in}

-- all that stood stands where more words are seen
pub seen_holds : (old new : Keeper) → IsKeeper old → IsKeeper new → Extends old.view.words new.view.words → Holds (worker_of old) (worker_of new)
seen_holds old new a b x = record {
  same = λ r h. relation_in-stays old.view.words new.view.words r x a.of.canonical b.of.canonical h;
  same_quads = λ q h.
      let s = has_quad-stands old q h in
      let t : QuadStands new q = record { low = s.low; high = s.high; standing = kept_stands old.view.words new.view.words x (depth_of q.height) q.name s.standing } in
      stands-quad_in new q b t
      ∙ ap (λ (c : Cells). Some c) (kept_cells old.view.words new.view.words x a.of.canonical.none_at_0 b.of.canonical.none_at_0 (depth_of q.height) q.name s.standing)
      ∙ sym (stands-quad_in old q a s);
}

-- a keeper that is split is a worker that is split
pub splits_worker : (spare : ℕ) (old new second : Keeper) → IsKeeper old → SplitsKeeper spare old new second → SplitsWorker spare (worker_of old) (worker_of new) (worker_of second)
splits_worker spare old new second i s =
    let x : Extends old.view.words second.view.words = subst (λ ws. Extends old.view.words ws) (sym s.views.words) s.views.seen in
    record {
      holds = seen_holds old new i s.after s.views.seen;
      second_holds = seen_holds old second i s.second_after x;
      house = ap house_of s.table;
      second_house = ap house_of s.second_table;
      misses = s.misses;
      counted = i.counted;
      second_misses = s.second_misses;
      made = s.views.made;
      second_made = s.views.second_made;
      spares = s.views.spares;
      second_spare = s.views.second_spare;
    }

-- keepers that are joined are workers that are joined
pub joins_worker : (old other new : Keeper) → IsKeeper old → IsKeeper other → JoinsKeeper old other new → JoinsWorker (worker_of old) (worker_of other) (worker_of new)
joins_worker old other new i j s = record {
  holds = seen_holds old new i s.after s.views.seen;
  other_holds = seen_holds other new j s.after s.views.also_seen;
  house = ap house_of s.table;
  misses = s.misses;
  counted = i.counted;
  made = s.views.made;
  spares = s.views.spares;
}

-- the same of the keepers inside workers
pub splits_inside : (spare : ℕ) (w old new second : Keeper) → old ≡ w → IsKeeper old → SplitsKeeper spare old new second → SplitsWorker spare (worker_of w) (worker_of new) (worker_of second)
splits_inside spare w old new second v i s = subst (λ (x : Keeper). SplitsWorker spare (worker_of x) (worker_of new) (worker_of second)) v (splits_worker spare old new second i s)

pub joins_inside : (w u old other new : Keeper) → old ≡ w → other ≡ u → IsKeeper old → IsKeeper other → JoinsKeeper old other new → JoinsWorker (worker_of w) (worker_of u) (worker_of new)
joins_inside w u old other new v x i j s =
    subst (λ (y : Keeper). JoinsWorker (worker_of w) (worker_of y) (worker_of new)) x
    (subst (λ (y : Keeper). JoinsWorker (worker_of y) (worker_of other) (worker_of new)) v (joins_worker old other new i j s))

-- workers of one house are keepers of one table
pub one_table : (a b : Keeper) → Kin (worker_of a) (worker_of b) → a.table ≡ b.table
one_table a b e = house_of-injective a.table b.table e
