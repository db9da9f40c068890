-- Calls one after the other that make quads: how far they came without a miss, and what is kept and counted where one ends or fails.
use Rattle.std.proofs.Common.{◌≡◌, ◌≤◌, ◌+◌, ℕ, Result, Ok, Err, IsErr, IfOk, sym, ◌∙◌, arith}
use Rattle.std.proofs.lemmas.Bool.{true≢false}
use Rattle.rel_model.specs.declared.Quad.{Quad}
use Rattle.rel_model.specs.Quads.{Keeper, QuadStands, KeepsQuads, ReadsQuads, Counts, one_more_miss}
use Rattle.rel_model.proofs.QuadLaws.{keeps_on, keeps_most, counts_on}
use Rattle.rel_compose.specs.Products.{Gives, IsComposition}
use Rattle.rel_compose.proofs.Multiplying.{composed_after}

-- calls kept all that was, and missed no place
pub record Came (room : ℕ) (old now : Keeper) : Type 0 where
  pub keeps : KeepsQuads room old now
  pub misses : now.misses ≡ old.misses

pub reading : {v w : Keeper} → ReadsQuads v w → Came 0 v w
reading r = record { keeps = r.keeps; misses = r.misses }

pub came_on : {m n : ℕ} {u v w : Keeper} → Came m u v → KeepsQuads n v w → w.misses ≡ v.misses → Came (m + n) u w
came_on {m} {n} {u} {v} {w} a k e = record { keeps = keeps_on m n u v w a.keeps k; misses = e ∙ a.misses }

-- after such calls, what the last one gives
pub gives : {T E : Type 0} {P : T → Type 0} {m n l : ℕ} {u v w : Keeper} {r : Result T E} → IfOk r P → m + n ≤ l → Came m u v → KeepsQuads n v w → Counts v w r → Gives l P u w r
gives {m = m} {n = n} {l = l} {u = u} {v = v} {w = w} {r = r} p o a k c = record { value = p; keeps = keeps_most (m + n) l u w o (keeps_on m n u v w a.keeps k); counts = counts_on u v w r a.misses c }

-- its miss is passed on
pub fails : {T E : Type 0} {P : T → Type 0} {m n l : ℕ} {u v w : Keeper} (r : Result T E) → IsErr r → m + n ≤ l → Came m u v → KeepsQuads n v w → w.misses ≡ one_more_miss v.misses → Gives l P u w r
fails (Ok x) i o a k c = absurd (true≢false (sym i))
fails (Err e) i o a k c = gives tt o a k c

-- a call that gives something came so far
pub given : {T E : Type 0} {P : T → Type 0} {m : ℕ} {u v : Keeper} {x : T} → Gives {E = E} m P u v (Ok x) → Came m u v
given g = record { keeps = g.keeps; misses = g.counts }

-- a composition seen from before a call that reads
pub composed_later : {E : Type 0} {m : ℕ} {v w z : Keeper} {a b : Quad} {r : Result Quad E} → ReadsQuads v w → QuadStands v a → QuadStands v b → Gives m (IsComposition w z a b) w z r → Gives m (IsComposition v z a b) v z r
composed_later {m = m} {v = v} {w = w} {z = z} {a = a} {b = b} {r = r} k s t g = gives (composed_after v w z a b r k s t g.value) (omega arith) (reading k) g.keeps g.counts
