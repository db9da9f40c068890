-- Walks along a relation, and its closures (Schmidt and Ströhlein, Relations and Graphs).
use Rattle.std.specs.Prelude.{◌≡◌, ◌==◌, ◌&&◌, ◌||◌, zero, suc, ℕ, Bool, true, false}
use Rattle.rel_model.specs.Relation.{Relation, has, relation_of}
use Rattle.rel_model.specs.Cells.{some_below}

-- whether there is a walk of this many steps: a walk of one step is a pair, a longer one is a pair and a walk from its
-- end; no walk has zero steps
abbrev pub walk : Relation → ℕ → ℕ → ℕ → Bool
walk r zero x y = false
walk r (suc zero) x y = has r x y
walk r (suc (suc k)) x y = some_below r.cols (λ z. has r x z && walk r (suc k) z y)

-- the pairs joined by a walk of at least one and at most m steps
unfoldable pub walks_within : ℕ → Relation → Relation
walks_within m r = relation_of r.rows r.cols (λ x y. some_below m (λ k. walk r (suc k) x y))

-- the transitive closure: (x, y) if there is a walk from x to y of at least one step; no more steps are needed than
-- there are elements
unfoldable pub transitive_closure : Relation → Relation
transitive_closure r = walks_within r.rows r

-- the reflexive closure: the pairs of a relation, and (i, i)
unfoldable pub reflexive_closure : Relation → Relation
reflexive_closure r = relation_of r.rows r.cols (λ i j. has r i j || (i == j))

-- ---- what these are
-- two elements joined by a walk of any length
pub record AreJoined (r : Relation) (x y : ℕ) : Type 0 where
  pub steps : ℕ
  pub walks : walk r steps x y ≡ true

-- each pair of the first relation is in the second
abbrev pub IsWithin : Relation → Relation → Type 0
IsWithin r s = (i j : ℕ) → has r i j ≡ true → has s i j ≡ true
