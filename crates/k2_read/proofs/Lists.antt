-- Relations that are read one after the other: what is answered so far, and what it took.
use Rattle.std.proofs.Common.{◌≡◌, ◌+◌, ◌∙◌, ℕ, List, [], ◌∷◌, ◌++◌, Option, refl, sym, ap, subst, arith}
use Rattle.rel_model.specs.declared.Quad.{Quad}
use Rattle.rel_model.specs.declared.Rel.{Rel}
use Rattle.rel_model.specs.Relation.{Relation}
use Rattle.rel_model.specs.Worker.{Worker, Gives, Keeps, MakesAtMost, MissesNothing}
use Rattle.rel_model.proofs.Relations.{rows-relation_of, cols-relation_of}
use Rattle.rel_model.proofs.Workers.{keeps_itself, keeps_trans, keeps_gives}
use Rattle.run_model.specs.Cost.{cost_of_loaded, cost_of_gifts}
use Rattle.run_model.specs.Files.{file_height}
use Rattle.run_model.specs.SharedFiles.{Quadrant, cells_told, relation_told}
use Rattle.k2_parts.specs.declared.form.NamedRoot.{NamedRoot as NAMED}
use Rattle.k2_parts.specs.Told.{root_told}
use Rattle.k2_read.specs.Numbers.{AreNoted, relation_at, entries_told}
use Rattle.k2_read.specs.Reading.{IsEntryRead, AreRead}

-- these roots are read: their relations are answered, and the quads of their numbers are noted
pub record SoFar (leaf : ℕ) (quads : List Quadrant) (noted : List (Option Quad)) (roots : List NAMED) (answers : List (List ℕ × Rel)) (old now : Worker) : Type 0 where
  pub keeps : Keeps old now
  pub room : MakesAtMost (cost_of_gifts leaf (entries_told quads roots)) old now
  pub misses : MissesNothing old now
  pub are : AreRead now (entries_told quads roots) answers
  pub are_noted : AreNoted now quads noted

read-later : (v w : Worker) → Keeps v w → (es : List (List ℕ × Relation)) (xs : List (List ℕ × Rel)) → AreRead v es xs → AreRead w es xs
read-later v w k [] [] a = tt
read-later v w k [] (x ∷ xs) a = absurd a
read-later v w k (e ∷ es) [] a = absurd a
read-later v w k (e ∷ es) (x ∷ xs) a = (
  record { same_name = a.0.same_name; gives = keeps_gives v w e.1.rows e.1.cols e.1 x.1 k a.0.gives },
  read-later v w k es xs a.1,
)

read-more : (w : Worker) (e : List ℕ × Relation) (x : List ℕ × Rel) → IsEntryRead w e x → (es : List (List ℕ × Relation)) (xs : List (List ℕ × Rel)) → AreRead w es xs → AreRead w (es ++ e ∷ []) (xs ++ x ∷ [])
read-more w e x one [] [] a = (one, tt)
read-more w e x one [] (y ∷ xs) a = absurd a
read-more w e x one (d ∷ es) [] a = absurd a
read-more w e x one (d ∷ es) (y ∷ xs) a = (a.0, read-more w e x one es xs a.1)

entries-append : (quads : List Quadrant) (rs ss : List NAMED) → entries_told quads (rs ++ ss) ≡ entries_told quads rs ++ entries_told quads ss
entries-append quads [] ss = refl
entries-append quads (r ∷ rs) ss = ap (λ es. relation_told quads (root_told r) ∷ es) (entries-append quads rs ss)

cost-append : (leaf : ℕ) (es fs : List (List ℕ × Relation)) → cost_of_gifts leaf (es ++ fs) ≡ cost_of_gifts leaf es + cost_of_gifts leaf fs
cost-append leaf [] fs = omega arith
cost-append leaf (e ∷ es) fs = let i = cost-append leaf es fs in omega (arith, i)

roots-cost : (leaf : ℕ) (quads : List Quadrant) (rs ss : List NAMED) → cost_of_gifts leaf (entries_told quads (rs ++ ss)) ≡ cost_of_gifts leaf (entries_told quads rs) + cost_of_gifts leaf (entries_told quads ss)
roots-cost leaf quads rs ss = ap (cost_of_gifts leaf) (entries-append quads rs ss) ∙ cost-append leaf (entries_told quads rs) (entries_told quads ss)

pub so-none : (leaf : ℕ) (quads : List Quadrant) (noted : List (Option Quad)) (w : Worker) → AreNoted w quads noted → SoFar leaf quads noted [] [] w w
so-none leaf quads noted w a = record { keeps = keeps_itself w; room = omega arith; misses = refl; are = tt; are_noted = a }

-- one more relation is read: those before it mean what they meant, it is the last one told, and its nodes add to theirs
pub so-more : (leaf : ℕ) (quads : List Quadrant) (before after : List (Option Quad)) (rs : List NAMED) (xs ys : List (List ℕ × Rel)) (u v w : Worker) (r : NAMED) (rel : Rel)
    → SoFar leaf quads before rs xs u v → ys ≡ xs ++ (r.name, rel) ∷ [] → Gives w r.rows r.cols (relation_at quads r.rows r.cols r.root) rel
    → Keeps v w → MakesAtMost (cost_of_loaded leaf (relation_at quads r.rows r.cols r.root)) v w → MissesNothing v w → AreNoted w quads after
    → SoFar leaf quads after (rs ++ r ∷ []) ys u w
so-more leaf quads before after rs xs ys u v w r rel s same g k room misses noted =
    let f = cells_told quads (file_height r.rows r.cols) r.root in
    let c = roots-cost leaf quads rs (r ∷ []) in
    record {
      keeps = keeps_trans u v w s.keeps k;
      room = omega (arith, s.room, room, c);
      misses = misses ∙ s.misses;
      are = subst (λ es. AreRead w es ys) (sym (entries-append quads rs (r ∷ []))) (subst (λ zs. AreRead w (entries_told quads rs ++ entries_told quads (r ∷ [])) zs) (sym same)
          (read-more w (relation_told quads (root_told r)) (r.name, rel)
          (record { same_name = refl; gives = record { means = g.means; row_size = g.row_size ∙ sym (rows-relation_of r.rows r.cols f); col_size = g.col_size ∙ sym (cols-relation_of r.rows r.cols f) } })
          (entries_told quads rs) xs (read-later v w k (entries_told quads rs) xs s.are)));
      are_noted = noted;
    }

-- the nodes of some roots and of one more are within those of all
pub so-within : (leaf : ℕ) (quads : List Quadrant) (noted : List (Option Quad)) (rs rest all : List NAMED) (xs : List (List ℕ × Rel)) (u v w : Worker) (r : NAMED)
    → SoFar leaf quads noted rs xs u v → all ≡ rs ++ r ∷ rest → MakesAtMost (cost_of_loaded leaf (relation_at quads r.rows r.cols r.root)) v w
    → MakesAtMost (cost_of_gifts leaf (entries_told quads all)) u w
so-within leaf quads noted rs rest all xs u v w r s same room =
    let c = roots-cost leaf quads rs (r ∷ rest) in
    let e = ap (λ zs. cost_of_gifts leaf (entries_told quads zs)) same in
    omega (arith, s.room, room, c, e)
