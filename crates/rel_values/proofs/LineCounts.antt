-- The lines of a relation have together as many pairs as the relation.
-- 1. A relation has as many pairs as there are cells within its sizes, counted row by row.
-- 2. Counted column by column they are as many: each row adds one to the columns in which it has a cell.
-- 3. So it makes no difference whether the lines are the rows or the columns.
use Rattle.std.proofs.Common.{◌≡◌, ◌<◌, ◌≤◌, ◌+◌, ◌*◌, ◌^◌, ◌∙◌, ℕ, zero, suc, Bool, true, false, cond, refl, sym, ap, ap₂, arith, inl, inr}
use Rattle.std.proofs.lemmas.Bool.{cases_eq}
use Rattle.rel_model.specs.Relation.{Relation, IsRelation, has, relation_of}
use Rattle.rel_model.specs.Cells.{Cells}
use Rattle.rel_model.specs.Algebra.{HasType}
use Rattle.rel_model.specs.Choice.{count_below, count}
use Rattle.rel_model.specs.Worker.{Worker, Keeps, MakesAtMost, MissesNothing}
use Rattle.rel_model.proofs.Relations.{IsRelation-relation_of, rows-relation_of, cols-relation_of, has-relation_of}
use Rattle.rel_model.proofs.Workers.{keeps_itself, keeps_trans}
use Rattle.rel_choice.specs.Counts.{sum_below, cells_count}
use Rattle.rel_choice.proofs.Sums.{count_below-agree, count_below-limit, sum_below-agree, sum_below-add, sum_below-none, cells_count-within}
use Rattle.rel_choice.proofs.CellCounts.{pairs-count}
use Rattle.rel_choice.proofs.Standing.{has-within}
use Rattle.rel_slices.specs.declared.thin.Thin.{Thin}
use Rattle.rel_slices.specs.Thin.{laid, line_set}

-- ---- the cells of a relation
pairs-cells : (r : Relation) → IsRelation r → count r ≡ cells_count r.rows r.cols (has r)
pairs-cells r v =
    let a : r.rows ≤ r.rows + r.cols = omega arith in
    let b : r.cols ≤ r.rows + r.cols = omega arith in
    pairs-count r (r.rows + r.cols) v a b ∙ cells_count-within (r.rows + r.cols) (r.rows + r.cols) r.rows r.cols (has r) a b (has-within r v)

tested-cells : (m n : ℕ) (t : ℕ → ℕ → Bool) → count (relation_of m n t) ≡ cells_count m n t
tested-cells m n t =
    pairs-cells (relation_of m n t) (IsRelation-relation_of m n t)
    ∙ ap₂ (λ (a b : ℕ). cells_count a b (has (relation_of m n t))) (rows-relation_of m n t) (cols-relation_of m n t)
    ∙ sum_below-agree m (λ i. count_below n (has (relation_of m n t) i)) (λ i. count_below n (t i))
    (λ i l. count_below-agree n (has (relation_of m n t) i) (t i) (λ j k. has-relation_of m n t i j l k))

-- ---- by rows and by columns
count-ones : (n : ℕ) (t : ℕ → Bool) → sum_below n (λ k. cond (t k) 1 0) ≡ count_below n t
count-ones zero t = refl
count-ones (suc n) t = ap (λ (x : ℕ). x + cond (t n) 1 0) (count-ones n t)

cells_count-turned : (m n : ℕ) (f : Cells) → cells_count m n f ≡ cells_count n m (λ i j. f j i)
cells_count-turned zero n f = sym (sum_below-none n (λ i. count_below 0 (λ j. f j i)) (λ i l. refl))
cells_count-turned (suc m) n f =
    ap (λ (x : ℕ). x + count_below n (f m)) (cells_count-turned m n f)
    ∙ ap (λ (x : ℕ). sum_below n (λ i. count_below m (λ j. f j i)) + x) (sym (count-ones n (f m)))
    ∙ sym (sum_below-add n (λ i. count_below m (λ j. f j i)) (λ i. cond (f m i) 1 0))

-- ---- lines
line-cells : (n : ℕ) (r : Relation) → HasType 1 n r → count r ≡ count_below n (has r 0)
line-cells n r t =
    let e : count r ≡ 0 + count_below n (has r 0) = pairs-cells r t.valid ∙ ap₂ (λ (a b : ℕ). cells_count a b (has r)) t.row_size t.col_size in
    omega (arith, e)

laid-cells : (turned : Bool) (n other : ℕ) (line : ℕ → Relation) → count (laid turned n other line) ≡ sum_below n (λ i. count_below other (has (line i) 0))
unfolding laid
laid-cells false n other line = tested-cells n other (λ i j. has (line i) 0 j)
laid-cells true n other line = tested-cells other n (λ i j. has (line j) 0 i) ∙ cells_count-turned other n (λ i j. has (line j) 0 i)

-- all lines together
pub count-laid : (turned : Bool) (n other : ℕ) (line : ℕ → Relation) → ((i : ℕ) → i < n → HasType 1 other (line i)) → count (laid turned n other line) ≡ sum_below n (λ i. count (line i))
count-laid turned n other line h =
    laid-cells turned n other line
    ∙ sum_below-agree n (λ i. count_below other (has (line i) 0)) (λ i. count (line i)) (λ i l. sym (line-cells other (line i) (h i l)))

-- one number is at most the sum of all
sum_below-one : (n : ℕ) (g : ℕ → ℕ) (k : ℕ) → k < n → g k ≤ sum_below n g
sum_below-one zero g k l = absurd (omega (arith, l))
sum_below-one (suc n) g k l = elim (cases_eq k n) [
  | inl e ↦ (let f = ap g e in let l : g k ≤ sum_below n g + g n = omega (arith, f) in l)
  | inr e ↦ (let s = sum_below-one n g k (omega (arith, l, e)) in let l : g k ≤ sum_below n g + g n = omega (arith, s) in l)
]

-- where one line has a pair, all together have one
pub some-laid : (turned : Bool) (n other : ℕ) (line : ℕ → Relation) → ((i : ℕ) → i < n → HasType 1 other (line i)) → (k : ℕ) → k < n → 0 < count (line k) → 0 < count (laid turned n other line)
some-laid turned n other line h k l p =
    let e = count-laid turned n other line h in
    let s = sum_below-one n (λ i. count (line i)) k l in
    omega (arith, p, e, s)

-- a line has at most as many pairs as it ranges over elements
pub line-limit : (n : ℕ) (r : Relation) → HasType 1 n r → count r ≤ n
line-limit n r t = let e = line-cells n r t in let l = count_below-limit n (has r 0) in omega (arith, e, l)

-- ---- while the lines are counted
-- the first lines are counted, and nothing else has changed
pub record Counted (old now : Worker) (s : Thin) (i total : ℕ) : Type 0 where
  pub total_is : total ≡ sum_below i (λ k. count (line_set old s k))
  pub few : total ≤ i * 2 ^ 24
  pub keeps : Keeps old now
  pub room : MakesAtMost 0 old now
  pub misses : MissesNothing old now

pub counted_none : (w : Worker) (s : Thin) → Counted w w s 0 0
counted_none w s = record { total_is = refl; few = omega arith; keeps = keeps_itself w; room = omega arith; misses = refl }

pub counted_more : (old now next : Worker) (s : Thin) (i total more : ℕ) → Counted old now s i total → more ≡ count (line_set old s i) → more ≤ 2 ^ 24
    → Keeps now next → MakesAtMost 0 now next → MissesNothing now next → Counted old next s (i + 1) (total + more)
counted_more old now next s i total more h e l k r m =
    let step : i + 1 ≡ suc i = omega arith in
    let spread : (i + 1) * 2 ^ 24 ≡ i * 2 ^ 24 + 2 ^ 24 = omega arith in
    let so : total ≡ sum_below i (λ k. count (line_set old s k)) = h.total_is in
    let few : total ≤ i * 2 ^ 24 = h.few in
    let made : now.made ≤ old.made + 0 = h.room in
    record {
      total_is = ap₂ (λ (x y : ℕ). x + y) so e ∙ ap (λ (x : ℕ). sum_below x (λ k. count (line_set old s k))) (sym step);
      few = omega (arith, few, l, spread);
      keeps = keeps_trans old now next h.keeps k;
      room = omega (arith, made, r);
      misses = m ∙ h.misses;
    }
