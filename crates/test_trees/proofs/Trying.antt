-- Equations that the tests note: what an operator makes of nothing, and the union of a set with itself.
use Rattle.std.proofs.Common.{◌≡◌, ◌≢◌, ◌≤◌, ◌||◌, zero, suc, ℕ, Bool, true, false, List, Ok, refl, sym, ap, ◌∙◌, arith, get_or}
use Rattle.rel_model.specs.Cells.{Cells, no_cells, some_below}
use Rattle.rel_model.specs.Trees.{bottom_height, top_height, cells, stands}
use Rattle.rel_model.specs.Equations.{Operator, Union, Inter, Diff, Transpose, Compose, IsTrueIn, code_of, depth_of, side_of, result_of}
use Rattle.rel_model.specs.Views.{View, Interns}
use Rattle.rel_model.proofs.NamesStand.{block_set}
use Rattle.rel_model.proofs.TreeLaws.{zero_cells, zero_stands}

-- the limits of heights as numbers
pub record Limits : Type 0 where
  pub low : bottom_height ≡ 3
  pub high : top_height ≡ 24

pub limits : Limits
unfolding bottom_height top_height
limits = record { low = refl; high = refl }

-- a block that was interned stands at the least height
pub block_stands_low : {E : Type 0} (v w : View) (bits n : ℕ) → bits ≢ 0 → Interns {E = E} v w bits (Ok n) → stands w.words (depth_of 3) n ≡ true
unfolding bottom_height
block_stands_low v w bits n h i = (block_set v w bits n h i).standing

some_below-false : (m : ℕ) → some_below m (λ _. false) ≡ false
some_below-false zero = refl
some_below-false (suc m) = some_below-false m

result_of-nothing : (op : Operator) (m : ℕ) → result_of op m no_cells no_cells ≡ no_cells
result_of-nothing Union m = refl
result_of-nothing Inter m = refl
result_of-nothing Diff m = refl
result_of-nothing Transpose m = refl
result_of-nothing Compose m = λ t i j. some_below-false m t

-- what an operator makes of nothing is nothing
pub nothing_is_nothing : (words : List ℕ) (op : Operator) (height : ℕ) → get_or words 0 0 ≡ 0 → 3 ≤ height → height ≤ 24 → IsTrueIn words (record { op = op; height = height; a = 0; b = 0; r = 0 })
unfolding bottom_height top_height
nothing_is_nothing words op height z l h =
    let none = zero_cells words z (depth_of height) in
    record {
      low = l;
      high = h;
      a_stands = zero_stands words (depth_of height);
      b_stands = zero_stands words (depth_of height);
      r_stands = zero_stands words (depth_of height);
      one_operand = λ _. refl;
      means = none ∙ sym (result_of-nothing op (side_of height)) ∙ sym (ap (λ (f : Cells). result_of op (side_of height) f f) none);
    }

or_same : (b : Bool) → b ≡ (b || b)
or_same true = refl
or_same false = refl

-- the union of a block with itself is the block
pub block_is_its_union : (words : List ℕ) (n : ℕ) → stands words (depth_of 3) n ≡ true → IsTrueIn words (record { op = Union; height = 3; a = n; b = n; r = n })
unfolding bottom_height top_height
block_is_its_union words n s = record {
  low = omega arith;
  high = omega arith;
  a_stands = s;
  b_stands = s;
  r_stands = s;
  one_operand = λ e. (let f : 1 ≡ 4 = ap code_of e in absurd (omega arith));
  means = λ t i j. or_same (cells words (depth_of 3) n i j) t;
}
