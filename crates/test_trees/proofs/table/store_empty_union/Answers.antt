use Rattle.std.proofs.Common.{◌≡◌, ℕ, List, refl, sym, ap, ◌∙◌, lit≤, get_or}
use Rattle.rel_model.specs.Cells.{Cells, cells_union}
use Rattle.rel_model.specs.Trees.{bottom_height, top_height}
use Rattle.rel_model.specs.Equations.{Union, Equation, IsMemo, depth_of}
use Rattle.rel_model.proofs.TreeLaws.{zero_cells, zero_stands}
use Rattle.test_trees.proofs.table.store_empty_union.Goals as goal

empty_union : (words : List ℕ) → get_or words 0 0 ≡ 0 → IsMemo words 0 35
unfolding bottom_height top_height
empty_union words z =
    let e : Equation = record { op = Union; height = 3; a = 0; b = 0; r = 0 } in
    let none = zero_cells words z (depth_of 3) in
    record {
      equation = e;
      is_word = refl;
      home = refl;
      holds = record {
        low = lit≤ tt;
        high = lit≤ tt;
        a_stands = zero_stands words (depth_of 3);
        b_stands = zero_stands words (depth_of 3);
        r_stands = zero_stands words (depth_of 3);
        one_operand = λ t. refl;
        means = none ∙ sym (ap (λ (f : Cells). cells_union f f) none);
      };
    }

pub memo_store-requires-clause-holds : goal.memo_store-requires-clause-holds
memo_store-requires-clause-holds c = empty_union _ c.requires.canonical.none_at_0
