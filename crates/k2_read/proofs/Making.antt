-- What is made of a number: the empty square, a leaf, or a corner.
use Rattle.std.proofs.Common.{◌≡◌, ◌≢◌, ◌≤◌, ◌-◌, ◌^◌, ◌∙◌, ℕ, Bool, List, Some, refl, sym, ap, subst, arith}
use Rattle.std.specs.Prelude.{Ok, Result}
use Rattle.rel_model.specs.declared.Quad.{Quad}
use Rattle.rel_model.specs.declared.Lack.{Lack}
use Rattle.rel_model.specs.Cells.{Cells, no_cells}
use Rattle.rel_model.specs.Quarters.{LiesWithin}
use Rattle.rel_model.specs.Roots.{height_over}
use Rattle.rel_model.specs.Worker.{Worker, GivesQuad, listed_room}
use Rattle.rel_model.proofs.Heights.{height_over-rows, height_over-cols}
use Rattle.rel_model.proofs.Relations.{rows-relation_of, cols-relation_of}
use Rattle.rel_model.proofs.Workers.{keeps_itself}
use Rattle.rel_steps.specs.Making.{MakesQuad}
use Rattle.rel_steps.proofs.Causes.{done_cause}
use Rattle.rel_steps.proofs.Given.{AreParts}
use Rattle.run_model.specs.Cost.{listed_cost, cost_of_loaded}
use Rattle.run_model.specs.Files.{file_height}
use Rattle.run_model.specs.SharedFiles.{Quadrant, quadrant_at, cells_told}
use Rattle.run_model.proofs.SharedCells.{zero_cells, cells_within}
use Rattle.k2_read.specs.Numbers.{cells_under, IsSound, relation_at}
use Rattle.k2_read.proofs.Numbers.{parts-cells}
use Rattle.k2_read.proofs.Rooms.{root-pairs}

-- what stands is given as it is
pub given-made : (lean : Bool) (most h : ℕ) (f : Cells) (w : Worker) (q : Quad) → GivesQuad w h f q → MakesQuad lean most h f w w (Ok q)
given-made lean most h f w q g = record { value = g; keeps = keeps_itself w; room = omega arith; cause = done_cause lean w w q refl }

module _ (quads : List Quadrant) where
  -- number 0 is made of nothing
  pub none-made : (lean : Bool) (most high top h n : ℕ) (w : Worker) → high ≡ top → n ≡ 0 → w.quad (record { height = high; name = 0 }) ≡ Some no_cells
      → MakesQuad lean most top (cells_told quads h n) w w (Ok (record { height = high; name = 0 }))
  none-made lean most high top h n w same zero none =
      given-made lean most top (cells_told quads h n) w (record { height = high; name = 0 })
      (record { means = none ∙ ap Some (sym (ap (cells_told quads h) zero ∙ zero_cells quads h)); same_height = same })

  -- a leaf that is made is the quad, where the height is that of the leaves
  pub leaf-made : (lean : Bool) (most least high h n : ℕ) (v w : Worker) (q : Quad) → least ≡ high → 1 ≤ most
      → MakesQuad lean 1 least (cells_told quads h n) v w (Ok q) → MakesQuad lean most high (cells_told quads h n) v w (Ok q)
  leaf-made lean most least high h n v w q same some e = record {
    value = subst (λ k. GivesQuad w k (cells_told quads h n) q) same e.value;
    keeps = e.keeps;
    room = omega (arith, e.room, some);
    cause = e.cause;
  }

  -- the quarters of a number, as parts of its square
  pub parts-of : (h n : ℕ) (q : Quadrant) → q ≡ quadrant_at quads n → h ≢ 0
      → AreParts h (cells_told quads h n) (h - 1) (cells_told quads (h - 1) q.nw) (cells_told quads (h - 1) q.ne) (cells_told quads (h - 1) q.sw) (cells_told quads (h - 1) q.se)
  parts-of h n q e over = record { next = omega (arith, over); means = sym (parts-cells quads h n q e over) }

  -- the quad of a root, where the tree is as high as the file
  pub root-made : (lean : Bool) (least rows cols n h : ℕ) (v w : Worker) (r : Result Quad Lack) → h ≡ file_height rows cols → h ≡ height_over least rows cols
      → MakesQuad lean (listed_room (cells_under quads h n) (h - least)) h (cells_told quads h n) v w r
      → MakesQuad lean (listed_room (cells_under quads (file_height rows cols) n) (height_over least rows cols - least)) (height_over least rows cols) (cells_told quads (file_height rows cols) n) v w r
  root-made lean least rows cols n h v w r file tree e =
      subst (λ k. MakesQuad lean (listed_room (cells_under quads (file_height rows cols) n) (k - least)) k (cells_told quads (file_height rows cols) n) v w r) tree
      (subst (λ k. MakesQuad lean (listed_room (cells_under quads k n) (h - least)) h (cells_told quads k n) v w r) file e)

  -- the cells of a number lie in a leaf of its height
  pub leaf-inside : (least h n : ℕ) → h ≡ least → LiesWithin (2 ^ least) (2 ^ least) (cells_told quads h n)
  leaf-inside least h n same = subst (λ k. LiesWithin (2 ^ k) (2 ^ k) (cells_told quads h n)) same (cells_within quads h n)

  -- the cells of a root lie in a leaf, where the tree is no higher
  pub root-inside : (least rows cols h n : ℕ) → IsSound quads rows cols n → h ≡ file_height rows cols → height_over least rows cols ≡ least → LiesWithin (2 ^ least) (2 ^ least) (cells_told quads h n)
  root-inside least rows cols h n s file tree =
      let r : rows ≤ 2 ^ least = subst (λ k. rows ≤ 2 ^ k) tree (height_over-rows least rows cols s.row_limit) in
      let c : cols ≤ 2 ^ least = subst (λ k. cols ≤ 2 ^ k) tree (height_over-cols least rows cols s.col_limit) in
      subst (λ k. LiesWithin (2 ^ least) (2 ^ least) (cells_told quads k n)) (sym file)
      (record { row = λ i j e. let l = s.inside.row i j e in omega (arith, l, r); col = λ i j e. let l = s.inside.col i j e in omega (arith, l, c) })

  -- the nodes of a root are those of its relation
  pub root-cost : (least rows cols n : ℕ) → IsSound quads rows cols n
      → listed_room (cells_under quads (file_height rows cols) n) (height_over least rows cols - least) ≡ cost_of_loaded least (relation_at quads rows cols n)
  unfolding listed_cost
  root-cost least rows cols n s =
      let f = cells_told quads (file_height rows cols) n in
      λ i. listed_room (root-pairs quads rows cols n s i) (height_over least (sym (rows-relation_of rows cols f) i) (sym (cols-relation_of rows cols f) i) - least)
