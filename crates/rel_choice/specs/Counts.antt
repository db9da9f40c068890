-- How many cells a square has, and the memory of such counts.
use Rattle.std.specs.Prelude.{◌≡◌, ◌+◌, ◌^◌, ◌&&◌, nat_eq, zero, suc, ℕ, Bool, Option, Some}
use Rattle.rel_model.specs.declared.Quad.{Quad}
use Rattle.rel_model.specs.Cells.{Cells}
use Rattle.rel_model.specs.Choice.{count_below}
use Rattle.rel_model.specs.Worker.{Worker, HasQuad, quad_set}

-- the sum of g over the numbers below n
abbrev pub sum_below : ℕ → (ℕ → ℕ) → ℕ
sum_below zero g = 0
sum_below (suc n) g = sum_below n g + g n

-- how many cells a set has in the first rows and columns
abbrev pub cells_count : ℕ → ℕ → Cells → ℕ
cells_count rows cols f = sum_below rows (λ i. count_below cols (f i))

-- how many cells a quad has
abbrev pub quad_count : Worker → Quad → ℕ
quad_count w q = cells_count (2 ^ q.height) (2 ^ q.height) (quad_set w q)

-- whether two keys, each a height and a name, are equal
abbrev pub same_key : ℕ × ℕ → ℕ × ℕ → Bool
same_key a b = nat_eq a.0 b.0 && nat_eq a.1 b.1

-- each quad in the memory stands, and has as many cells as are noted there
abbrev pub AreCounts : Worker → (ℕ × ℕ → Option ℕ) → Type 0
AreCounts w found = (h n c : ℕ) → found (h, n) ≡ Some c
    → HasQuad w (record { height = h; name = n }) × (c ≡ quad_count w (record { height = h; name = n }))
