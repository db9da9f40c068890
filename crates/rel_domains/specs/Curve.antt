-- The places of cells on the Z-curve (Morton order): quarter by quarter at each height, and row by row within a leaf.
use Rattle.std.specs.Prelude.{◌≡◌, ◌==◌, ◌+◌, ◌-◌, ◌*◌, ◌^◌, ◌<◌, ◌≤◌, ◌&&◌, ◌++◌, nat_lt, cond, zero, suc, ℕ, Bool, List}
use Rattle.std.specs.List.{list_any, AllByRecursion}
use Rattle.std.specs.List.Sorted.{IsNonDecreasing}
use Rattle.rel_model.specs.Cells.{Cells}

-- which half of 2 * m numbers: 0 if below m, and 1 otherwise
abbrev pub half : ℕ → ℕ → ℕ
half m i = cond (nat_lt i m) 0 1

-- the place of a number within its half
abbrev pub within_half : ℕ → ℕ → ℕ
within_half m i = cond (nat_lt i m) i (i - m)

-- the place of cell (i, j) in a square that is d heights above leaves of side 2 ^ least
abbrev pub place : ℕ → ℕ → ℕ → ℕ → ℕ
place least zero i j = 2 ^ least * i + j
place least (suc d) i j = (2 * half (2 ^ (least + d)) i + half (2 ^ (least + d)) j) * 4 ^ (least + d) + place least d
    (within_half (2 ^ (least + d)) i) (within_half (2 ^ (least + d)) j)

-- whether a number is in a list
abbrev pub holds : List ℕ → ℕ → Bool
holds places n = list_any (λ x. x == n) places

-- the cells of a square of side m whose numbers, counted from base, are in a list
abbrev pub cells_by : ℕ → (ℕ → ℕ → ℕ) → ℕ → List ℕ → Cells
cells_by m number base places i j = nat_lt i m && (nat_lt j m && holds places (base + number i j))

-- the cells whose places are in a list
abbrev pub cells_at : ℕ → ℕ → ℕ → List ℕ → Cells
cells_at least d = cells_by (2 ^ (least + d)) (place least d)

-- all numbers are at least low and below high
abbrev pub AreFrom : ℕ → ℕ → List ℕ → Type 0
AreFrom low high = AllByRecursion (λ x. (low ≤ x) × (x < high))

-- sorted numbers, cut into those below a bound and the rest
pub record IsCut (bound : ℕ) (whole front back : List ℕ) : Type 0 where
  pub parts : whole ≡ front ++ back
  pub below : AllByRecursion (λ x. x < bound) front
  pub above : AllByRecursion (λ x. bound ≤ x) back
  pub front_order : IsNonDecreasing front
  pub back_order : IsNonDecreasing back
