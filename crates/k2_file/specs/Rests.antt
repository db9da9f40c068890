-- The bits of a tree that are still to be read, a list for each level: from the level below a square down to the cells.
-- The k-th set bit of a level owns the k-th group of four of the next, so reading quarter by quarter, depth first,
-- takes the bits of each level in order.
use Rattle.std.specs.Prelude.{◌≡◌, ◌==◌, ◌&&◌, ◌||◌, ◌+◌, ◌*◌, ◌^◌, nat_lt, cond, zero, suc, ℕ, Bool, true, List, [], ◌∷◌, length, take, drop, Option, None}
use Rattle.std.specs.List.{flat_map}
use Rattle.rel_model.specs.Cells.{Cells}
use Rattle.rel_model.specs.Listed.{is_among}
use Rattle.run_model.specs.Files.{Corner, whole, quarters, chosen, ones, cell_outside}

-- what is still to be read after n groups of the first level, and after the groups that their set bits own below it
abbrev pub behind : ℕ → List (List Bool) → List (List Bool)
behind n [] = []
behind n (bits ∷ rests) = drop (4 * n) bits ∷ behind (ones (take (4 * n) bits)) rests

-- the pairs below submatrices, each of which has the next group of the first level
abbrev pub pairs_below : List Corner → List (List Bool) → List Corner
pairs_below ps [] = ps
pairs_below ps (bits ∷ rests) = pairs_below (chosen (flat_map (quarters (2 ^ length rests)) ps) bits) rests

-- how many pairs there are below n submatrices
abbrev pub count_below : ℕ → List (List Bool) → ℕ
count_below n [] = n
count_below n (bits ∷ rests) = count_below (ones (take (4 * n) bits)) rests

-- bits begin with n groups, each with a set bit
abbrev pub AreGroups : ℕ → List Bool → Type 0
AreGroups zero bits = Unit {0}
AreGroups (suc n) (a ∷ b ∷ c ∷ d ∷ bits) = ((a || (b || (c || d))) ≡ true) × AreGroups n bits
AreGroups (suc n) [] = ⊥
AreGroups (suc n) (a ∷ []) = ⊥
AreGroups (suc n) (a ∷ b ∷ []) = ⊥
AreGroups (suc n) (a ∷ b ∷ c ∷ []) = ⊥

-- the first level begins with n groups, each with a set bit, and the levels below it with the groups that set bits own
abbrev pub AreThere : ℕ → List (List Bool) → Type 0
AreThere n [] = Unit {0}
AreThere n (bits ∷ rests) = AreGroups n bits × AreThere (ones (take (4 * n) bits)) rests

-- the cells of a square, if its bit is set
abbrev pub cells_of_part : Bool → List (List Bool) → Cells
cells_of_part is_set rests = is_among (pairs_below (cond is_set whole []) rests)

-- the cells of a set in a square of this side
abbrev pub cells_inside : ℕ → Cells → Cells
cells_inside side f i j = nat_lt i side && (nat_lt j side && f i j)

-- what is still to be read of a tree's levels, given where each begins, in groups; the last level is that of the cells
abbrev pub rests_at : List Bool → List Bool → List ℕ → List (List Bool)
rests_at tree cells [] = []
rests_at tree cells (at ∷ places) = drop (4 * at) (cond (length places == 0) cells tree) ∷ rests_at tree cells places

-- where the levels of a tree begin, in groups, for a number of levels above the cells, given how many groups the first
-- has and where it begins
abbrev pub starts_of : ℕ → ℕ → ℕ → List Bool → List ℕ
starts_of zero groups from tree = 0 ∷ []
starts_of (suc levels) groups from tree =
    from ∷ starts_of levels (ones (take (4 * groups) (drop (4 * from) tree))) (from + groups) tree

-- places moved on by n submatrices
pub record MovesOn (tree cells : List Bool) (n : ℕ) (old new : List ℕ) : Type 0 where
  pub many : length new ≡ length old
  pub rests : rests_at tree cells new ≡ behind n (rests_at tree cells old)

-- how many groups the last level has below n submatrices
abbrev pub groups_below : ℕ → List (List Bool) → ℕ
groups_below n [] = 0
groups_below n (bits ∷ rests) = cond (length rests == 0) n (groups_below (ones (take (4 * n) bits)) rests)

-- the number of the first set cell outside the sizes below submatrices, counting from this number
abbrev pub outside_below : ℕ → ℕ → ℕ → List Corner → List (List Bool) → Option ℕ
outside_below rows cols at ps [] = None
outside_below rows cols at ps (bits ∷ rests) = cond (length rests == 0)
    (cell_outside rows cols at (flat_map (quarters (2 ^ length rests)) ps) bits)
    (outside_below rows cols at (chosen (flat_map (quarters (2 ^ length rests)) ps) bits) rests)

-- the last of several places
abbrev pub last_place : List ℕ → ℕ
last_place [] = 0
last_place (at ∷ places) = cond (length places == 0) at (last_place places)
