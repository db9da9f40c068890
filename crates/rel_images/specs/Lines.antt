-- Lines of elements and how they are stored. A line of 2 ^ (least + d) elements is a heap of bytes: its leaves, d
-- levels below node k, hold 2 ^ least elements each, the first ones in the low bits; the children of node k are nodes 2
-- * k and 2 * k + 1.
use Rattle.std.specs.Prelude.{◌≡◌, ◌==◌, ◌<◌, ◌≤◌, ◌+◌, ◌-◌, ◌*◌, ◌^◌, ◌&&◌, ◌||◌, nat_lt, cond, zero, suc, ℕ, Bool, false, List, length, slice_index}
use Rattle.std.specs.Int.{bit_at}
use Rattle.rel_model.specs.declared.Quad.{Quad}
use Rattle.rel_model.specs.declared.Quarters.{Quarters}
use Rattle.rel_model.specs.Cells.{Cells, some_below}
use Rattle.rel_model.specs.Trees.{quartered}
use Rattle.rel_model.specs.Worker.{Worker, HasQuad, quad_set}
use Rattle.rel_steps.specs.Reading.{OnlyReads}

-- a set of elements
abbrev pub Line : Type 0
Line = ℕ → Bool

-- row 0 of a set of cells
abbrev pub first_row : Cells → Line
first_row f j = f 0 j

-- a line as row 0 of a set of cells
abbrev pub one_row : Line → Cells
one_row x i j = (i == 0) && x j

-- a set of cells, with rows and columns exchanged if turned
abbrev pub turned_cells : Bool → Cells → Cells
turned_cells turned f i j = cond turned (f j i) (f i j)

-- the image of a line of m elements: it has element j if cell (k, j) is in the set for some k of the line
abbrev pub image_line : ℕ → Line → Cells → Line
image_line m x f j = some_below m (λ k. x k && f k j)

-- whether a word has a bit
abbrev pub has_bit : ℕ → Line
has_bit w k = bit_at w k == 1

-- the elements that a word holds, among the first m
abbrev pub byte_line : ℕ → ℕ → Line
byte_line m w k = nat_lt k m && has_bit w k

-- which bits the entries of a heap have: whether entry n has bit b
abbrev pub Bits : Type 0
Bits = ℕ → ℕ → Bool

-- the bits of a list of bytes
abbrev pub bits_of : List ℕ → Bits
bits_of xs n b = has_bit (slice_index xs n) b

-- the line under a node that is d levels above the leaves: that of its left child, followed by that of its right child
abbrev pub line_under : ℕ → Bits → ℕ → ℕ → Line
line_under least bits zero k j = nat_lt j (2 ^ least) && bits k j
line_under least bits (suc d) k j = cond (nat_lt j (2 ^ (least + d))) (line_under least bits d (2 * k) j)
    (line_under least bits d (2 * k + 1) (j - 2 ^ (least + d)))

-- the bits of a line stored under node k
abbrev pub bits_under : ℕ → ℕ → ℕ → Line → Bits
bits_under least zero k x n b = (n == k) && (nat_lt b (2 ^ least) && x b)
bits_under least (suc d) k x n b = bits_under least d (2 * k) x n b
    || bits_under least d (2 * k + 1) (λ j. x (2 ^ (least + d) + j)) n b

-- the bits of an image: the line under node i of one heap has its image stored under node j of another
abbrev pub image_bits : ℕ → List ℕ → ℕ → ℕ → ℕ → Cells → Bits
image_bits least xs i j h f = bits_under least (h - least) j
    (image_line (2 ^ h) (line_under least (bits_of xs) (h - least) i) f)

-- down to the leaves, an entry that is 0 has no element under it
abbrev pub IsMarked : ℕ → List ℕ → ℕ → ℕ → Type 0
IsMarked least xs zero k = Unit {0}
IsMarked least xs (suc d) k = (slice_index xs k ≡ 0 → (j : ℕ) → line_under least (bits_of xs) (suc d) k j ≡ false)
    × IsMarked least xs d (2 * k) × IsMarked least xs d (2 * k + 1)

-- the inner entries of a heap with this many leaves were recomputed from their children: if one is 0, both its children
-- are
pub record Marks (leaves : ℕ) (old new : List ℕ) : Type 0 where
  pub len : length new ≡ length old
  pub same : (n : ℕ) → leaves ≤ n → slice_index new n ≡ slice_index old n
  pub none : (k : ℕ) → 0 < k → k < leaves → slice_index new k ≡ 0
      → (slice_index new (2 * k) ≡ 0) × (slice_index new (2 * k + 1) ≡ 0)

-- the heap, of as many elements as a square of height h has rows, holds this line; if an entry is 0, nothing is under
-- it
pub record IsHeap (least h : ℕ) (x : Line) (xs : List ℕ) : Type 0 where
  pub len : length xs ≡ 2 * 2 ^ (h - least)
  pub marked : IsMarked least xs (h - least) 1
  pub line : (j : ℕ) → j < 2 ^ h → line_under least (bits_of xs) (h - least) 1 j ≡ x j

-- these bits were added to a list of bytes
pub record Adds (added : Bits) (old new : List ℕ) : Type 0 where
  pub len : length new ≡ length old
  pub bits : (n b : ℕ) → bits_of new n b ≡ (bits_of old n b || added n b)

-- a walk with fuel: it adds these bits unless it runs out of fuel, and it only reads
pub record Walks (added : Bits) (fuel left : ℕ) (old new : Worker) (ys zs : List ℕ) : Type 0 where
  pub adds : 0 < left → Adds added ys zs
  pub less : (0 < left → 0 < fuel)
  pub len : length zs ≡ length ys
  pub reads : OnlyReads old new

-- the quarters of a quad, or of its transpose
pub record GivesTurned (turned : Bool) (old new : Worker) (quad : Quad) (four : Quarters) : Type 0 where
  pub nw : HasQuad new four.nw
  pub ne : HasQuad new four.ne
  pub sw : HasQuad new four.sw
  pub se : HasQuad new four.se
  pub nw_height : four.nw.height + 1 ≡ quad.height
  pub ne_height : four.ne.height + 1 ≡ quad.height
  pub sw_height : four.sw.height + 1 ≡ quad.height
  pub se_height : four.se.height + 1 ≡ quad.height
  pub means : turned_cells turned (quad_set old quad) ≡ quartered (2 ^ four.nw.height)
      (turned_cells turned (quad_set new four.nw)) (turned_cells turned (quad_set new four.ne))
      (turned_cells turned (quad_set new four.sw)) (turned_cells turned (quad_set new four.se))
