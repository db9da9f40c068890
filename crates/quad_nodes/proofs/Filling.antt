-- A square is full exactly if its halves are one name, and so are theirs, which is that of a full square.
use Rattle.std.proofs.Common.{◌≡◌, ◌<◌, ◌+◌, ◌-◌, ◌*◌, ◌^◌, min, eqb, ltb, suc, ℕ, true, List, refl, sym, ap, subst, ◌∙◌, inl, inr, arith, get_or}
use Rattle.std.proofs.lemmas.Bool.{cases_Bool, ltb-true, eqb-true, eq-eqb}
use Rattle.std.proofs.lemmas.Nat.Bits.{bit_at_ones}
use Rattle.std.specs.Int.{bit_at}
use Rattle.rel_model.specs.declared.Quad.{Quad}
use Rattle.rel_model.specs.Cells.{Cells, cells_rect, block_cells}
use Rattle.rel_model.specs.Trees.{bottom_height, first_of, second_of, rows_at, cols_at, cells, quartered, paired}
use Rattle.rel_model.specs.Equations.{depth_of, side_of}
use Rattle.rel_model.specs.Quads.{Keeper, IsKeeper, quad_cells, QuadStands}
use Rattle.rel_model.proofs.TreeLaws.{same_cells, Within, cells_within, paired_halves, one_set_one_name}
use Rattle.rel_model.proofs.Squares.{four_squares}
use Rattle.rel_model.proofs.QuadLaws.{depth_of-next, side_of-next}
use Rattle.quad_nodes.proofs.Halving.{Halve, halves_stand}
use Rattle.leaf_block.proofs.Sets.{same_block}
use Rattle.quad_nodes.proofs.Squaring.{cells_rect-quartered, rect_within}
use Rattle.quad_nodes.proofs.Finding.{AreWithin, quad_within, quartered_parts}

-- the set of all cells of a square
abbrev pub all_of : ℕ → Cells
all_of m = cells_rect m m

-- the block of 64 ones
pub full_block : (bits : ℕ) → eqb bits (2 ^ 64 - 1) ≡ true → block_cells bits ≡ all_of 8
full_block bits t =
    let e : bits ≡ 2 ^ 64 - 1 = eqb-true bits (2 ^ 64 - 1) t in
    ap block_cells e ∙ same_cells (block_cells (2 ^ 64 - 1)) (all_of 8) (λ i j. elim (cases_Bool (ltb i 8)) [
      | inr x ↦ rw x refl
      | inl x ↦ elim (cases_Bool (ltb j 8)) [
        | inr y ↦ rw (x, y) refl
        | inl y ↦ let p = ltb-true i 8 x in
            let q = ltb-true j 8 y in
            let o : bit_at (2 ^ 64 - 1) (8 * i + j) ≡ 1 = bit_at_ones 64 (8 * i + j) (omega arith) in
            let z : eqb (bit_at (2 ^ 64 - 1) (8 * i + j)) 1 ≡ true = eq-eqb _ 1 o in
            rw (x, y, z) refl
      ]
    ])

pub side_of-bottom : (h : ℕ) → h ≡ bottom_height → side_of h ≡ 8
unfolding bottom_height
side_of-bottom h e = ap side_of e

pub full_quarters : (m : ℕ) → quartered m (all_of m) (all_of m) (all_of m) (all_of m) ≡ all_of (m + m)
full_quarters m =
    let a : min (m + m) m ≡ m = omega arith in
    let b : m + m - m ≡ m = omega arith in
    sym (cells_rect-quartered m (m + m) (m + m)
    ∙ ap (λ (x : ℕ). quartered m (cells_rect x x) (cells_rect x (m + m - m)) (cells_rect (m + m - m) x) (cells_rect (m + m - m) (m + m - m))) a
    ∙ ap (λ (y : ℕ). quartered m (cells_rect m m) (cells_rect m y) (cells_rect y m) (cells_rect y y)) b)

-- a square is full where its halves are one name, and so are theirs, that of a full square: all its quarters are full
pub full_by_quarter : (s0 s1 s2 : Keeper) (q : Quad) (north south west east : ℕ) → QuadStands s0 q → bottom_height < q.height → Halve s0 s1 q.name north south → north ≡ south → Halve s1 s2 north west east → west ≡ east
    → cells s2.view.words (depth_of (q.height - 1)) west ≡ all_of (side_of (q.height - 1)) → quad_cells s0 q ≡ all_of (side_of q.height)
full_by_quarter s0 s1 s2 q north south west east s l h0 ns h1 we full =
    let k : ℕ = depth_of (q.height - 1) in
    let m : ℕ = side_of (q.height - 1) in
    let h = halves_stand s0 s1 q north south s l h0 in
    let g = h1 k h.first in
    let row : cells s1.view.words (suc k) north ≡ paired k (all_of m) (all_of m) =
    g.means ∙ ap (λ (x : ℕ). paired k (cells s2.view.words k west) (cells s2.view.words k x)) (sym we) ∙ ap (λ (c : Cells). paired k c c) full in
    ap (λ (x : ℕ). cells s0.view.words x q.name) (depth_of-next q.height l) ∙ h.means
    ∙ ap (λ (x : ℕ). paired (suc k) (cells s1.view.words (suc k) north) (cells s1.view.words (suc k) x)) (sym ns)
    ∙ ap (λ (c : Cells). paired (suc k) c c) row
    ∙ four_squares (q.height - 1 - bottom_height) (all_of m) (all_of m) (all_of m) (all_of m)
    ∙ full_quarters m
    ∙ ap all_of (sym (side_of-next q.height l))

-- what the halves need
pub stands_below : (s0 s1 s2 : Keeper) (q : Quad) (north south west east : ℕ) → QuadStands s0 q → bottom_height < q.height → Halve s0 s1 q.name north south → Halve s1 s2 north west east → QuadStands s2 (record { height = q.height - 1; name = west })
stands_below s0 s1 s2 q north south west east s l h0 h1 =
    let h = halves_stand s0 s1 q north south s l h0 in
    record { low = omega arith; high = (let e = s.high in omega arith); standing = (h1 (depth_of (q.height - 1)) h.first).first }

-- ---- and no other square is
-- a block with every cell has 64 ones
pub only_full_block : (bits : ℕ) → bits < 2 ^ 64 → block_cells bits ≡ all_of 8 → eqb bits (2 ^ 64 - 1) ≡ true
only_full_block bits l e =
    let full : block_cells (2 ^ 64 - 1) ≡ all_of 8 = full_block (2 ^ 64 - 1) refl in
    eq-eqb bits (2 ^ 64 - 1) (same_block bits (2 ^ 64 - 1) l (omega arith) (e ∙ sym full))

-- the halves of a full square are one name, of two full squares of the height below
pub record FullHalves (w : Keeper) (h north south : ℕ) : Type 0 where
  pub same : north ≡ south
  pub row : cells w.view.words (suc (depth_of h)) north ≡ paired (depth_of h) (all_of (side_of h)) (all_of (side_of h))
  pub within : Within (rows_at (depth_of h)) (cols_at (depth_of h)) (all_of (side_of h))

-- the halves of a full square are one name: its four quarters are full, so both halves have one set, hence one name
pub full_halves : (s0 s1 : Keeper) (q : Quad) (north south : ℕ) → IsKeeper s1 → QuadStands s0 q → bottom_height < q.height → Halve s0 s1 q.name north south → quad_cells s0 q ≡ all_of (side_of q.height) → FullHalves s1 (q.height - 1) north south
full_halves s0 s1 q north south i s l h0 full =
    let W : List ℕ = s1.view.words in
    let b : ℕ = q.height - 1 in
    let k : ℕ = depth_of b in
    let m : ℕ = side_of b in
    let h = halves_stand s0 s1 q north south s l h0 in
    let g0 : Cells = cells W k (first_of (get_or W north 0)) in
    let g1 : Cells = cells W k (second_of (get_or W north 0)) in
    let g2 : Cells = cells W k (first_of (get_or W south 0)) in
    let g3 : Cells = cells W k (second_of (get_or W south 0)) in
    let a : AreWithin m g0 g1 g2 g3 = record { nw = quad_within s1 b _; ne = quad_within s1 b _; sw = quad_within s1 b _; se = quad_within s1 b _ } in
    let t : Within m m (all_of m) = rect_within m m m (omega arith) (omega arith) in
    let c : AreWithin m (all_of m) (all_of m) (all_of m) (all_of m) = record { nw = t; ne = t; sw = t; se = t } in
    let e : quartered m g0 g1 g2 g3 ≡ quartered m (all_of m) (all_of m) (all_of m) (all_of m) =
    sym (four_squares (b - bottom_height) g0 g1 g2 g3) ∙ sym h.means ∙ ap (λ (x : ℕ). cells s0.view.words x q.name) (sym (depth_of-next q.height l)) ∙ full ∙ ap all_of (side_of-next q.height l) ∙ sym (full_quarters m) in
    let y = quartered_parts m g0 g1 g2 g3 (all_of m) (all_of m) (all_of m) (all_of m) a c e in
    let n : cells W (suc k) north ≡ paired k (all_of m) (all_of m) = ap (λ (x : Cells). paired k x g1) y.nw ∙ ap (λ (x : Cells). paired k (all_of m) x) y.ne in
    let z : cells W (suc k) south ≡ paired k (all_of m) (all_of m) = ap (λ (x : Cells). paired k x g3) y.sw ∙ ap (λ (x : Cells). paired k (all_of m) x) y.se in
    record {
      same = one_set_one_name W i.of.canonical (suc k) north south h.first h.second (n ∙ sym z);
      row = n;
      within = subst (λ (x : Cells). Within (rows_at k) (cols_at k) x) y.nw (cells_within W k (first_of (get_or W north 0)));
    }

-- the halves of its halves are one name too, that of a full square
pub record FullQuarters (w : Keeper) (h west east : ℕ) : Type 0 where
  pub same : west ≡ east
  pub full : cells w.view.words (depth_of h) west ≡ all_of (side_of h)

pub full_quarters_are : (s0 s1 s2 : Keeper) (q : Quad) (north south west east : ℕ) → IsKeeper s1 → IsKeeper s2 → QuadStands s0 q → bottom_height < q.height → Halve s0 s1 q.name north south → Halve s1 s2 north west east → quad_cells s0 q ≡ all_of (side_of q.height) → FullQuarters s2 (q.height - 1) west east
full_quarters_are s0 s1 s2 q north south west east i1 i2 s l h0 h1 full =
    let k : ℕ = depth_of (q.height - 1) in
    let m : ℕ = side_of (q.height - 1) in
    let f = full_halves s0 s1 q north south i1 s l h0 full in
    let g = h1 k (halves_stand s0 s1 q north south s l h0).first in
    let y = paired_halves k (cells s2.view.words k west) (cells s2.view.words k east) (all_of m) (all_of m) (cells_within s2.view.words k west) f.within (sym g.means ∙ f.row) in
    record { same = one_set_one_name s2.view.words i2.of.canonical k west east g.first g.second (y.firsts ∙ sym y.seconds); full = y.firsts }
