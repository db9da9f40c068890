-- Halves twice are quarters, and pairs of pairs are corners.
use Rattle.std.proofs.Common.{◌≡◌, ◌<◌, ◌≤◌, ◌≢◌, ◌+◌, ◌-◌, suc, ℕ, true, Ok, refl, sym, ap, subst, ◌∙◌, arith, get_or}
use Rattle.rel_model.specs.declared.Quad.{Quad}
use Rattle.rel_model.specs.Cells.{Cells, block_cells}
use Rattle.rel_model.specs.Trees.{bottom_height, top_height, cells, stands, first_of, second_of, quartered, paired}
use Rattle.rel_model.specs.Equations.{depth_of, side_of}
use Rattle.rel_model.specs.Views.{IsSet, Interns}
use Rattle.rel_model.specs.Quads.{Keeper, IsKeeper, quad_cells, QuadStands, IsQuad, KeepsQuads, ReadsQuads, AreQuarters}
use Rattle.rel_model.proofs.TreeLaws.{kept_stands, kept_cells, parts_stand, zero_cells}
use Rattle.rel_model.proofs.NamesStand.{block_set}
use Rattle.rel_model.proofs.Squares.{four_squares}
use Rattle.rel_model.proofs.QuadLaws.{depth_of-next, set_after, empty_quad}
use Rattle.quad_nodes.specs.Halves.{AreHalves, IsPaired}

-- a set that stands has the same cells after a call
same_after : (m : ℕ) (v w : Keeper) (k n : ℕ) → KeepsQuads m v w → stands v.view.words k n ≡ true → cells w.view.words k n ≡ cells v.view.words k n
same_after m v w k n x s = kept_cells v.view.words w.view.words x.seen x.before.of.canonical.none_at_0 x.after.of.canonical.none_at_0 k n s

-- the names that are read of a name are its halves
pub halves_are : (v w : Keeper) (n a b : ℕ) → KeepsQuads 0 v w → a ≡ first_of (get_or v.view.words n 0) → b ≡ second_of (get_or v.view.words n 0) → (k : ℕ) → stands v.view.words (suc k) n ≡ true → AreHalves v w k n a b
halves_are v w n a b x e f k s =
    let p = parts_stand v.view.words x.before.of.canonical k n s in
    let sa : stands v.view.words k a ≡ true = subst (λ (m : ℕ). stands v.view.words k m ≡ true) (sym e) p.0 in
    let sb : stands v.view.words k b ≡ true = subst (λ (m : ℕ). stands v.view.words k m ≡ true) (sym f) p.1 in
    record {
      first = kept_stands v.view.words w.view.words x.seen k a sa;
      second = kept_stands v.view.words w.view.words x.seen k b sb;
      means = ap (λ (m : ℕ). paired k (cells v.view.words k m) (cells v.view.words k (second_of (get_or v.view.words n 0)))) (sym e)
          ∙ ap (λ (m : ℕ). paired k (cells v.view.words k a) (cells v.view.words k m)) (sym f)
          ∙ ap (λ (c : Cells). paired k c (cells v.view.words k b)) (sym (same_after 0 v w k a x sa))
          ∙ ap (λ (c : Cells). paired k (cells w.view.words k a) c) (sym (same_after 0 v w k b x sb));
    }

-- the names of two halves at each depth
abbrev pub Halve : Keeper → Keeper → ℕ → ℕ → ℕ → Type 0
Halve v w n a b = (k : ℕ) → stands v.view.words (suc k) n ≡ true → AreHalves v w k n a b

-- the halves of a quad stand over its quarters
pub halves_stand : (v w : Keeper) (q : Quad) (a b : ℕ) → QuadStands v q → bottom_height < q.height → Halve v w q.name a b → AreHalves v w (suc (depth_of (q.height - 1))) q.name a b
halves_stand v w q a b s l h = h (suc (depth_of (q.height - 1))) (subst (λ (m : ℕ). stands v.view.words m q.name ≡ true) (depth_of-next q.height l) s.standing)

-- the halves of a quad's halves are its quarters: two pairings are one quartered square, and each name that was read
-- keeps standing through the later calls
pub quarters_are : (s0 s1 s2 s3 : Keeper) (q : Quad) (north south nw ne sw se : ℕ) → QuadStands s0 q → bottom_height < q.height → ReadsQuads s0 s1 → ReadsQuads s1 s2 → ReadsQuads s2 s3
    → Halve s0 s1 q.name north south → Halve s1 s2 north nw ne → Halve s2 s3 south sw se
    → AreQuarters s0 s3 q (record { nw = record { height = q.height - 1; name = nw }; ne = record { height = q.height - 1; name = ne }; sw = record { height = q.height - 1; name = sw }; se = record { height = q.height - 1; name = se } })
quarters_are s0 s1 s2 s3 q north south nw ne sw se s l r0 r1 r2 h0 h1 h2 =
    let k : ℕ = depth_of (q.height - 1) in
    let x1 : KeepsQuads 0 s1 s2 = r1.keeps in
    let x2 : KeepsQuads 0 s2 s3 = r2.keeps in
    let h = halves_stand s0 s1 q north south s l h0 in
    let n = h1 k h.first in
    let ss : stands s2.view.words (suc k) south ≡ true = kept_stands s1.view.words s2.view.words x1.seen (suc k) south h.second in
    let t = h2 k ss in
    let low : bottom_height ≤ q.height - 1 = omega arith in
    let high : q.height - 1 ≤ top_height = (let e = s.high in omega arith) in
    let one : q.height - 1 + 1 ≡ q.height = omega arith in
    record {
      nw = record { low = low; high = high; standing = kept_stands s2.view.words s3.view.words x2.seen k nw n.first };
      ne = record { low = low; high = high; standing = kept_stands s2.view.words s3.view.words x2.seen k ne n.second };
      sw = record { low = low; high = high; standing = t.first };
      se = record { low = low; high = high; standing = t.second };
      nw_height = one;
      ne_height = one;
      sw_height = one;
      se_height = one;
      means = ap (λ (m : ℕ). cells s0.view.words m q.name) (depth_of-next q.height l) ∙ h.means
          ∙ ap (λ (c : Cells). paired (suc k) c (cells s1.view.words (suc k) south)) (n.means ∙ ap (λ (c : Cells). paired k c (cells s2.view.words k ne)) (sym (same_after 0 s2 s3 k nw x2 n.first)) ∙ ap (λ (c : Cells). paired k (cells s3.view.words k nw) c) (sym (same_after 0 s2 s3 k ne x2 n.second)))
          ∙ ap (λ (c : Cells). paired (suc k) (paired k (cells s3.view.words k nw) (cells s3.view.words k ne)) c) (sym (same_after 0 s1 s2 (suc k) south x1 h.second) ∙ t.means)
          ∙ four_squares (q.height - 1 - bottom_height) (cells s3.view.words k nw) (cells s3.view.words k ne) (cells s3.view.words k sw) (cells s3.view.words k se);
    }

-- the set of a quad that stands, as that of its name
pub set_of-quad : (w : Keeper) (h : ℕ) (q : Quad) → q.height ≡ h → QuadStands w q → IsSet w.view (depth_of h) q.name (quad_cells w q)
set_of-quad w h q e s = record {
  standing = subst (λ (m : ℕ). stands w.view.words (depth_of m) q.name ≡ true) e s.standing;
  means = sym (ap (λ (m : ℕ). cells w.view.words (depth_of m) q.name) e);
}

-- two pairs, paired in turn, are the quad of four quarters: sets are kept from call to call, and two pairings are one
-- quartered square
pub corner_is : (l m n : ℕ) (s0 s1 s2 s3 : Keeper) (nw ne sw se : Quad) (north south name : ℕ) → QuadStands s0 nw → QuadStands s0 ne → QuadStands s0 sw → QuadStands s0 se
    → ne.height ≡ nw.height → sw.height ≡ nw.height → se.height ≡ nw.height → nw.height < top_height
    → KeepsQuads l s0 s1 → KeepsQuads m s1 s2 → KeepsQuads n s2 s3 → IsPaired s0 s1 nw.name ne.name north → IsPaired s1 s2 sw.name se.name south → IsPaired s2 s3 north south name
    → IsQuad s3 (nw.height + 1) (quartered (side_of nw.height) (quad_cells s0 nw) (quad_cells s0 ne) (quad_cells s0 sw) (quad_cells s0 se)) (record { height = nw.height + 1; name = name })
corner_is l m n s0 s1 s2 s3 nw ne sw se north south name a b c d eb ec ed t k0 k1 k2 p0 p1 p2 =
    let h : ℕ = nw.height in
    let k : ℕ = depth_of h in
    let f0 = p0 k (quad_cells s0 nw) (quad_cells s0 ne) (set_of-quad s0 h nw refl a) (set_of-quad s0 h ne eb b) in
    let f1 = p1 k (quad_cells s0 sw) (quad_cells s0 se) (set_after l s0 s1 k sw.name _ k0 (set_of-quad s0 h sw ec c)) (set_after l s0 s1 k se.name _ k0 (set_of-quad s0 h se ed d)) in
    let f2 = p2 (suc k) _ _ (set_after m s1 s2 (suc k) north _ k1 f0) f1 in
    let over : bottom_height < h + 1 = (let e = a.low in omega arith) in
    let one : h + 1 - 1 ≡ h = omega arith in
    let e : depth_of (h + 1) ≡ suc (suc k) = depth_of-next (h + 1) over ∙ ap (λ (x : ℕ). suc (suc (depth_of x))) one in
    record {
      same_height = refl;
      stands = record { low = omega arith; high = omega arith; standing = subst (λ (x : ℕ). stands s3.view.words x name ≡ true) (sym e) f2.standing };
      means = ap (λ (x : ℕ). cells s3.view.words x name) e ∙ f2.means ∙ four_squares (h - bottom_height) (quad_cells s0 nw) (quad_cells s0 ne) (quad_cells s0 sw) (quad_cells s0 se);
    }

-- a pair of two names that stand at one depth stands at the next
pub pair_known : (v w : Keeper) (a b n : ℕ) (k : ℕ) → IsPaired v w a b n → stands v.view.words k a ≡ true → stands v.view.words k b ≡ true → stands w.view.words (suc k) n ≡ true
pair_known v w a b n k p s t = (p k _ _ (record { standing = s; means = refl }) (record { standing = t; means = refl })).standing

-- the block with no cell is the quad of name 0
pub empty_block : (w : Keeper) (bits : ℕ) → IsKeeper w → bits ≡ 0 → IsQuad w bottom_height (block_cells bits) (record { height = bottom_height; name = 0 })
unfolding bottom_height top_height
empty_block w bits i e =
    let q = empty_quad w 3 0 i (omega arith) (omega arith) refl in
    record { same_height = refl; stands = q.stands; means = q.means ∙ sym (ap block_cells e ∙ ap block_cells (sym i.of.canonical.none_at_0) ∙ zero_cells w.view.words i.of.canonical.none_at_0 0) }

-- the answer of an intern of a block is its quad
pub block_is : {E : Type 0} (v : Keeper) (w : Keeper) (bits n : ℕ) → bits ≢ 0 → Interns {E = E} v.view w.view bits (Ok n) → IsQuad w bottom_height (block_cells bits) (record { height = bottom_height; name = n })
unfolding bottom_height top_height
block_is v w bits n h i =
    let s = block_set v.view w.view bits n h i in
    record { same_height = refl; stands = record { low = omega arith; high = omega arith; standing = s.standing }; means = s.means }
