-- Laws of quads: what calls keep adds up, a quad stays with its set, and a quad goes by its quarters.
use Rattle.std.proofs.Common.{◌≡◌, ◌<◌, ◌≤◌, ◌+◌, ◌-◌, ◌*◌, ◌^◌, zero, suc, ℕ, true, List, Result, Ok, Err, IfOk, refl, sym, ap, subst, ◌∙◌, inl, inr, arith}
use Rattle.std.proofs.lemmas.Bool.{or_cases, eqb-true, and_parts}
use Rattle.std.proofs.Math.Nat.{pow-suc, one-le-pow}
use Rattle.rel_model.specs.declared.Quad.{Quad}
use Rattle.rel_model.specs.declared.Quarters.{Quarters}
use Rattle.rel_model.specs.Cells.{Cells, no_cells}
use Rattle.rel_model.specs.Trees.{bottom_height, top_height, cells, stands, twice, side, quartered}
use Rattle.rel_model.specs.Words.{Extends, IsFull, IsFullOfOthers}
use Rattle.rel_model.specs.Equations.{depth_of, side_of}
use Rattle.rel_model.specs.Views.{View, IsSet, IsKnown}
use Rattle.rel_model.specs.Quads.{Keeper, IsKeeper, quad_cells, QuadStands, IsQuad, KeepsQuads, ReadsQuads, one_more_miss, Counts, AreQuarters, quad_room}
use Rattle.rel_model.proofs.TreeLaws.{zero_stands, zero_cells, kept_stands, kept_cells, stored_not_0}
use Rattle.rel_model.proofs.NamesStand.{extends_on, set_stays}

-- ---- what calls keep adds up
pub keeps_on : (m n : ℕ) (u v w : Keeper) → KeepsQuads m u v → KeepsQuads n v w → KeepsQuads (m + n) u w
keeps_on m n u v w s t = record {
  before = s.before;
  after = t.after;
  table = t.table ∙ s.table;
  seen = extends_on _ _ _ s.seen t.seen;
  house = t.house ∙ s.house;
  spare = t.spare ∙ s.spare;
  grows = (let a = s.grows in let b = t.grows in omega arith);
  room = (let a = s.room in let b = t.room in omega arith);
}

pub keeps_most : (m n : ℕ) (u v : Keeper) → m ≤ n → KeepsQuads m u v → KeepsQuads n u v
keeps_most m n u v l s = record {
  before = s.before;
  after = s.after;
  table = s.table;
  seen = s.seen;
  house = s.house;
  spare = s.spare;
  grows = s.grows;
  room = (let a = s.room in omega arith);
}

pub keeps_itself : (w : Keeper) (most : ℕ) → IsKeeper w → KeepsQuads most w w
keeps_itself w most i = record {
  before = i;
  after = i;
  table = refl;
  seen = record { same_length = refl; kept = λ n h. refl };
  house = refl;
  spare = refl;
  grows = omega arith;
  room = omega arith;
}

pub reads_itself : (w : Keeper) → IsKeeper w → ReadsQuads w w
reads_itself w i = record { keeps = keeps_itself w 0 i; misses = refl }

pub reads_on : (u v w : Keeper) → ReadsQuads u v → ReadsQuads v w → ReadsQuads u w
reads_on u v w s t = record { keeps = keeps_on 0 0 u v w s.keeps t.keeps; misses = t.misses ∙ s.misses }

-- a count after calls that missed nothing
pub counts_on : {T E : Type 0} (u v w : Keeper) (r : Result T E) → v.misses ≡ u.misses → Counts v w r → Counts u w r
counts_on u v w (Ok x) e c = c ∙ e
counts_on u v w (Err x) e c = c ∙ ap one_more_miss e

-- where a place was missed, every place is taken
pub full_of-missed : (words : List ℕ) (word : ℕ) → IsFullOfOthers words word → IsFull words
full_of-missed words word h n low high = (h n low high).0

pub full_stays : (v w : List ℕ) → Extends v w → IsFull v → IsFull w
full_stays v w x h n low high z = let s = h n low (subst (λ (m : ℕ). n < m) x.same_length high) in s (sym (x.kept n s) ∙ z)

-- ---- a quad stays
pub quad_stays : (m : ℕ) (v w : Keeper) (q : Quad) → KeepsQuads m v w → QuadStands v q → QuadStands w q
quad_stays m v w q k s = record { low = s.low; high = s.high; standing = kept_stands v.view.words w.view.words k.seen (depth_of q.height) q.name s.standing }

pub quad_cells-stay : (m : ℕ) (v w : Keeper) (q : Quad) → KeepsQuads m v w → QuadStands v q → quad_cells w q ≡ quad_cells v q
quad_cells-stay m v w q k s =
    kept_cells v.view.words w.view.words k.seen k.before.of.canonical.none_at_0 k.after.of.canonical.none_at_0 (depth_of q.height) q.name s.standing

pub is_quad-stays : (m : ℕ) (v w : Keeper) (h : ℕ) (f : Cells) (q : Quad) → KeepsQuads m v w → IsQuad v h f q → IsQuad w h f q
is_quad-stays m v w h f q k s = record {
  same_height = s.same_height;
  stands = quad_stays m v w q k s.stands;
  means = quad_cells-stay m v w q k s.stands ∙ s.means;
}

-- a quad that stands is known
pub known : (v : View) (k n : ℕ) → stands v.words k n ≡ true → IsKnown v n
known v zero n s = elim (or_cases _ _ s) [ inl e ↦ inl (eqb-true n 0 e) | inr e ↦ inr (stored_not_0 v.words n e) ]
known v (suc k) n s = elim (or_cases _ _ s) [ inl e ↦ inl (eqb-true n 0 e) | inr e ↦ inr (stored_not_0 v.words n (and_parts _ _ e).0) ]

-- ---- heights
pub depth_of-bottom : (h : ℕ) → h ≡ bottom_height → depth_of h ≡ 0
unfolding bottom_height
depth_of-bottom h e = ap depth_of e

pub depth_of-next : (h : ℕ) → bottom_height < h → depth_of h ≡ suc (suc (depth_of (h - 1)))
unfolding bottom_height
depth_of-next h l =
    let e : h - 3 ≡ suc (h - 1 - 3) = omega arith in
    ap twice e

pub side_of-next : (h : ℕ) → bottom_height < h → side_of h ≡ side_of (h - 1) + side_of (h - 1)
unfolding bottom_height
side_of-next h l =
    let e : h - 3 ≡ suc (h - 1 - 3) = omega arith in
    ap side e

side-power : (d : ℕ) → side d ≡ 2 ^ (d + 3)
side-power zero = refl
side-power (suc d) =
    let e : suc d + 3 ≡ suc (d + 3) = omega arith in
    let p : 2 ^ suc (d + 3) ≡ 2 ^ (d + 3) * 2 = pow-suc 2 (d + 3) in
    let i = side-power d in
    let q : side d + side d ≡ 2 ^ (d + 3) * 2 = omega (arith, i) in
    q ∙ sym p ∙ sym (ap (λ (k : ℕ). 2 ^ k) e)

-- the side of a square of height h is 2 ^ h
pub side_of-power : (h : ℕ) → bottom_height ≤ h → side_of h ≡ 2 ^ h
unfolding bottom_height
side_of-power h l = side-power (h - 3) ∙ ap (λ (k : ℕ). 2 ^ k) (let e : h - 3 + 3 ≡ h = omega arith in e)

-- ---- names of quads
pub quad_known : (w : Keeper) (q : Quad) → QuadStands w q → IsKnown w.view q.name
quad_known w q s = known w.view (depth_of q.height) q.name s.standing

-- a name that stands at a depth in one state is known in a later one
pub known_after : (m : ℕ) (v w : Keeper) (k n : ℕ) → KeepsQuads m v w → stands v.view.words k n ≡ true → IsKnown w.view n
known_after m v w k n x s = known w.view k n (kept_stands v.view.words w.view.words x.seen k n s)

pub set_after : (m : ℕ) (v w : Keeper) (k n : ℕ) (f : Cells) → KeepsQuads m v w → IsSet v.view k n f → IsSet w.view k n f
set_after m v w k n f x s = set_stays v.view w.view x.seen x.before.of.canonical x.after.of.canonical k n f s

-- the quad of name 0 has no cell
pub empty_quad : (w : Keeper) (h n : ℕ) → IsKeeper w → bottom_height ≤ h → h ≤ top_height → n ≡ 0 → IsQuad w h no_cells (record { height = h; name = n })
empty_quad w h n i l t e = record {
  same_height = refl;
  stands = record { low = l; high = t; standing = subst (λ (m : ℕ). stands w.view.words (depth_of h) m ≡ true) (sym e) (zero_stands w.view.words (depth_of h)) };
  means = ap (cells w.view.words (depth_of h)) e ∙ zero_cells w.view.words i.of.canonical.none_at_0 (depth_of h);
}

-- four results of the height below and their corner have room
pub rooms-next : (h : ℕ) → bottom_height < h → quad_room (h - 1) + quad_room (h - 1) + quad_room (h - 1) + quad_room (h - 1) + 3 ≡ quad_room h
unfolding bottom_height
rooms-next h l =
    let d : ℕ = h - 1 - 3 in
    let p : 4 ^ (h - 3) ≡ 4 ^ d * 4 = ap (λ (x : ℕ). 4 ^ x) (let e : h - 3 ≡ suc d = omega arith in e) ∙ pow-suc 4 d in
    let a : 1 ≤ 4 ^ d = one-le-pow d 4 (omega arith) in
    omega (arith, p, a)

-- a block has room
pub room-some : (h : ℕ) → bottom_height ≤ h → 1 ≤ quad_room h
room-some h l = let a = one-le-pow (h - bottom_height) 4 (omega arith) in omega (arith, a)

-- ---- quarters and corners over several calls
-- quarters stay quarters
pub quarters-stay : (m : ℕ) (u v w : Keeper) (q : Quad) (four : Quarters) → KeepsQuads m v w → AreQuarters u v q four → AreQuarters u w q four
quarters-stay m u v w q four k a = record {
  nw = quad_stays m v w four.nw k a.nw;
  ne = quad_stays m v w four.ne k a.ne;
  sw = quad_stays m v w four.sw k a.sw;
  se = quad_stays m v w four.se k a.se;
  nw_height = a.nw_height;
  ne_height = a.ne_height;
  sw_height = a.sw_height;
  se_height = a.se_height;
  means = a.means
      ∙ ap (λ (c : Cells). quartered (side_of four.nw.height) c (quad_cells v four.ne) (quad_cells v four.sw) (quad_cells v four.se)) (sym (quad_cells-stay m v w four.nw k a.nw))
      ∙ ap (λ (c : Cells). quartered (side_of four.nw.height) (quad_cells w four.nw) c (quad_cells v four.sw) (quad_cells v four.se)) (sym (quad_cells-stay m v w four.ne k a.ne))
      ∙ ap (λ (c : Cells). quartered (side_of four.nw.height) (quad_cells w four.nw) (quad_cells w four.ne) c (quad_cells v four.se)) (sym (quad_cells-stay m v w four.sw k a.sw))
      ∙ ap (λ (c : Cells). quartered (side_of four.nw.height) (quad_cells w four.nw) (quad_cells w four.ne) (quad_cells w four.sw) c) (sym (quad_cells-stay m v w four.se k a.se));
}

-- the quarters of a quad that stood before
pub quarters-before : (m : ℕ) (t u v : Keeper) (q : Quad) (four : Quarters) → KeepsQuads m t u → QuadStands t q → AreQuarters u v q four → AreQuarters t v q four
quarters-before m t u v q four k s a = record {
  nw = a.nw;
  ne = a.ne;
  sw = a.sw;
  se = a.se;
  nw_height = a.nw_height;
  ne_height = a.ne_height;
  sw_height = a.sw_height;
  se_height = a.se_height;
  means = sym (quad_cells-stay m t u q k s) ∙ a.means;
}

-- the result of an operator on two quads, seen from a state before the call and in one after it
pub result_later : (m n : ℕ) (u v w z : Keeper) (op : Cells → Cells → Cells) (h : ℕ) (a b r : Quad) → KeepsQuads m u v → KeepsQuads n w z → QuadStands u a → QuadStands u b
    → IsQuad w h (op (quad_cells v a) (quad_cells v b)) r → IsQuad z h (op (quad_cells u a) (quad_cells u b)) r
result_later m n u v w z op h a b r k l s t i =
    let j = is_quad-stays n w z h (op (quad_cells v a) (quad_cells v b)) r l i in
    record {
      same_height = j.same_height;
      stands = j.stands;
      means = j.means ∙ ap (λ (c : Cells). op c (quad_cells v b)) (quad_cells-stay m u v a k s) ∙ ap (λ (c : Cells). op (quad_cells u a) c) (quad_cells-stay m u v b k t);
    }

-- a height as a number that is known to be it
pub is_quad-height : (w : Keeper) (h k : ℕ) (f : Cells) (q : Quad) → h ≡ k → IsQuad w h f q → IsQuad w k f q
is_quad-height w h k f q e i = subst (λ (x : ℕ). IsQuad w x f q) e i

-- the corner of four quads with known sets
pub corner_value : {E : Type 0} (v w : Keeper) (h : ℕ) (f0 f1 f2 f3 : Cells) (nw ne sw se : Quad) (r : Result Quad E) → IsQuad v h f0 nw → IsQuad v h f1 ne → IsQuad v h f2 sw → IsQuad v h f3 se
    → IfOk r (IsQuad w (nw.height + 1) (quartered (side_of nw.height) (quad_cells v nw) (quad_cells v ne) (quad_cells v sw) (quad_cells v se))) → IfOk r (IsQuad w (h + 1) (quartered (side_of h) f0 f1 f2 f3))
corner_value v w h f0 f1 f2 f3 nw ne sw se (Err e) a b c d i = tt
corner_value v w h f0 f1 f2 f3 nw ne sw se (Ok q) a b c d i = record {
  same_height = i.same_height ∙ ap (λ (x : ℕ). x + 1) a.same_height;
  stands = i.stands;
  means = i.means
      ∙ ap (λ (x : ℕ). quartered (side_of x) (quad_cells v nw) (quad_cells v ne) (quad_cells v sw) (quad_cells v se)) a.same_height
      ∙ ap (λ (x : Cells). quartered (side_of h) x (quad_cells v ne) (quad_cells v sw) (quad_cells v se)) a.means
      ∙ ap (λ (x : Cells). quartered (side_of h) f0 x (quad_cells v sw) (quad_cells v se)) b.means
      ∙ ap (λ (x : Cells). quartered (side_of h) f0 f1 x (quad_cells v se)) c.means
      ∙ ap (λ (x : Cells). quartered (side_of h) f0 f1 f2 x) d.means;
}

-- the room of the height below
pub room_below : (h k : ℕ) (v w : Keeper) → k + 1 ≡ h → KeepsQuads (quad_room k) v w → KeepsQuads (quad_room (h - 1)) v w
room_below h k v w e x = subst (λ (n : ℕ). KeepsQuads (quad_room n) v w) (let g : k ≡ h - 1 = omega arith in g) x
