-- Squares put together of their pieces.
-- 1. The pieces of a square are those of its quarters (`hold_child`).
-- 2. The set of the pieces put together lies within its square, and stays while calls keep the pieces.
-- 3. It is the set whose parts the pieces are (`tiled-is`).
-- 4. Over a set that stands its parts stand (`part_stood`).
use Rattle.std.proofs.Common.{◌≡◌, ◌≢◌, ◌<◌, ◌≤◌, ◌+◌, ◌-◌, ◌*◌, ◌/◌, ◌^◌, ltb, zero, suc, ℕ, List, get_or, length, Result, refl, sym, ap, subst, ◌∙◌, inl, inr, arith}
use Rattle.std.proofs.lemmas.Bool.{cases_Bool, ltb-true}
use Rattle.std.proofs.lemmas.List.{get_or_default}
use Rattle.std.proofs.Math.Nat.{pow-suc}
use Rattle.rel_model.specs.declared.Quad.{Quad}
use Rattle.rel_model.specs.Cells.{Cells}
use Rattle.rel_model.specs.Trees.{bottom_height, quartered}
use Rattle.rel_model.specs.Equations.{side_of}
use Rattle.rel_model.specs.Quads.{Keeper, IsKeeper, quad_cells, IsQuad, KeepsQuads}
use Rattle.rel_model.proofs.TreeLaws.{Within}
use Rattle.rel_model.proofs.QuadLaws.{side_of-next, quad_cells-stay, quad_stays}
use Rattle.quad_nodes.specs.Making.{MakesBoth}
use Rattle.quad_nodes.proofs.Finding.{AreWithin, quarters_stood, within_at}
use Rattle.quad_nodes.proofs.Making.{AreParts}
use Rattle.fork_quads.specs.Forks.{nth, quarter, number_before, place_at_cut, part, HasSet, HoldPieces, tiled, last_piece, corner_words}
use Rattle.fork_quads.proofs.Parts.{nth-all, quarter-within, quartered-quarters, quarters-within}

-- ---- numbers
before-quarter : (c n : ℕ) → number_before c (n / 4) ≡ number_before c n / 4
before-quarter zero n = refl
before-quarter (suc c) n = before-quarter c (n / 4)

-- the square that has this one as its quarter
before_child : (c p k n : ℕ) → k < 4 → number_before c n ≡ 4 * p + k → number_before (suc c) n ≡ p
before_child c p k n l e = before-quarter c n ∙ (let x = e in omega arith)

place_child : (c p k n : ℕ) → k < 4 → number_before c n ≡ 4 * p + k → place_at_cut c n ≡ k
place_child c p k n l e = omega (arith, l, e)

-- a number below that of all pieces has nothing before it
pub before-none : (c n : ℕ) → n < 4 ^ c → number_before c n ≡ 0
before-none zero n l = omega arith
before-none (suc c) n l = before-none c (n / 4) (let p = pow-suc 4 c in omega arith)

-- and the other way round
pub before-few : (c n : ℕ) → number_before c n ≡ 0 → n < 4 ^ c
before-few zero n e = omega arith
before-few (suc c) n e = let i = before-few c (n / 4) e in let p = pow-suc 4 c in omega arith

pub last-least : (c n : ℕ) → n ≤ last_piece c n
last-least zero n = omega arith
last-least (suc c) n = let i = last-least c (4 * n + 2 + 1) in omega (arith, i)

pub last-grows : (c m n : ℕ) → m ≤ n → last_piece c m ≤ last_piece c n
last-grows zero m n l = l
last-grows (suc c) m n l = last-grows c (4 * m + 2 + 1) (4 * n + 2 + 1) (omega arith)

pub last-next : (c n : ℕ) → c ≢ 0 → last_piece c n ≡ last_piece (c - 1) (4 * n + 2 + 1)
last-next zero n h = absurd (h refl)
last-next (suc c) n h = let e : suc c - 1 ≡ c = omega arith in rw e refl

-- ---- pieces
pub hold_child : (w : Keeper) (h c p k : ℕ) (quads : List Quad) → k < 4 → c ≢ 0 → HoldPieces w (h - c) c p quads → HoldPieces w (h - 1 - (c - 1)) (c - 1) (4 * p + k) quads
hold_child w h zero p k quads l s hold = absurd (s refl)
hold_child w h (suc c) p k quads l s hold =
    let e : suc c - 1 ≡ c = omega arith in
    let g : h - suc c ≡ h - 1 - c = omega arith in
    rw e (λ n b d. subst (λ (x : ℕ). IsQuad w x (quad_cells w (get_or quads n d)) (get_or quads n d)) g (hold n (before_child c p k n l b) d))

pub hold_later : (m : ℕ) (v w : Keeper) (h c p : ℕ) (quads : List Quad) → KeepsQuads m v w → HoldPieces v h c p quads → HoldPieces w h c p quads
hold_later m v w h c p quads k hold n b d = let s = hold n b d in record { same_height = s.same_height; stands = quad_stays m v w _ k s.stands; means = refl }

pub tiled-next : (w : Keeper) (h c p : ℕ) (quads : List Quad) → c ≢ 0 → tiled w h c p quads
    ≡ quartered (side_of (h - 1)) (tiled w (h - 1) (c - 1) (4 * p) quads) (tiled w (h - 1) (c - 1) (4 * p + 1) quads) (tiled w (h - 1) (c - 1) (4 * p + 2) quads) (tiled w (h - 1) (c - 1) (4 * p + 2 + 1) quads)
tiled-next w h zero p quads s = absurd (s refl)
tiled-next w h (suc c) p quads s = let e : suc c - 1 ≡ c = omega arith in rw e refl

-- the pieces of each quarter
pub record HoldFour (w : Keeper) (h c p : ℕ) (quads : List Quad) : Type 0 where
  pub nw : HoldPieces w (h - c) c (4 * p) quads
  pub ne : HoldPieces w (h - c) c (4 * p + 1) quads
  pub sw : HoldPieces w (h - c) c (4 * p + 2) quads
  pub se : HoldPieces w (h - c) c (4 * p + 2 + 1) quads

pub hold_four : (w : Keeper) (h c p : ℕ) (quads : List Quad) → c ≢ 0 → HoldPieces w (h - c) c p quads → HoldFour w (h - 1) (c - 1) p quads
hold_four w h c p quads s hold = record {
  nw = subst (λ (n : ℕ). HoldPieces w (h - 1 - (c - 1)) (c - 1) n quads) (let e : 4 * p + 0 ≡ 4 * p = omega arith in e) (hold_child w h c p 0 quads (omega arith) s hold);
  ne = hold_child w h c p 1 quads (omega arith) s hold;
  sw = hold_child w h c p 2 quads (omega arith) s hold;
  se = subst (λ (n : ℕ). HoldPieces w (h - 1 - (c - 1)) (c - 1) n quads) (let e : 4 * p + 3 ≡ 4 * p + 2 + 1 = omega arith in e) (hold_child w h c p 3 quads (omega arith) s hold);
}

-- the set of pieces stays
pub tiled-stay : (m : ℕ) (v w : Keeper) (h c p : ℕ) (quads : List Quad) → KeepsQuads m v w → HoldPieces v (h - c) c p quads → tiled w h c p quads ≡ tiled v h c p quads
tiled-stay m v w h zero p quads k hold = quad_cells-stay m v w _ k (hold p refl _).stands
tiled-stay m v w h (suc c) p quads k hold =
    let e : suc c - 1 ≡ c = omega arith in
    let f : HoldFour v (h - 1) c p quads = rw e at (hold_four v h (suc c) p quads (λ x. omega arith) hold) in
    let s : ℕ = side_of (h - 1) in
    ap (λ (x : Cells). quartered s x (tiled w (h - 1) c (4 * p + 1) quads) (tiled w (h - 1) c (4 * p + 2) quads) (tiled w (h - 1) c (4 * p + 2 + 1) quads)) (tiled-stay m v w (h - 1) c (4 * p) quads k f.nw)
    ∙ ap (λ (x : Cells). quartered s (tiled v (h - 1) c (4 * p) quads) x (tiled w (h - 1) c (4 * p + 2) quads) (tiled w (h - 1) c (4 * p + 2 + 1) quads)) (tiled-stay m v w (h - 1) c (4 * p + 1) quads k f.ne)
    ∙ ap (λ (x : Cells). quartered s (tiled v (h - 1) c (4 * p) quads) (tiled v (h - 1) c (4 * p + 1) quads) x (tiled w (h - 1) c (4 * p + 2 + 1) quads)) (tiled-stay m v w (h - 1) c (4 * p + 2) quads k f.sw)
    ∙ ap (λ (x : Cells). quartered s (tiled v (h - 1) c (4 * p) quads) (tiled v (h - 1) c (4 * p + 1) quads) (tiled v (h - 1) c (4 * p + 2) quads) x) (tiled-stay m v w (h - 1) c (4 * p + 2 + 1) quads k f.se)

-- ---- within the square
quartered-within : (m : ℕ) (f0 f1 f2 f3 : Cells) → AreWithin m f0 f1 f2 f3 → Within (m + m) (m + m) (quartered m f0 f1 f2 f3)
quartered-within m f0 f1 f2 f3 a = record {
  row = λ i j e. elim (cases_Bool (ltb i m)) [
    | inl x ↦ (let b = ltb-true i m x in omega arith)
    | inr x ↦ elim (cases_Bool (ltb j m)) [ inl y ↦ (let b = a.sw.row (i - m) j (rw (x, y) at e) in omega arith) | inr y ↦ (let b = a.se.row (i - m) (j - m) (rw (x, y) at e) in omega arith) ]
  ];
  col = λ i j e. elim (cases_Bool (ltb j m)) [
    | inl y ↦ (let b = ltb-true j m y in omega arith)
    | inr y ↦ elim (cases_Bool (ltb i m)) [ inl x ↦ (let b = a.ne.col i (j - m) (rw (x, y) at e) in omega arith) | inr x ↦ (let b = a.se.col (i - m) (j - m) (rw (x, y) at e) in omega arith) ]
  ];
}

-- pieces put together lie within their square: by induction on the cuts, four squares of half the side lie within one
pub tiled-within : (w : Keeper) (h c p : ℕ) (quads : List Quad) → bottom_height + c ≤ h → HoldPieces w (h - c) c p quads → Within (side_of h) (side_of h) (tiled w h c p quads)
tiled-within w h zero p quads l hold = within_at w h _ ((hold p refl _).same_height ∙ (let e : h - 0 ≡ h = omega arith in e))
tiled-within w h (suc c) p quads l hold =
    let e : suc c - 1 ≡ c = omega arith in
    let f : HoldFour w (h - 1) c p quads = rw e at (hold_four w h (suc c) p quads (λ x. omega arith) hold) in
    let low : bottom_height + c ≤ h - 1 = omega arith in
    subst (λ (m : ℕ). Within m m (tiled w h (suc c) p quads)) (sym (side_of-next h (omega arith)))
    (quartered-within (side_of (h - 1)) _ _ _ _ (record {
      nw = tiled-within w (h - 1) c (4 * p) quads low f.nw;
      ne = tiled-within w (h - 1) c (4 * p + 1) quads low f.ne;
      sw = tiled-within w (h - 1) c (4 * p + 2) quads low f.sw;
      se = tiled-within w (h - 1) c (4 * p + 2 + 1) quads low f.se;
    }))

-- the sets of four quarters lie within theirs
pub four_tiled : (w : Keeper) (h c p : ℕ) (quads : List Quad) → bottom_height + c ≤ h → HoldFour w h c p quads → AreWithin (side_of h) (tiled w h c (4 * p) quads) (tiled w h c (4 * p + 1) quads) (tiled w h c (4 * p + 2) quads) (tiled w h c (4 * p + 2 + 1) quads)
four_tiled w h c p quads l f = record {
  nw = tiled-within w h c (4 * p) quads l f.nw;
  ne = tiled-within w h c (4 * p + 1) quads l f.ne;
  sw = tiled-within w h c (4 * p + 2) quads l f.sw;
  se = tiled-within w h c (4 * p + 2 + 1) quads l f.se;
}

-- ---- the set whose parts the pieces are
pub tiled-is : (w : Keeper) (h c p : ℕ) (f : Cells) (quads : List Quad) → bottom_height + c ≤ h → Within (side_of h) (side_of h) f
    → ((n : ℕ) → number_before c n ≡ p → (d : Quad) → quad_cells w (get_or quads n d) ≡ part h c n f) → tiled w h c p quads ≡ f
tiled-is w h zero p f quads l wf each = each p refl _
tiled-is w h (suc c) p f quads l wf each =
    let m : ℕ = side_of (h - 1) in
    let low : bottom_height + c ≤ h - 1 = omega arith in
    let quarter_is : (k q : ℕ) → k < 4 → q ≡ 4 * p + k → tiled w (h - 1) c q quads ≡ quarter m k f = λ k q b e. tiled-is w (h - 1) c q (quarter m k f) quads low (quarter-within m k f)
    (λ n x d. let y : number_before c n ≡ 4 * p + k = x ∙ e in each n (before_child c p k n b y) d ∙ ap (λ (j : ℕ). part (h - 1) c n (quarter m j f)) (place_child c p k n b y)) in
    ap (λ (x : Cells). quartered m x (tiled w (h - 1) c (4 * p + 1) quads) (tiled w (h - 1) c (4 * p + 2) quads) (tiled w (h - 1) c (4 * p + 2 + 1) quads)) (quarter_is 0 (4 * p) (omega arith) (omega arith))
    ∙ ap (λ (x : Cells). quartered m (quarter m 0 f) x (tiled w (h - 1) c (4 * p + 2) quads) (tiled w (h - 1) c (4 * p + 2 + 1) quads)) (quarter_is 1 (4 * p + 1) (omega arith) refl)
    ∙ ap (λ (x : Cells). quartered m (quarter m 0 f) (quarter m 1 f) x (tiled w (h - 1) c (4 * p + 2 + 1) quads)) (quarter_is 2 (4 * p + 2) (omega arith) refl)
    ∙ ap (λ (x : Cells). quartered m (quarter m 0 f) (quarter m 1 f) (quarter m 2 f) x) (quarter_is 3 (4 * p + 2 + 1) (omega arith) (omega arith))
    ∙ quartered-quarters m f (subst (λ (x : ℕ). Within x x f) (side_of-next h (omega arith)) wf)

-- ---- parts of what stands
quarter-nth : (m k : ℕ) (f : Cells) → nth k (quarter m 0 f) (quarter m 1 f) (quarter m 2 f) (quarter m 3 f) ≡ quarter m k f
quarter-nth m zero f = refl
quarter-nth m (suc zero) f = refl
quarter-nth m (suc (suc zero)) f = refl
quarter-nth m (suc (suc (suc k))) f = refl

quarter_stood : (w : Keeper) (h k : ℕ) (f : Cells) → IsKeeper w → bottom_height ≤ h → Within (side_of h + side_of h) (side_of h + side_of h) f → HasSet w (h + 1) f → HasSet w h (quarter (side_of h) k f)
quarter_stood w h k f i low wf s =
    let m : ℕ = side_of h in
    let q = quarters_stood w h s.quad (quarter m 0 f) (quarter m 1 f) (quarter m 2 f) (quarter m 3 f) i low (quarters-within m f)
    (subst (λ (g : Cells). IsQuad w (h + 1) g s.quad) (sym (quartered-quarters m f wf)) s.is) in
    subst (HasSet w h) (quarter-nth m k f) (nth-all (HasSet w h) k _ _ _ _
    (record { quad = _; is = q.nw_is }) (record { quad = _; is = q.ne_is }) (record { quad = _; is = q.sw_is }) (record { quad = _; is = q.se_is }))

pub part_stood : (w : Keeper) (h c n : ℕ) (f : Cells) → IsKeeper w → bottom_height + c ≤ h → Within (side_of h) (side_of h) f → HasSet w h f → HasSet w (h - c) (part h c n f)
part_stood w h zero n f i l wf s = subst (λ (x : ℕ). HasSet w x f) (let e : h ≡ h - 0 = omega arith in e) s
part_stood w h (suc c) n f i l wf s =
    let up : h ≡ h - 1 + 1 = omega arith in
    let m : ℕ = side_of (h - 1) in
    let g : Cells = quarter m (place_at_cut c n) f in
    subst (λ (x : ℕ). HasSet w x (part (h - 1) c n g)) (let e : h - 1 - c ≡ h - suc c = omega arith in e)
    (part_stood w (h - 1) c n g i (omega arith) (quarter-within m (place_at_cut c n) f)
    (quarter_stood w (h - 1) (place_at_cut c n) f i (omega arith) (subst (λ (x : ℕ). Within x x f) (side_of-next h (omega arith)) wf) (subst (λ (x : ℕ). HasSet w x f) up s)))

-- ---- the quarters of a square
pub tiled_parts : (w : Keeper) (h c p : ℕ) (quads : List Quad) → IsKeeper w → c ≢ 0 → bottom_height + c ≤ h → HoldPieces w (h - c) c p quads
    → AreParts w h (tiled w h c p quads) (h - 1) (tiled w (h - 1) (c - 1) (4 * p) quads) (tiled w (h - 1) (c - 1) (4 * p + 1) quads) (tiled w (h - 1) (c - 1) (4 * p + 2) quads) (tiled w (h - 1) (c - 1) (4 * p + 2 + 1) quads)
tiled_parts w h c p quads i some low hold = record {
  work = i;
  low = omega arith;
  next = omega arith;
  within = four_tiled w (h - 1) (c - 1) p quads (omega arith) (hold_four w h c p quads some hold);
  means = sym (tiled-next w h c p quads some);
}

-- two squares of pieces as they were before a call that keeps them
pub both_later : {E : Type 0} {m n : ℕ} {s0 s1 s2 : Keeper} {r : Result (Quad × Quad) E} (h c p q : ℕ) (quads : List Quad) → KeepsQuads n s0 s1 → HoldPieces s0 (h - c) c p quads → HoldPieces s0 (h - c) c q quads
    → MakesBoth m h (tiled s1 h c p quads) (tiled s1 h c q quads) s1 s2 r → MakesBoth m h (tiled s0 h c p quads) (tiled s0 h c q quads) s1 s2 r
both_later {E} {m} {n} {s0} {s1} {s2} {r} h c p q quads k f g s =
    subst (λ (y : Cells). MakesBoth m h (tiled s0 h c p quads) y s1 s2 r) (tiled-stay n s0 s1 h c q quads k g) (subst (λ (x : Cells). MakesBoth m h x (tiled s1 h c q quads) s1 s2 r) (tiled-stay n s0 s1 h c p quads k f) s)

-- a piece
pub leaf_value : (w : Keeper) (h c p : ℕ) (quads : List Quad) (x d : Quad) → c ≡ 0 → p < length quads → HoldPieces w (h - c) c p quads → x ≡ get_or quads p d → IsQuad w h (tiled w h c p quads) x
leaf_value w h zero p quads x d z l hold e =
    let n : get_or quads p d ≡ get_or quads p (record { height = 0; name = 0 }) = get_or_default quads p d _ l in
    let s = hold p refl (record { height = 0; name = 0 }) in
    subst (λ (q : Quad). IsQuad w h (tiled w h 0 p quads) q) (sym (e ∙ n)) (subst (λ (k : ℕ). IsQuad w k (tiled w h 0 p quads) (get_or quads p (record { height = 0; name = 0 }))) (let g : h - 0 ≡ h = omega arith in g) s)
leaf_value w h (suc c) p quads x d z l hold e = absurd (omega (arith, z))

-- of all pieces the numbers are below 64
pub last_few : (c : ℕ) → c ≤ 3 → last_piece c 0 < 64
last_few zero l = omega arith
last_few (suc zero) l = omega arith
last_few (suc (suc zero)) l = omega arith
last_few (suc (suc (suc zero))) l = omega arith
last_few (suc (suc (suc (suc c)))) l = absurd (omega (arith, l))

pub corners_next : (c : ℕ) → c ≢ 0 → corner_words c ≡ corner_words (c - 1) + corner_words (c - 1) + (corner_words (c - 1) + corner_words (c - 1)) + 3
corners_next zero h = absurd (h refl)
corners_next (suc c) h = let e : suc c - 1 ≡ c = omega arith in rw e refl
