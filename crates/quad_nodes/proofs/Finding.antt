-- A result that stands already is found, and no word is placed for it.
-- 1. A word that stands at a name is not missed, and its name is answered (`interns_again`).
-- 2. The word of a name is the pair of the names of its halves (`pair_word`), and that of a block its bits (`same_block` of `leaf_block`): so pairs and blocks are found (`pair_found`, `block_found`).
-- 3. Quarters that lie within their squares are read back from a quartered set (`quartered_parts`), so over a quad that stands its four quarters stand (`quarters_stood`): so a corner is found (`corner_found`).
use Rattle.std.proofs.Common.{◌≡◌, ◌<◌, ◌≤◌, ◌≢◌, ◌+◌, ◌-◌, ◌*◌, ◌^◌, ltb, zero, suc, ℕ, true, false, List, Result, Ok, Err, refl, sym, ap, subst, ◌∙◌, inl, inr, arith, get_or, IsErr, IfOk}
use Rattle.std.proofs.lemmas.Result.{IfOk-at_ok}
use Rattle.std.proofs.lemmas.Bool.{true≢false, cases_Bool, ltb-false, le-ltb, eqb-true, and_parts, or_cases}
use Rattle.rel_model.specs.declared.Quad.{Quad}
use Rattle.rel_model.specs.Cells.{Cells, block_cells}
use Rattle.rel_model.specs.Trees.{bottom_height, top_height, first_of, second_of, cells, stands, rows_at, cols_at, twice, side, quartered, paired}
use Rattle.rel_model.specs.Words.{IsDistinct}
use Rattle.rel_model.specs.Equations.{depth_of, side_of}
use Rattle.rel_model.specs.Views.{View, IsSet, Interns}
use Rattle.rel_model.specs.Quads.{Keeper, IsKeeper, quad_cells, QuadStands, IsQuad, KeepsQuads, ReadsQuads, Counts, one_more_miss}
use Rattle.rel_model.proofs.TreeLaws.{stored_not_0, stored_below, parts_stand, paired_halves, cells_within, one_set_one_name, same_cells, Within, out_of}
use Rattle.rel_model.proofs.NamesStand.{pair_set}
use Rattle.rel_model.proofs.Squares.{rows_at-twice, cols_at-twice, four_squares}
use Rattle.rel_model.proofs.QuadLaws.{depth_of-next, is_quad-stays, reads_itself, reads_on, set_after}
use Rattle.leaf_block.proofs.Sets.{same_block}
use Rattle.quad_nodes.specs.Halves.{IsPaired}
use Rattle.quad_nodes.specs.Finding.{Finds, FindsQuad, FindsPair}

-- a refusal is no answer
pub no_answer : {T E : Type 0} (e : E) (x : T) (r : Result T E) → r ≡ Err e → r ≢ Ok x
no_answer e x r p q = cc

pub not_missed : {T E : Type 0} (v w : Keeper) (e : E) (x : T) → Finds v w x (Err e) → ⊥
not_missed v w e x f = no_answer e x (Err e) refl f.answer

-- ---- words that stand
two_up : (words : List ℕ) (n : ℕ) → IsDistinct words → get_or words n 0 ≢ 0 → 2 ≤ n
two_up words zero d h = absurd (h d.none_at_0)
two_up words (suc zero) d h = absurd (h d.none_at_1)
two_up words (suc (suc n)) d h = omega arith

-- the answer is the name that had the word, and none was made
pub record Again {E : Type 0} (v w : View) (n : ℕ) (r : Result ℕ E) : Type 0 where
  pub answer : r ≡ Ok n
  pub made : w.made ≡ v.made

pub interns_again : {E : Type 0} (v w : View) (word n : ℕ) (r : Result ℕ E) → IsDistinct v.words → IsDistinct w.words → word ≢ 0 → get_or v.words n 0 ≡ word → Interns v w word r → Again v w n r
interns_again v w word n (Err e) dv dw h x i =
    let s : get_or v.words n 0 ≢ 0 = λ z. h (sym x ∙ z) in
    let y : get_or w.words n 0 ≡ word = i.keeps.seen.kept n s ∙ x in
    let t : get_or w.words n 0 ≢ 0 = λ z. h (sym y ∙ z) in
    absurd ((i.missed refl n (two_up w.words n dw t) (stored_below w.words n t)).1 y)
interns_again v w word n (Ok m) dv dw h x i =
    let s : get_or v.words n 0 ≢ 0 = λ z. h (sym x ∙ z) in
    let y : get_or w.words n 0 ≡ word = i.keeps.seen.kept n s ∙ x in
    let e : m ≡ n = dw.one_place m n (λ z. h (sym i.named.1 ∙ z)) (i.named.1 ∙ sym y) in
    record { answer = ap Ok e; made = elim i.made [ inl a ↦ a | inr p ↦ absurd (p.absent n x) ] }

-- a keeper whose misses are its seat's refusals counts a word that was refused
pub refusals_count : {E : Type 0} (v w : Keeper) (word : ℕ) (r : Result ℕ E) → v.misses ≡ v.view.refused → w.misses ≡ w.view.refused → Interns v.view w.view word r → Counts v w r
refusals_count v w word (Ok n) e f i = f ∙ i.granted refl ∙ sym e
refusals_count v w word (Err x) e f i = f ∙ i.refused refl ∙ ap one_more_miss (sym e)

-- a call that made nothing and missed nothing only read
reads_from : {T E : Type 0} (m : ℕ) (v w : Keeper) (x : T) (r : Result T E) → KeepsQuads m v w → Counts v w r → r ≡ Ok x → w.view.made ≡ v.view.made → ReadsQuads v w
reads_from {T} {E} m v w x r k c e made =
    let missed : Counts {T = T} {E = E} v w (Ok x) = subst (λ (y : Result T E). Counts v w y) e c in
    record {
      keeps = record { before = k.before; after = k.after; table = k.table; seen = k.seen; house = k.house; spare = k.spare; grows = k.grows; room = omega arith };
      misses = missed;
    }

-- ---- pairs
-- the word of a name is the pair of the names of its halves
pub pair_word : (v : View) (k n a b : ℕ) (f g : Cells) → IsDistinct v.words → IsSet v k a f → IsSet v k b g → IsSet v (suc k) n (paired k f g) → get_or v.words n 0 ≡ a * 2 ^ 32 + b
pair_word v k n a b f g d s t u =
    let p = parts_stand v.words d k n u.standing in
    let e : cells v.words (suc k) n ≡ paired k (cells v.words k a) (cells v.words k b) =
    u.means ∙ ap (λ (c : Cells). paired k c g) (sym s.means) ∙ ap (λ (c : Cells). paired k (cells v.words k a) c) (sym t.means) in
    let h = paired_halves k _ _ _ _ (cells_within v.words k (first_of (get_or v.words n 0))) (cells_within v.words k a) e in
    let x : first_of (get_or v.words n 0) ≡ a = one_set_one_name v.words d k _ a p.0 s.standing h.firsts in
    let y : second_of (get_or v.words n 0) ≡ b = one_set_one_name v.words d k _ b p.1 t.standing h.seconds in
    omega arith

-- a name with no word that stands is 0
no_word : (words : List ℕ) (k n : ℕ) → stands words (suc k) n ≡ true → get_or words n 0 ≡ 0 → n ≡ 0
no_word words k n s z = elim (or_cases _ _ s) [ inl e ↦ eqb-true n 0 e | inr e ↦ absurd (stored_not_0 words n (and_parts _ _ e).0 z) ]

pub pair_found : {E : Type 0} (v w : Keeper) (a b : ℕ) (r : Result ℕ E) → a + b ≢ 0 → KeepsQuads 1 v w → Counts v w r → Interns v.view w.view (a * 2 ^ 32 + b) r → FindsPair v w a b r
pair_found v w a b r h k c i depth name f g s t u =
    let some : a * 2 ^ 32 + b ≢ 0 = omega arith in
    let x = interns_again v.view w.view (a * 2 ^ 32 + b) name r k.before.of.canonical k.after.of.canonical some (pair_word v.view depth name a b f g k.before.of.canonical s t u) i in
    record { answer = x.answer; reads = reads_from 1 v w name r k c x.answer x.made }

-- its answer has the pairing of the two names' sets
pub pair_is : {E : Type 0} (v w : Keeper) (a b : ℕ) (r : Result ℕ E) → b < 2 ^ 32 → a + b ≢ 0 → KeepsQuads 1 v w → Interns v.view w.view (a * 2 ^ 32 + b) r → IfOk r (IsPaired v w a b)
pair_is v w a b (Ok n) l h k i = λ depth f g s t. pair_set v.view w.view a b n depth f g l h k.before.of.canonical k.after.of.canonical i s t
pair_is v w a b (Err e) l h k i = tt

-- nothing beside nothing
pub pair_found-none : {E : Type 0} (v : Keeper) (a b : ℕ) → a ≡ 0 → b ≡ 0 → IsKeeper v → FindsPair {E = E} v v a b (Ok 0)
pair_found-none v a b x y i depth name f g s t u =
    let e : get_or v.view.words name 0 ≡ 0 = (let z = pair_word v.view depth name a b f g i.of.canonical s t u in omega arith) in
    record { answer = ap Ok (sym (no_word v.view.words depth name u.standing e)); reads = reads_itself v i }

-- ---- quads
-- a height and a name as a quad
abbrev quad_of : ℕ → ℕ → Quad
quad_of h n = record { height = h; name = n }

-- two quads of one height and one set are one
pub one_quad : (w : Keeper) (h : ℕ) (f : Cells) (p q : Quad) → IsKeeper w → IsQuad w h f p → IsQuad w h f q → p ≡ q
one_quad w h f p q i s t =
    let e : p.height ≡ q.height = s.same_height ∙ sym t.same_height in
    let a : stands w.view.words (depth_of q.height) p.name ≡ true = subst (λ (x : ℕ). stands w.view.words (depth_of x) p.name ≡ true) e s.stands.standing in
    let b : cells w.view.words (depth_of q.height) p.name ≡ cells w.view.words (depth_of q.height) q.name =
    ap (λ (x : ℕ). cells w.view.words (depth_of x) p.name) (sym e) ∙ s.means ∙ sym t.means in
    let n : p.name ≡ q.name = one_set_one_name w.view.words i.of.canonical (depth_of q.height) p.name q.name a t.stands.standing b in
    ap (λ (x : ℕ). quad_of x p.name) e ∙ ap (λ (x : ℕ). quad_of q.height x) n

-- a quad that is the result is the one that stood
pub found_is : {E : Type 0} (v w : Keeper) (h : ℕ) (f : Cells) (p : Quad) → ReadsQuads v w → IsQuad w h f p → FindsQuad {E = E} v w h f (Ok p)
found_is v w h f p r s q t = record { answer = ap Ok (one_quad w h f p q r.keeps.after s (is_quad-stays 0 v w h f q r.keeps t)); reads = r }

-- ---- blocks
-- the word of a block that stands is its bits
block_word : (w : Keeper) (bits : ℕ) (q : Quad) → IsDistinct w.view.words → bits < 2 ^ 64 → IsQuad w bottom_height (block_cells bits) q → get_or w.view.words q.name 0 ≡ bits
unfolding bottom_height
block_word w bits q d l s =
    same_block (get_or w.view.words q.name 0) bits (d.fits q.name) l (ap (λ (x : ℕ). cells w.view.words (depth_of x) q.name) (sym s.same_height) ∙ s.means)

pub block_found : {E : Type 0} (v w : Keeper) (bits n : ℕ) → bits ≢ 0 → bits < 2 ^ 64 → KeepsQuads 1 v w → w.misses ≡ v.misses → Interns {E = E} v.view w.view bits (Ok n) → FindsQuad {E = E} v w bottom_height (block_cells bits) (Ok (record { height = bottom_height; name = n }))
block_found {E} v w bits n h l k c i q s =
    let d = k.before.of.canonical in
    let x = interns_again {E = E} v.view w.view bits q.name (Ok n) d k.after.of.canonical h (block_word v bits q d l s) i in
    let e : n ≡ q.name = IfOk-at_ok (λ z. n ≡ z) x.answer refl in
    let y : quad_of bottom_height n ≡ q =
    ap (λ (m : ℕ). quad_of bottom_height m) e ∙ ap (λ (m : ℕ). quad_of m q.name) (sym s.same_height) in
    record { answer = ap Ok y; reads = reads_from {E = E} 1 v w n (Ok n) k c refl x.made }

-- a word of which a name stands is not missed
pub block_missed : {D E : Type 0} (v w : Keeper) (u : View) (bits : ℕ) (e : D) (r : Result Quad E) → bits ≢ 0 → bits < 2 ^ 64 → IsDistinct v.view.words → IsDistinct u.words → Interns v.view u bits (Err e) → FindsQuad v w bottom_height (block_cells bits) r
block_missed v w u bits e r h l d n i q s =
    absurd (no_answer e q.name (Err e) refl (interns_again v.view u bits q.name (Err e) d n h (block_word v bits q d l s) i).answer)

-- ---- quarters
-- a set of a quad lies within its square
pub quad_within : (w : Keeper) (h n : ℕ) → Within (side_of h) (side_of h) (cells w.view.words (depth_of h) n)
quad_within w h n =
    let d : ℕ = h - bottom_height in
    let f : Cells = cells w.view.words (twice d) n in
    let a : Within (rows_at (twice d)) (cols_at (twice d)) f = cells_within w.view.words (twice d) n in
    let b : Within (side d) (cols_at (twice d)) f = subst (λ (x : ℕ). Within x (cols_at (twice d)) f) (rows_at-twice d) a in
    subst (λ (x : ℕ). Within (side d) x f) (cols_at-twice d) b

-- four sets are four others
pub record AreSame (f0 f1 f2 f3 g0 g1 g2 g3 : Cells) : Type 0 where
  pub nw : f0 ≡ g0
  pub ne : f1 ≡ g1
  pub sw : f2 ≡ g2
  pub se : f3 ≡ g3

-- four sets that lie within their squares
pub record AreWithin (m : ℕ) (f0 f1 f2 f3 : Cells) : Type 0 where
  pub nw : Within m m f0
  pub ne : Within m m f1
  pub sw : Within m m f2
  pub se : Within m m f3

-- quarters are read back from their square
pub quartered_parts : (m : ℕ) (f0 f1 f2 f3 g0 g1 g2 g3 : Cells) → AreWithin m f0 f1 f2 f3 → AreWithin m g0 g1 g2 g3 → quartered m f0 f1 f2 f3 ≡ quartered m g0 g1 g2 g3 → AreSame f0 f1 f2 f3 g0 g1 g2 g3
quartered_parts m f0 f1 f2 f3 g0 g1 g2 g3 a b e = record {
  nw = same_cells f0 g0 (λ i j. elim (cases_Bool (ltb i m)) [
    | inl x ↦ elim (cases_Bool (ltb j m)) [
      | inl y ↦ (let h : quartered m f0 f1 f2 f3 i j ≡ quartered m g0 g1 g2 g3 i j = ap (λ (c : Cells). c i j) e in rw (x, y) at h)
      | inr y ↦ let o = ltb-false j m y in out_of m m f0 a.nw i j (inr o) ∙ sym (out_of m m g0 b.nw i j (inr o))
    ]
    | inr x ↦ let o = ltb-false i m x in out_of m m f0 a.nw i j (inl o) ∙ sym (out_of m m g0 b.nw i j (inl o))
  ]);
  ne = same_cells f1 g1 (λ i j. elim (cases_Bool (ltb i m)) [
    | inl x ↦ let h : quartered m f0 f1 f2 f3 i (j + m) ≡ quartered m g0 g1 g2 g3 i (j + m) = ap (λ (c : Cells). c i (j + m)) e in
        let y : ltb (j + m) m ≡ false = le-ltb (j + m) m (omega arith) in
        let z : j + m - m ≡ j = omega arith in
        rw (x, y, z) at h
    | inr x ↦ let o = ltb-false i m x in out_of m m f1 a.ne i j (inl o) ∙ sym (out_of m m g1 b.ne i j (inl o))
  ]);
  sw = same_cells f2 g2 (λ i j. elim (cases_Bool (ltb j m)) [
    | inl y ↦ let h : quartered m f0 f1 f2 f3 (i + m) j ≡ quartered m g0 g1 g2 g3 (i + m) j = ap (λ (c : Cells). c (i + m) j) e in
        let x : ltb (i + m) m ≡ false = le-ltb (i + m) m (omega arith) in
        let z : i + m - m ≡ i = omega arith in
        rw (x, y, z) at h
    | inr y ↦ let o = ltb-false j m y in out_of m m f2 a.sw i j (inr o) ∙ sym (out_of m m g2 b.sw i j (inr o))
  ]);
  se = same_cells f3 g3 (λ i j.
      let h : quartered m f0 f1 f2 f3 (i + m) (j + m) ≡ quartered m g0 g1 g2 g3 (i + m) (j + m) = ap (λ (c : Cells). c (i + m) (j + m)) e in
      let x : ltb (i + m) m ≡ false = le-ltb (i + m) m (omega arith) in
      let y : ltb (j + m) m ≡ false = le-ltb (j + m) m (omega arith) in
      let z : i + m - m ≡ i = omega arith in
      let t : j + m - m ≡ j = omega arith in
      rw (x, y, z, t) at h);
}

-- the quarters over which a quad stands, and its two halves, by their names
pub record QuartersStood (w : Keeper) (h : ℕ) (q : Quad) (f0 f1 f2 f3 : Cells) : Type 0 where
  pub north : ℕ
  pub south : ℕ
  pub nw : ℕ
  pub ne : ℕ
  pub sw : ℕ
  pub se : ℕ
  pub stood : IsQuad w (h + 1) (quartered (side_of h) f0 f1 f2 f3) q
  pub whole : IsSet w.view (suc (suc (depth_of h))) q.name (paired (suc (depth_of h)) (paired (depth_of h) f0 f1) (paired (depth_of h) f2 f3))
  pub north_is : IsSet w.view (suc (depth_of h)) north (paired (depth_of h) f0 f1)
  pub south_is : IsSet w.view (suc (depth_of h)) south (paired (depth_of h) f2 f3)
  pub nw_is : IsQuad w h f0 (record { height = h; name = nw })
  pub ne_is : IsQuad w h f1 (record { height = h; name = ne })
  pub sw_is : IsQuad w h f2 (record { height = h; name = sw })
  pub se_is : IsQuad w h f3 (record { height = h; name = se })

-- where a quad stands, so do its four quarters: sets within their squares are read back from the whole, so the quarters
-- that its words name have these sets
pub quarters_stood : (w : Keeper) (h : ℕ) (q : Quad) (f0 f1 f2 f3 : Cells) → IsKeeper w → bottom_height ≤ h → AreWithin (side_of h) f0 f1 f2 f3 → IsQuad w (h + 1) (quartered (side_of h) f0 f1 f2 f3) q → QuartersStood w h q f0 f1 f2 f3
quarters_stood w h q f0 f1 f2 f3 i low a s =
    let W : List ℕ = w.view.words in
    let d : ℕ = h - bottom_height in
    let k : ℕ = depth_of h in
    let over : bottom_height < h + 1 = omega arith in
    let one : h + 1 - 1 ≡ h = omega arith in
    let e : depth_of q.height ≡ suc (suc k) = ap depth_of s.same_height ∙ depth_of-next (h + 1) over ∙ ap (λ (x : ℕ). suc (suc (depth_of x))) one in
    let top : stands W (suc (suc k)) q.name ≡ true = subst (λ (x : ℕ). stands W x q.name ≡ true) e s.stands.standing in
    let p = parts_stand W i.of.canonical (suc k) q.name top in
    let n : ℕ = first_of (get_or W q.name 0) in
    let t : ℕ = second_of (get_or W q.name 0) in
    let pn = parts_stand W i.of.canonical k n p.0 in
    let pt = parts_stand W i.of.canonical k t p.1 in
    let g0 : Cells = cells W k (first_of (get_or W n 0)) in
    let g1 : Cells = cells W k (second_of (get_or W n 0)) in
    let g2 : Cells = cells W k (first_of (get_or W t 0)) in
    let g3 : Cells = cells W k (second_of (get_or W t 0)) in
    let b : AreWithin (side_of h) g0 g1 g2 g3 = record { nw = quad_within w h _; ne = quad_within w h _; sw = quad_within w h _; se = quad_within w h _ } in
    let same : quartered (side_of h) g0 g1 g2 g3 ≡ quartered (side_of h) f0 f1 f2 f3 =
    sym (four_squares d g0 g1 g2 g3) ∙ ap (λ (x : ℕ). cells W x q.name) (sym e) ∙ s.means in
    let y = quartered_parts (side_of h) g0 g1 g2 g3 f0 f1 f2 f3 b a same in
    let high : h ≤ top_height = (let x = s.stands.high in let z = s.same_height in omega arith) in
    let row : paired k g0 g1 ≡ paired k f0 f1 = ap (λ (c : Cells). paired k c g1) y.nw ∙ ap (λ (c : Cells). paired k f0 c) y.ne in
    let low_row : paired k g2 g3 ≡ paired k f2 f3 = ap (λ (c : Cells). paired k c g3) y.sw ∙ ap (λ (c : Cells). paired k f2 c) y.se in
    record {
      north = n;
      south = t;
      nw = first_of (get_or W n 0);
      ne = second_of (get_or W n 0);
      sw = first_of (get_or W t 0);
      se = second_of (get_or W t 0);
      stood = s;
      whole = record { standing = top; means = ap (λ (c : Cells). paired (suc k) c (paired k g2 g3)) row ∙ ap (λ (c : Cells). paired (suc k) (paired k f0 f1) c) low_row };
      north_is = record { standing = p.0; means = row };
      south_is = record { standing = p.1; means = low_row };
      nw_is = record { same_height = refl; stands = record { low = low; high = high; standing = pn.0 }; means = y.nw };
      ne_is = record { same_height = refl; stands = record { low = low; high = high; standing = pn.1 }; means = y.ne };
      sw_is = record { same_height = refl; stands = record { low = low; high = high; standing = pt.0 }; means = y.sw };
      se_is = record { same_height = refl; stands = record { low = low; high = high; standing = pt.1 }; means = y.se };
    }

-- ---- corners
-- the set of a quad as that of its name, at the height of another
set_at : (w : Keeper) (h : ℕ) (q : Quad) → q.height ≡ h → QuadStands w q → IsSet w.view (depth_of h) q.name (quad_cells w q)
set_at w h q e s = record {
  standing = subst (λ (m : ℕ). stands w.view.words (depth_of m) q.name ≡ true) e s.standing;
  means = sym (ap (λ (m : ℕ). cells w.view.words (depth_of m) q.name) e);
}

-- four quads that stand at one height
pub record FourStand (w : Keeper) (nw ne sw se : Quad) : Type 0 where
  pub nw_stands : QuadStands w nw
  pub ne_stands : QuadStands w ne
  pub sw_stands : QuadStands w sw
  pub se_stands : QuadStands w se
  pub ne_height : ne.height ≡ nw.height
  pub sw_height : sw.height ≡ nw.height
  pub se_height : se.height ≡ nw.height

-- the set of the corner of four quads
abbrev pub corner_cells : Keeper → Quad → Quad → Quad → Quad → Cells
corner_cells w nw ne sw se = quartered (side_of nw.height) (quad_cells w nw) (quad_cells w ne) (quad_cells w sw) (quad_cells w se)

abbrev pub CornerStood : Keeper → Quad → Quad → Quad → Quad → Quad → Type 0
CornerStood w nw ne sw se q = QuartersStood w nw.height q (quad_cells w nw) (quad_cells w ne) (quad_cells w sw) (quad_cells w se)

-- the cells of a quad lie within the square of a height
pub within_at : (w : Keeper) (h : ℕ) (q : Quad) → q.height ≡ h → Within (side_of h) (side_of h) (quad_cells w q)
within_at w h q e = subst (λ (x : ℕ). Within (side_of x) (side_of x) (quad_cells w q)) e (quad_within w q.height q.name)

pub corner_stood : (w : Keeper) (nw ne sw se q : Quad) → IsKeeper w → FourStand w nw ne sw se → IsQuad w (nw.height + 1) (corner_cells w nw ne sw se) q → CornerStood w nw ne sw se q
corner_stood w nw ne sw se q i f s =
    quarters_stood w nw.height q (quad_cells w nw) (quad_cells w ne) (quad_cells w sw) (quad_cells w se) i f.nw_stands.low
    (record { nw = within_at w nw.height nw refl; ne = within_at w nw.height ne f.ne_height; sw = within_at w nw.height sw f.sw_height; se = within_at w nw.height se f.se_height }) s

pub corner_north : {E : Type 0} (s0 s1 : Keeper) (nw ne sw se q : Quad) (r : Result ℕ E) → FourStand s0 nw ne sw se → (c : CornerStood s0 nw ne sw se q) → FindsPair s0 s1 nw.name ne.name r → Finds s0 s1 c.north r
corner_north s0 s1 nw ne sw se q r f c p = p (depth_of nw.height) c.north (quad_cells s0 nw) (quad_cells s0 ne) (set_at s0 nw.height nw refl f.nw_stands) (set_at s0 nw.height ne f.ne_height f.ne_stands) c.north_is

pub corner_south : {E : Type 0} (s0 s1 s2 : Keeper) (nw ne sw se q : Quad) (r : Result ℕ E) → FourStand s0 nw ne sw se → (c : CornerStood s0 nw ne sw se q) → ReadsQuads s0 s1 → FindsPair s1 s2 sw.name se.name r → Finds s0 s2 c.south r
corner_south s0 s1 s2 nw ne sw se q r f c k p =
    let h : ℕ = nw.height in
    let g = p (depth_of h) c.south (quad_cells s0 sw) (quad_cells s0 se) (set_after 0 s0 s1 (depth_of h) sw.name _ k.keeps (set_at s0 h sw f.sw_height f.sw_stands))
    (set_after 0 s0 s1 (depth_of h) se.name _ k.keeps (set_at s0 h se f.se_height f.se_stands)) (set_after 0 s0 s1 (suc (depth_of h)) c.south _ k.keeps c.south_is) in
    record { answer = g.answer; reads = reads_on s0 s1 s2 k g.reads }

-- both halves as they stood
pub corner_whole : {E : Type 0} (s0 s2 s3 : Keeper) (nw ne sw se q : Quad) (north south : ℕ) (r : Result ℕ E) → (c : CornerStood s0 nw ne sw se q) → ReadsQuads s0 s2 → north ≡ c.north → south ≡ c.south → FindsPair s2 s3 north south r → Finds s0 s3 q.name r
corner_whole {E} s0 s2 s3 nw ne sw se q north south r c k x y p =
    let k0 : ℕ = depth_of nw.height in
    let a = subst (λ (n : ℕ). IsSet s0.view (suc k0) n (paired k0 (quad_cells s0 nw) (quad_cells s0 ne))) (sym x) c.north_is in
    let b = subst (λ (n : ℕ). IsSet s0.view (suc k0) n (paired k0 (quad_cells s0 sw) (quad_cells s0 se))) (sym y) c.south_is in
    let g = p (suc k0) q.name _ _ (set_after 0 s0 s2 (suc k0) north _ k.keeps a) (set_after 0 s0 s2 (suc k0) south _ k.keeps b) (set_after 0 s0 s2 (suc (suc k0)) q.name _ k.keeps c.whole) in
    record { answer = g.answer; reads = reads_on s0 s2 s3 k g.reads }

-- the name that was answered
pub the_answer : {T E : Type 0} (v w : Keeper) (x y : T) → Finds {E = E} v w x (Ok y) → y ≡ x
the_answer v w x y f = IfOk-at_ok (λ z. y ≡ z) f.answer refl

-- the quad of the name that was answered
pub corner_found : {E : Type 0} (v w : Keeper) (h : ℕ) (q : Quad) (name : ℕ) → q.height ≡ h + 1 → Finds {E = E} v w q.name (Ok name) → Finds {E = E} v w q (Ok (quad_of (h + 1) name))
corner_found {E} v w h q name e f =
    let n : name ≡ q.name = the_answer {E = E} v w q.name name f in
    let y : quad_of (h + 1) name ≡ q = ap (λ (m : ℕ). quad_of (h + 1) m) n ∙ ap (λ (m : ℕ). quad_of m q.name) (sym e) in
    record { answer = ap Ok y; reads = f.reads }

-- ---- recursions
-- a quad under another name for it
renamed : (w : Keeper) (h : ℕ) (f : Cells) (p q : Quad) → p ≡ q → IsQuad w h f q → IsQuad w h f p
renamed w h f p q e s = subst (λ (x : Quad). IsQuad w h f x) (sym e) s

-- what is found after a call that reads, under equal heights and sets
pub found_later : {E : Type 0} (u v w : Keeper) (h k : ℕ) (f g : Cells) (r : Result Quad E) → ReadsQuads u v → h ≡ k → f ≡ g → FindsQuad v w h f r → FindsQuad u w k g r
found_later u v w h k f g r x e d p q s =
    let t = is_quad-stays 0 u v k g q x.keeps s in
    let y = p q (record { same_height = t.same_height ∙ sym e; stands = t.stands; means = t.means ∙ sym d }) in
    record { answer = y.answer; reads = reads_on u v w x y.reads }

-- two quads that were found one after the other
pub both_found : {E : Type 0} (u v w : Keeper) (p q a b : Quad) → Finds {E = E} u v p (Ok a) → Finds {E = E} v w q (Ok b) → Finds {T = Quad × Quad} {E = E} u w (p, q) (Ok (a, b))
both_found {E} u v w p q a b f g =
    let x : a ≡ p = the_answer {E = E} u v p a f in
    let y : b ≡ q = the_answer {E = E} v w q b g in
    let z : Path (Quad × Quad) (a, b) (p, q) = rw (x, y) refl in
    record { answer = ap Ok z; reads = reads_on u v w f.reads g.reads }

-- ---- misses
-- a call that failed, after calls that missed nothing
pub counts_failed : {T E : Type 0} (u v w : Keeper) (r : Result T E) → v.misses ≡ u.misses → IsErr r → w.misses ≡ one_more_miss v.misses → Counts u w r
counts_failed u v w (Ok x) e i c = absurd (true≢false (sym i))
counts_failed u v w (Err x) e i c = c ∙ ap one_more_miss e
