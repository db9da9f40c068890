-- Sets with at most one cell in each row, and sets that share no row, by quarters (Schmidt and Ströhlein, for univalence).
-- 1. A test of all rows is turned into what it says of any two cells, and back.
-- 2. Two cells of one row of a square lie in one quarter, or in two that lie side by side: so no row has two cells where none of a quarter has, and the quarters side by side share no row.
-- 3. Two squares share no row where none of the quarters of one shares a row with those of the other that lie in the same half.
-- 4. Both are said of quads, over the calls that look at their quarters one after another.
use Rattle.std.proofs.Common.{◌≡◌, ◌<◌, ◌≤◌, ◌+◌, ◌-◌, ◌^◌, ◌&&◌, ℕ, Bool, true, false, Option, Some, None, refl, sym, ap, ◌∙◌, inl, inr, arith}
use Rattle.std.specs.Prelude.{is_some}
use Rattle.std.proofs.lemmas.Bool.{cases_lt, cases_order, and_parts, and_from, false≢true, not-true, not_from_false}
use Rattle.rel_model.specs.declared.Quad.{Quad}
use Rattle.rel_model.specs.declared.Quarters.{Quarters}
use Rattle.rel_model.specs.Relation.{Relation, IsRelation, has}
use Rattle.rel_model.specs.Cells.{Cells, no_cells, some_below}
use Rattle.rel_model.specs.Trees.{quartered}
use Rattle.rel_model.specs.Choice.{is_unival}
use Rattle.rel_model.specs.Quarters.{GivesQuarters}
use Rattle.rel_model.specs.Worker.{Worker, HasQuad, quad_set, GivesQuad, Keeps}
use Rattle.rel_model.proofs.Somes.{same_truth, not_true, some_from, some_passes, some_none}
use Rattle.rel_choice.specs.Leasts.{Least, IsLeast}
use Rattle.rel_choice.specs.Lines.{passes_twice, single_rows, rows_apart, quad_single, quads_apart, halves_apart}
use Rattle.rel_steps.proofs.Given.{kept_set, gives_quad_set}
use Rattle.rel_choice.proofs.Standing.{has-within, zero_set}
use Rattle.rel_choice.proofs.Sums.{quartered-nw, quartered-ne, quartered-sw, quartered-se}
use Rattle.rel_choice.proofs.QuadCounts.{power-half}

-- ---- what the tests say
-- two cells of one row are one
record Single (m n : ℕ) (f : Cells) : Type 0 where
  one : (i j k : ℕ) → i < m → j < n → k < n → f i j ≡ true → f i k ≡ true → j ≡ k

-- no row has a cell in both
record Apart (m n : ℕ) (f g : Cells) : Type 0 where
  never : (i j k : ℕ) → i < m → j < n → k < n → f i j ≡ true → g i k ≡ true → ⊥

twice-from : (n : ℕ) (t : ℕ → Bool) (j k : ℕ) → j < k → k < n → t j ≡ true → t k ≡ true → passes_twice n t ≡ true
twice-from n t j k l m a b = some_from n (λ x. t x && some_below x t) k m (and_from _ _ b (some_from k t j l a))

single-says : (m n : ℕ) (f : Cells) → single_rows m n f ≡ true → Single m n f
single-says m n f h = record {
  one = λ i j k l a b s t. elim (cases_order j k) [
    | inl e ↦ e
    | inr e ↦ elim e [
      | inl u ↦ absurd (false≢true (sym (not-true _ h) ∙ some_from m (λ x. passes_twice n (f x)) i l (twice-from n (f i) j k u b s t)))
      | inr u ↦ absurd (false≢true (sym (not-true _ h) ∙ some_from m (λ x. passes_twice n (f x)) i l (twice-from n (f i) k j u a t s)))
    ]
  ];
}

single-said : (m n : ℕ) (f : Cells) → Single m n f → single_rows m n f ≡ true
single-said m n f h = not_from_false _ (some_none m (λ x. passes_twice n (f x)) (λ i l. not_true _ (λ t.
    let p = some_passes n (λ x. f i x && some_below x (f i)) t in
    let q = and_parts _ _ p.passes in
    let r = some_passes p.at (f i) q.1 in
    let a = p.within in
    let b = r.within in
    let e = h.one i r.at p.at l (omega (arith, a, b)) a r.passes q.0 in
    omega (arith, b, e))))

apart-says : (m n : ℕ) (f g : Cells) → rows_apart m n f g ≡ true → Apart m n f g
apart-says m n f g h = record {
  never = λ i j k l a b s t. false≢true (sym (not-true _ h) ∙ some_from m (λ x. some_below n (f x) && some_below n (g x)) i l (and_from _ _ (some_from n (f i) j a s) (some_from n (g i) k b t)));
}

apart-said : (m n : ℕ) (f g : Cells) → Apart m n f g → rows_apart m n f g ≡ true
apart-said m n f g h = not_from_false _ (some_none m (λ x. some_below n (f x) && some_below n (g x)) (λ i l. not_true _ (λ t.
    let p = and_parts _ _ t in
    let a = some_passes n (f i) p.0 in
    let b = some_passes n (g i) p.1 in
    h.never i a.at b.at l a.within b.within a.passes b.passes)))

-- ---- no cells
pub single-none : (m n : ℕ) → single_rows m n no_cells ≡ true
single-none m n = single-said m n no_cells (record { one = λ i j k l a b s t. absurd (false≢true s) })

pub apart-none_left : (m n : ℕ) (g : Cells) → rows_apart m n no_cells g ≡ true
apart-none_left m n g = apart-said m n no_cells g (record { never = λ i j k l a b s t. false≢true s })

pub apart-none_right : (m n : ℕ) (f : Cells) → rows_apart m n f no_cells ≡ true
apart-none_right m n f = apart-said m n f no_cells (record { never = λ i j k l a b s t. false≢true t })

-- ---- by quarters
pub single-quartered : (m : ℕ) (a b c d : Cells) → single_rows (m + m) (m + m) (quartered m a b c d)
    ≡ (((single_rows m m a && single_rows m m b) && (single_rows m m c && single_rows m m d)) && (rows_apart m m a b && rows_apart m m c d))
single-quartered m a b c d = same_truth _ _ parts whole
  where
    q : Cells
    q = quartered m a b c d

    parts : single_rows (m + m) (m + m) q ≡ true → (((single_rows m m a && single_rows m m b) && (single_rows m m c && single_rows m m d)) && (rows_apart m m a b && rows_apart m m c d)) ≡ true
    parts h =
        let s = single-says (m + m) (m + m) q h in
        let nw = single-said m m a (record { one = λ i j k l x y t u. s.one i j k (omega (arith, l)) (omega (arith, x)) (omega (arith, y)) (quartered-nw m a b c d i j l x ∙ t) (quartered-nw m a b c d i k l y ∙ u) }) in
        let ne = single-said m m b (record { one = λ i j k l x y t u. let e = s.one i (m + j) (m + k) (omega (arith, l)) (omega (arith, x)) (omega (arith, y)) (quartered-ne m a b c d i j l ∙ t) (quartered-ne m a b c d i k l ∙ u) in omega (arith, e) }) in
        let sw = single-said m m c (record { one = λ i j k l x y t u. s.one (m + i) j k (omega (arith, l)) (omega (arith, x)) (omega (arith, y)) (quartered-sw m a b c d i j x ∙ t) (quartered-sw m a b c d i k y ∙ u) }) in
        let se = single-said m m d (record { one = λ i j k l x y t u. let e = s.one (m + i) (m + j) (m + k) (omega (arith, l)) (omega (arith, x)) (omega (arith, y)) (quartered-se m a b c d i j ∙ t) (quartered-se m a b c d i k ∙ u) in omega (arith, e) }) in
        let north = apart-said m m a b (record { never = λ i j k l x y t u. let e = s.one i j (m + k) (omega (arith, l)) (omega (arith, x)) (omega (arith, y)) (quartered-nw m a b c d i j l x ∙ t) (quartered-ne m a b c d i k l ∙ u) in omega (arith, e, x) }) in
        let south = apart-said m m c d (record { never = λ i j k l x y t u. let e = s.one (m + i) j (m + k) (omega (arith, l)) (omega (arith, x)) (omega (arith, y)) (quartered-sw m a b c d i j x ∙ t) (quartered-se m a b c d i k ∙ u) in omega (arith, e, x) }) in
        and_from _ _ (and_from _ _ (and_from _ _ nw ne) (and_from _ _ sw se)) (and_from _ _ north south)

    whole : (((single_rows m m a && single_rows m m b) && (single_rows m m c && single_rows m m d)) && (rows_apart m m a b && rows_apart m m c d)) ≡ true → single_rows (m + m) (m + m) q ≡ true
    whole h =
        let p = and_parts _ _ h in
        let o = and_parts _ _ p.0 in
        let n = and_parts _ _ o.0 in
        let s = and_parts _ _ o.1 in
        let r = and_parts _ _ p.1 in
        let nw = single-says m m a n.0 in
        let ne = single-says m m b n.1 in
        let sw = single-says m m c s.0 in
        let se = single-says m m d s.1 in
        let north = apart-says m m a b r.0 in
        let south = apart-says m m c d r.1 in
        single-said (m + m) (m + m) q (record {
          one = λ i j k l x y t u. elim (cases_lt i m) [
            | inl v ↦ elim (cases_lt j m) [
              | inl w ↦ elim (cases_lt k m) [
                | inl z ↦ nw.one i j k v w z (sym (quartered-nw m a b c d i j v w) ∙ t) (sym (quartered-nw m a b c d i k v z) ∙ u)
                | inr z ↦ absurd (north.never i j (k - m) v w (omega (arith, y, z)) (sym (quartered-nw m a b c d i j v w) ∙ t) (at_east i k v z u))
              ]
              | inr w ↦ elim (cases_lt k m) [
                | inl z ↦ absurd (north.never i k (j - m) v z (omega (arith, x, w)) (sym (quartered-nw m a b c d i k v z) ∙ u) (at_east i j v w t))
                | inr z ↦ (let e = ne.one i (j - m) (k - m) v (omega (arith, x, w)) (omega (arith, y, z)) (at_east i j v w t) (at_east i k v z u) in omega (arith, e, w, z))
              ]
            ]
            | inr v ↦ elim (cases_lt j m) [
              | inl w ↦ elim (cases_lt k m) [
                | inl z ↦ sw.one (i - m) j k (omega (arith, l, v)) w z (at_south i j v w t) (at_south i k v z u)
                | inr z ↦ absurd (south.never (i - m) j (k - m) (omega (arith, l, v)) w (omega (arith, y, z)) (at_south i j v w t) (at_corner i k v z u))
              ]
              | inr w ↦ elim (cases_lt k m) [
                | inl z ↦ absurd (south.never (i - m) k (j - m) (omega (arith, l, v)) z (omega (arith, x, w)) (at_south i k v z u) (at_corner i j v w t))
                | inr z ↦ (let e = se.one (i - m) (j - m) (k - m) (omega (arith, l, v)) (omega (arith, x, w)) (omega (arith, y, z)) (at_corner i j v w t) (at_corner i k v z u) in omega (arith, e, w, z))
              ]
            ]
          ];
        })
      where
        at_east : (i j : ℕ) → i < m → m ≤ j → q i j ≡ true → b i (j - m) ≡ true
        at_east i j l x t = sym (quartered-ne m a b c d i (j - m) l) ∙ (let e : m + (j - m) ≡ j = omega (arith, x) in ap (q i) e ∙ t)

        at_south : (i j : ℕ) → m ≤ i → j < m → q i j ≡ true → c (i - m) j ≡ true
        at_south i j l x t = sym (quartered-sw m a b c d (i - m) j x) ∙ (let e : m + (i - m) ≡ i = omega (arith, l) in ap (λ (y : ℕ). q y j) e ∙ t)

        at_corner : (i j : ℕ) → m ≤ i → m ≤ j → q i j ≡ true → d (i - m) (j - m) ≡ true
        at_corner i j l x t = sym (quartered-se m a b c d (i - m) (j - m)) ∙ (let e : m + (i - m) ≡ i = omega (arith, l) in let f : m + (j - m) ≡ j = omega (arith, x) in ap (λ (y : ℕ). q y (m + (j - m))) e ∙ ap (q i) f ∙ t)

-- two squares share no row exactly if none of the quarters of one shares a row with one of the other in the same half:
-- a cell of a row lies in one of the two quarters of its half
pub apart-quartered : (m : ℕ) (a b c d e f g h : Cells) → rows_apart (m + m) (m + m) (quartered m a b c d) (quartered m e f g h)
    ≡ (((rows_apart m m a e && rows_apart m m a f) && (rows_apart m m b e && rows_apart m m b f)) && ((rows_apart m m c g && rows_apart m m c h) && (rows_apart m m d g && rows_apart m m d h)))
apart-quartered m a b c d e f g h = same_truth _ _ parts whole
  where
    p : Cells
    p = quartered m a b c d

    q : Cells
    q = quartered m e f g h

    parts : rows_apart (m + m) (m + m) p q ≡ true → (((rows_apart m m a e && rows_apart m m a f) && (rows_apart m m b e && rows_apart m m b f)) && ((rows_apart m m c g && rows_apart m m c h) && (rows_apart m m d g && rows_apart m m d h))) ≡ true
    parts v =
        let s = apart-says (m + m) (m + m) p q v in
        let ae = apart-said m m a e (record { never = λ i j k l x y t u. s.never i j k (omega (arith, l)) (omega (arith, x)) (omega (arith, y)) (quartered-nw m a b c d i j l x ∙ t) (quartered-nw m e f g h i k l y ∙ u) }) in
        let af = apart-said m m a f (record { never = λ i j k l x y t u. s.never i j (m + k) (omega (arith, l)) (omega (arith, x)) (omega (arith, y)) (quartered-nw m a b c d i j l x ∙ t) (quartered-ne m e f g h i k l ∙ u) }) in
        let be = apart-said m m b e (record { never = λ i j k l x y t u. s.never i (m + j) k (omega (arith, l)) (omega (arith, x)) (omega (arith, y)) (quartered-ne m a b c d i j l ∙ t) (quartered-nw m e f g h i k l y ∙ u) }) in
        let bf = apart-said m m b f (record { never = λ i j k l x y t u. s.never i (m + j) (m + k) (omega (arith, l)) (omega (arith, x)) (omega (arith, y)) (quartered-ne m a b c d i j l ∙ t) (quartered-ne m e f g h i k l ∙ u) }) in
        let cg = apart-said m m c g (record { never = λ i j k l x y t u. s.never (m + i) j k (omega (arith, l)) (omega (arith, x)) (omega (arith, y)) (quartered-sw m a b c d i j x ∙ t) (quartered-sw m e f g h i k y ∙ u) }) in
        let ch = apart-said m m c h (record { never = λ i j k l x y t u. s.never (m + i) j (m + k) (omega (arith, l)) (omega (arith, x)) (omega (arith, y)) (quartered-sw m a b c d i j x ∙ t) (quartered-se m e f g h i k ∙ u) }) in
        let dg = apart-said m m d g (record { never = λ i j k l x y t u. s.never (m + i) (m + j) k (omega (arith, l)) (omega (arith, x)) (omega (arith, y)) (quartered-se m a b c d i j ∙ t) (quartered-sw m e f g h i k y ∙ u) }) in
        let dh = apart-said m m d h (record { never = λ i j k l x y t u. s.never (m + i) (m + j) (m + k) (omega (arith, l)) (omega (arith, x)) (omega (arith, y)) (quartered-se m a b c d i j ∙ t) (quartered-se m e f g h i k ∙ u) }) in
        and_from _ _ (and_from _ _ (and_from _ _ ae af) (and_from _ _ be bf)) (and_from _ _ (and_from _ _ cg ch) (and_from _ _ dg dh))

    whole : (((rows_apart m m a e && rows_apart m m a f) && (rows_apart m m b e && rows_apart m m b f)) && ((rows_apart m m c g && rows_apart m m c h) && (rows_apart m m d g && rows_apart m m d h))) ≡ true → rows_apart (m + m) (m + m) p q ≡ true
    whole v =
        let o = and_parts _ _ v in
        let n = and_parts _ _ o.0 in
        let s = and_parts _ _ o.1 in
        let n0 = and_parts _ _ n.0 in
        let n1 = and_parts _ _ n.1 in
        let s0 = and_parts _ _ s.0 in
        let s1 = and_parts _ _ s.1 in
        let ae = apart-says m m a e n0.0 in
        let af = apart-says m m a f n0.1 in
        let be = apart-says m m b e n1.0 in
        let bf = apart-says m m b f n1.1 in
        let cg = apart-says m m c g s0.0 in
        let ch = apart-says m m c h s0.1 in
        let dg = apart-says m m d g s1.0 in
        let dh = apart-says m m d h s1.1 in
        apart-said (m + m) (m + m) p q (record {
          never = λ i j k l x y t u. elim (cases_lt i m) [
            | inl r ↦ elim (cases_lt j m) [
              | inl w ↦ elim (cases_lt k m) [
                | inl z ↦ ae.never i j k r w z (nw_at a b c d i j r w t) (nw_at e f g h i k r z u)
                | inr z ↦ af.never i j (k - m) r w (omega (arith, y, z)) (nw_at a b c d i j r w t) (ne_at e f g h i k r z u)
              ]
              | inr w ↦ elim (cases_lt k m) [
                | inl z ↦ be.never i (j - m) k r (omega (arith, x, w)) z (ne_at a b c d i j r w t) (nw_at e f g h i k r z u)
                | inr z ↦ bf.never i (j - m) (k - m) r (omega (arith, x, w)) (omega (arith, y, z)) (ne_at a b c d i j r w t) (ne_at e f g h i k r z u)
              ]
            ]
            | inr r ↦ elim (cases_lt j m) [
              | inl w ↦ elim (cases_lt k m) [
                | inl z ↦ cg.never (i - m) j k (omega (arith, l, r)) w z (sw_at a b c d i j r w t) (sw_at e f g h i k r z u)
                | inr z ↦ ch.never (i - m) j (k - m) (omega (arith, l, r)) w (omega (arith, y, z)) (sw_at a b c d i j r w t) (se_at e f g h i k r z u)
              ]
              | inr w ↦ elim (cases_lt k m) [
                | inl z ↦ dg.never (i - m) (j - m) k (omega (arith, l, r)) (omega (arith, x, w)) z (se_at a b c d i j r w t) (sw_at e f g h i k r z u)
                | inr z ↦ dh.never (i - m) (j - m) (k - m) (omega (arith, l, r)) (omega (arith, x, w)) (omega (arith, y, z)) (se_at a b c d i j r w t) (se_at e f g h i k r z u)
              ]
            ]
          ];
        })
      where
        nw_at : (a b c d : Cells) (i j : ℕ) → i < m → j < m → quartered m a b c d i j ≡ true → a i j ≡ true
        nw_at a b c d i j l x t = sym (quartered-nw m a b c d i j l x) ∙ t

        ne_at : (a b c d : Cells) (i j : ℕ) → i < m → m ≤ j → quartered m a b c d i j ≡ true → b i (j - m) ≡ true
        ne_at a b c d i j l x t = sym (quartered-ne m a b c d i (j - m) l) ∙ (let e : m + (j - m) ≡ j = omega (arith, x) in ap (quartered m a b c d i) e ∙ t)

        sw_at : (a b c d : Cells) (i j : ℕ) → m ≤ i → j < m → quartered m a b c d i j ≡ true → c (i - m) j ≡ true
        sw_at a b c d i j l x t = sym (quartered-sw m a b c d (i - m) j x) ∙ (let e : m + (i - m) ≡ i = omega (arith, l) in ap (λ (y : ℕ). quartered m a b c d y j) e ∙ t)

        se_at : (a b c d : Cells) (i j : ℕ) → m ≤ i → m ≤ j → quartered m a b c d i j ≡ true → d (i - m) (j - m) ≡ true
        se_at a b c d i j l x t = sym (quartered-se m a b c d (i - m) (j - m)) ∙ (let e : m + (i - m) ≡ i = omega (arith, l) in let f : m + (j - m) ≡ j = omega (arith, x) in ap (λ (y : ℕ). quartered m a b c d y (m + (j - m))) e ∙ ap (quartered m a b c d i) f ∙ t)

-- ---- of quads
pub none-single : (w : Worker) (q : Quad) → q.name ≡ 0 → w.quad (record { height = q.height; name = 0 }) ≡ Some no_cells → true ≡ quad_single w q
none-single w q e h = sym (single-none (2 ^ q.height) (2 ^ q.height)) ∙ ap (single_rows (2 ^ q.height) (2 ^ q.height)) (sym (zero_set w q e h))

pub none-apart_left : (w : Worker) (a b : Quad) → a.name ≡ 0 → w.quad (record { height = a.height; name = 0 }) ≡ Some no_cells → true ≡ quads_apart w a b
none-apart_left w a b e h = sym (apart-none_left (2 ^ a.height) (2 ^ a.height) (quad_set w b)) ∙ ap (λ f. rows_apart (2 ^ a.height) (2 ^ a.height) f (quad_set w b)) (sym (zero_set w a e h))

pub none-apart_right : (w : Worker) (a b : Quad) → b.name ≡ 0 → w.quad (record { height = b.height; name = 0 }) ≡ Some no_cells → true ≡ quads_apart w a b
none-apart_right w a b e h = sym (apart-none_right (2 ^ a.height) (2 ^ a.height) (quad_set w a)) ∙ ap (rows_apart (2 ^ a.height) (2 ^ a.height) (quad_set w a)) (sym (zero_set w b e h))

-- over several calls
pub kept-single : (v w : Worker) (q : Quad) → Keeps v w → HasQuad v q → quad_single w q ≡ quad_single v q
kept-single v w q k s = ap (single_rows (2 ^ q.height) (2 ^ q.height)) (kept_set v w q k s)

pub kept-apart : (v w : Worker) (a b : Quad) → Keeps v w → HasQuad v a → HasQuad v b → quads_apart w a b ≡ quads_apart v a b
kept-apart v w a b k s t =
    ap (λ f. rows_apart (2 ^ a.height) (2 ^ a.height) f (quad_set w b)) (kept_set v w a k s) ∙ ap (rows_apart (2 ^ a.height) (2 ^ a.height) (quad_set v a)) (kept_set v w b k t)

-- by quarters
at_height : (w : Worker) (q : Quad) (h : ℕ) → q.height ≡ h → quad_single w q ≡ single_rows (2 ^ h) (2 ^ h) (quad_set w q)
at_height w q h e = ap (λ (x : ℕ). single_rows (2 ^ x) (2 ^ x) (quad_set w q)) e

apart_at : (w : Worker) (a b : Quad) (h : ℕ) → a.height ≡ h → quads_apart w a b ≡ rows_apart (2 ^ h) (2 ^ h) (quad_set w a) (quad_set w b)
apart_at w a b h e = ap (λ (x : ℕ). rows_apart (2 ^ x) (2 ^ x) (quad_set w a) (quad_set w b)) e

-- no row of a quad has two cells exactly if no row of a quarter has and quarters side by side share none: each quarter
-- has half the side
pub single-quarters : (old new : Worker) (q : Quad) (four : Quarters) → GivesQuarters old new q four → quad_single old q
    ≡ (((quad_single new four.nw && quad_single new four.ne) && (quad_single new four.sw && quad_single new four.se)) && (quads_apart new four.nw four.ne && quads_apart new four.sw four.se))
single-quarters old new q four g =
    let h : ℕ = four.nw.height in
    let m : ℕ = 2 ^ h in
    let x0 = g.nw_height in
    let x1 = g.ne_height in
    let x2 = g.sw_height in
    let x3 = g.se_height in
    let b = at_height new four.ne h (omega (arith, x0, x1)) in
    let c = at_height new four.sw h (omega (arith, x0, x2)) in
    let d = at_height new four.se h (omega (arith, x0, x3)) in
    let f = apart_at new four.sw four.se h (omega (arith, x0, x2)) in
    ap (λ (x : ℕ). single_rows x x (quad_set old q)) (power-half h q.height x0) ∙ ap (single_rows (m + m) (m + m)) g.means
    ∙ single-quartered m (quad_set new four.nw) (quad_set new four.ne) (quad_set new four.sw) (quad_set new four.se)
    ∙ ap (λ x. ((quad_single new four.nw && x) && (single_rows m m (quad_set new four.sw) && single_rows m m (quad_set new four.se))) && (quads_apart new four.nw four.ne && rows_apart m m (quad_set new four.sw) (quad_set new four.se))) (sym b)
    ∙ ap (λ x. ((quad_single new four.nw && quad_single new four.ne) && (x && single_rows m m (quad_set new four.se))) && (quads_apart new four.nw four.ne && rows_apart m m (quad_set new four.sw) (quad_set new four.se))) (sym c)
    ∙ ap (λ x. ((quad_single new four.nw && quad_single new four.ne) && (quad_single new four.sw && x)) && (quads_apart new four.nw four.ne && rows_apart m m (quad_set new four.sw) (quad_set new four.se))) (sym d)
    ∙ ap (λ x. ((quad_single new four.nw && quad_single new four.ne) && (quad_single new four.sw && quad_single new four.se)) && (quads_apart new four.nw four.ne && x)) (sym f)

-- the quarters of both quads, of which the first were taken one call before
pub apart-quarters : (u v w : Worker) (a b : Quad) (fa fb : Quarters) → GivesQuarters u v a fa → GivesQuarters v w b fb → Keeps u v → Keeps v w → HasQuad u b → b.height ≡ a.height
    → quads_apart u a b ≡ (halves_apart w (fa.nw, fa.ne) (fb.nw, fb.ne) && halves_apart w (fa.sw, fa.se) (fb.sw, fb.se))
apart-quarters u v w a b fa fb g h k l s e =
    let n : ℕ = fa.nw.height in
    let m : ℕ = 2 ^ n in
    let x0 = g.nw_height in
    let x1 = g.ne_height in
    let x2 = g.sw_height in
    let x3 = g.se_height in
    let y0 = h.nw_height in
    let o : fb.nw.height ≡ n = omega (arith, x0, y0, e) in
    let f : quad_set u a ≡ quartered m (quad_set w fa.nw) (quad_set w fa.ne) (quad_set w fa.sw) (quad_set w fa.se) = g.means ∙ four_later fa v w g.nw g.ne g.sw g.se l m in
    let i : quad_set u b ≡ quartered m (quad_set w fb.nw) (quad_set w fb.ne) (quad_set w fb.sw) (quad_set w fb.se) = sym (kept_set u v b k s) ∙ h.means ∙ ap (λ (x : ℕ). quartered (2 ^ x) (quad_set w fb.nw) (quad_set w fb.ne) (quad_set w fb.sw) (quad_set w fb.se)) o in
    ap (λ (x : ℕ). rows_apart x x (quad_set u a) (quad_set u b)) (power-half n a.height x0)
    ∙ ap (λ z. rows_apart (m + m) (m + m) z (quad_set u b)) f ∙ ap (rows_apart (m + m) (m + m) (quartered m (quad_set w fa.nw) (quad_set w fa.ne) (quad_set w fa.sw) (quad_set w fa.se))) i
    ∙ apart-quartered m (quad_set w fa.nw) (quad_set w fa.ne) (quad_set w fa.sw) (quad_set w fa.se) (quad_set w fb.nw) (quad_set w fb.ne) (quad_set w fb.sw) (quad_set w fb.se)
    ∙ eight _ _ _ _ _ _ _ _ _ _ _ _ _ _ _ _ (sym (apart_at w fa.nw fb.nw n refl)) (sym (apart_at w fa.nw fb.ne n refl)) (sym (apart_at w fa.ne fb.nw n (omega (arith, x0, x1)))) (sym (apart_at w fa.ne fb.ne n (omega (arith, x0, x1))))
    (sym (apart_at w fa.sw fb.sw n (omega (arith, x0, x2)))) (sym (apart_at w fa.sw fb.se n (omega (arith, x0, x2)))) (sym (apart_at w fa.se fb.sw n (omega (arith, x0, x3)))) (sym (apart_at w fa.se fb.se n (omega (arith, x0, x3))))
  where
    four_later : (fa : Quarters) (v w : Worker) → HasQuad v fa.nw → HasQuad v fa.ne → HasQuad v fa.sw → HasQuad v fa.se → Keeps v w → (m : ℕ)
        → quartered m (quad_set v fa.nw) (quad_set v fa.ne) (quad_set v fa.sw) (quad_set v fa.se) ≡ quartered m (quad_set w fa.nw) (quad_set w fa.ne) (quad_set w fa.sw) (quad_set w fa.se)
    four_later fa v w p q r t l m =
        ap (λ z. quartered m z (quad_set v fa.ne) (quad_set v fa.sw) (quad_set v fa.se)) (sym (kept_set v w fa.nw l p))
        ∙ ap (λ z. quartered m (quad_set w fa.nw) z (quad_set v fa.sw) (quad_set v fa.se)) (sym (kept_set v w fa.ne l q))
        ∙ ap (λ z. quartered m (quad_set w fa.nw) (quad_set w fa.ne) z (quad_set v fa.se)) (sym (kept_set v w fa.sw l r))
        ∙ ap (quartered m (quad_set w fa.nw) (quad_set w fa.ne) (quad_set w fa.sw)) (sym (kept_set v w fa.se l t))

    eight : (a0 b0 a1 b1 a2 b2 a3 b3 a4 b4 a5 b5 a6 b6 a7 b7 : Bool) → a0 ≡ b0 → a1 ≡ b1 → a2 ≡ b2 → a3 ≡ b3 → a4 ≡ b4 → a5 ≡ b5 → a6 ≡ b6 → a7 ≡ b7
        → (((a0 && a1) && (a2 && a3)) && ((a4 && a5) && (a6 && a7))) ≡ (((b0 && b1) && (b2 && b3)) && ((b4 && b5) && (b6 && b7)))
    eight a0 b0 a1 b1 a2 b2 a3 b3 a4 b4 a5 b5 a6 b6 a7 b7 p0 p1 p2 p3 p4 p5 p6 p7 = cc

pub kept-halves : (v w : Worker) (a b : Quad × Quad) → Keeps v w → HasQuad v a.0 → HasQuad v a.1 → HasQuad v b.0 → HasQuad v b.1 → halves_apart w a b ≡ halves_apart v a b
kept-halves v w a b k s t x y =
    ap (λ z. (z && quads_apart w a.0 b.1) && (quads_apart w a.1 b.0 && quads_apart w a.1 b.1)) (kept-apart v w a.0 b.0 k s x)
    ∙ ap (λ z. (quads_apart v a.0 b.0 && z) && (quads_apart w a.1 b.0 && quads_apart w a.1 b.1)) (kept-apart v w a.0 b.1 k s y)
    ∙ ap (λ z. (quads_apart v a.0 b.0 && quads_apart v a.0 b.1) && (z && quads_apart w a.1 b.1)) (kept-apart v w a.1 b.0 k t x)
    ∙ ap (λ z. (quads_apart v a.0 b.0 && quads_apart v a.0 b.1) && (quads_apart v a.1 b.0 && z)) (kept-apart v w a.1 b.1 k t y)

-- six tests one after another: the first that fails decides, and else the last
pub fails-1 : (a b c d e f : Bool) → a ≡ false → (((a && b) && (c && d)) && (e && f)) ≡ false
fails-1 a b c d e f p = rw p refl

pub fails-2 : (a b c d e f : Bool) → a ≡ true → b ≡ false → (((a && b) && (c && d)) && (e && f)) ≡ false
fails-2 a b c d e f p q = rw (p, q) refl

pub fails-3 : (a b c d e f : Bool) → a ≡ true → b ≡ true → c ≡ false → (((a && b) && (c && d)) && (e && f)) ≡ false
fails-3 a b c d e f p q r = rw (p, q, r) refl

pub fails-4 : (a b c d e f : Bool) → a ≡ true → b ≡ true → c ≡ true → d ≡ false → (((a && b) && (c && d)) && (e && f)) ≡ false
fails-4 a b c d e f p q r s = rw (p, q, r, s) refl

pub fails-5 : (a b c d e f : Bool) → a ≡ true → b ≡ true → c ≡ true → d ≡ true → e ≡ false → (((a && b) && (c && d)) && (e && f)) ≡ false
fails-5 a b c d e f p q r s t = rw (p, q, r, s, t) refl

pub last-decides : (a b c d e f : Bool) → a ≡ true → b ≡ true → c ≡ true → d ≡ true → e ≡ true → (((a && b) && (c && d)) && (e && f)) ≡ f
last-decides a b c d e f p q r s t = rw (p, q, r, s, t) refl

-- a relation
pub relation-single : (w : Worker) (r : Relation) (h : ℕ) (q : Quad) → IsRelation r → r.rows ≤ 2 ^ h → r.cols ≤ 2 ^ h → GivesQuad w h (has r) q → quad_single w q ≡ is_unival r
unfolding is_unival
relation-single w r h q v a b g =
    at_height w q h g.same_height ∙ ap (single_rows (2 ^ h) (2 ^ h)) (gives_quad_set w h (has r) q g)
    ∙ same_truth _ _
    (λ t. let s = single-says (2 ^ h) (2 ^ h) (has r) t in single-said r.rows r.cols (has r) (record { one = λ i j k l x y m n. s.one i j k (omega (arith, l)) (omega (arith, x)) (omega (arith, y)) m n }))
    (λ t. let s = single-says r.rows r.cols (has r) t in single-said (2 ^ h) (2 ^ h) (has r) (record { one = λ i j k l x y m n. let p = has-within r v i j m in let o = has-within r v i k n in s.one i j k p.0 p.1 o.1 m n }))

-- ---- rows of leaves
-- a line has two cells where a second is found behind the first
pub line-two : (n first : ℕ) (t : ℕ → Bool) (o : Option ℕ) → Least t 0 n first → IsLeast t (first + 1) n o → is_some o ≡ passes_twice n t
line-two n first t None l h = sym (some_none n (λ j. t j && some_below j t) (λ k m. not_true _ (λ e.
    let q = and_parts _ _ e in
    let p = some_passes k t q.1 in
    let w = p.within in
    elim (cases_lt p.at first) [
      | inl u ↦ false≢true (sym (l.first p.at (omega arith) u) ∙ p.passes)
      | inr u ↦ false≢true (sym (h k (omega (arith, u, w)) m) ∙ q.0)
    ])))
line-two n first t (Some k) l h = let a = h.low in sym (twice-from n t first k (omega (arith, a)) h.high l.passes h.passes)
