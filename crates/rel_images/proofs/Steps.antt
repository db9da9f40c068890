-- The steps of the walks.
-- 1. The image of a line of two halves by four quarters is, in each half, the union of two images (`image-west`,
--    `image-east`).
-- 2. So the bits of an image are those of four images of half the side (`image_bits-four`), which four walks add.
use Rattle.std.proofs.Common.{◌≡◌, ◌<◌, ◌≤◌, ◌+◌, ◌-◌, ◌*◌, ◌^◌, ◌∙◌, ◌&&◌, ◌||◌, eqb, ltb, cond, suc, ℕ, Bool, true, false, List, refl, sym, ap, subst, arith, inl, inr, Some}
use Rattle.std.specs.Prelude.{slice_index, unwrap_or}
use Rattle.std.proofs.lemmas.Bool.{cases_lt, lt-ltb, le-ltb, and_left, and_right, or_left, or_right, or_cases}
use Rattle.std.proofs.lemmas.Nat.{pow_pos}
use Rattle.rel_model.specs.declared.Quad.{Quad}
use Rattle.rel_model.specs.declared.Quarters.{Quarters}
use Rattle.rel_model.specs.Cells.{Cells, no_cells, bits_cells, some_below}
use Rattle.rel_model.specs.Trees.{quartered}
use Rattle.rel_model.specs.Quarters.{LiesWithin, GivesQuarters}
use Rattle.rel_model.specs.Worker.{Worker, quad_set, Keeps}
use Rattle.rel_model.proofs.Somes.{same_truth, some_from, some_passes, some_none, some_agree, some_weaker}
use Rattle.rel_model.proofs.Heights.{power_up}
use Rattle.rel_model.proofs.Rooting.{outside}
use Rattle.rel_model.proofs.Workers.{keeps_trans}
use Rattle.rel_steps.proofs.Given.{kept_set}
use Rattle.rel_steps.proofs.Reading.{reads_itself, reads_on}
use Rattle.rel_images.specs.Lines.{Line, Bits, has_bit, bits_of, first_row, turned_cells, image_line, line_under, bits_under, image_bits, IsMarked, IsHeap, Adds, Walks, GivesTurned}
use Rattle.rel_steps.specs.Reading.{OnlyReads}
use Rattle.rel_images.proofs.Heaps.{double, or-or, or-both, within_left, within_right, within_here, none_under, bits_under-agree, bits_under-none, bits_under-or, adds_none, adds_then, adds_same}

-- ---- the image of a line
some_split : (m n : ℕ) (t : ℕ → Bool) → some_below (m + n) t ≡ (some_below m t || some_below n (λ k. t (m + k)))
some_split m n t = same_truth _ _
    (λ h. let p = some_passes (m + n) t h in let w = p.within in elim (cases_lt p.at m) [
      | inl l ↦ or_left (some_below m t) _ (some_from m t p.at l p.passes)
      | inr l ↦ (let e : m + (p.at - m) ≡ p.at = omega (arith, l) in
          or_right (some_below m t) _ (some_from n (λ k. t (m + k)) (p.at - m) (omega (arith, w, l)) (ap t e ∙ p.passes)))
    ])
    (λ h. elim (or_cases (some_below m t) _ h) [
      | inl e ↦ some_weaker m (m + n) t t (λ k l g. (omega (arith, l), g)) e
      | inr e ↦ (let p = some_passes n (λ k. t (m + k)) e in let w = p.within in some_from (m + n) t (m + p.at) (omega (arith, w)) p.passes)
    ])

-- no image of nothing, nor by nothing
pub image-no_line : (m : ℕ) (x : Line) (f : Cells) (j : ℕ) → ((k : ℕ) → x k ≡ false) → image_line m x f j ≡ false
image-no_line m x f j h = some_none m (λ k. x k && f k j) (λ k l. and_left (x k) (f k j) (h k))

pub image-no_cells : (m : ℕ) (x : Line) (f : Cells) (j : ℕ) → f ≡ no_cells → image_line m x f j ≡ false
image-no_cells m x f j e = some_none m (λ k. x k && f k j) (λ k l. and_right (x k) (f k j) (ap (λ (g : Cells). g k j) e))

-- lines that agree below m
pub image-agree : (m : ℕ) (x y : Line) (f : Cells) (j : ℕ) → ((k : ℕ) → k < m → x k ≡ y k) → image_line m x f j ≡ image_line m y f j
image-agree m x y f j h = some_agree m (λ k. x k && f k j) (λ k. y k && f k j) (λ k l. ap (λ b. b && f k j) (h k l))

module _ (m : ℕ) (x y : Line) (a b c e : Cells) where
  -- a line of two halves
  abbrev pub halves : Line
  halves k = cond (ltb k m) (x k) (y (k - m))

  pub image-west : (j : ℕ) → j < m → image_line (m + m) halves (quartered m a b c e) j ≡ (image_line m x a j || image_line m y c j)
  image-west j h =
      some_split m m (λ k. halves k && quartered m a b c e k j)
      ∙ ap (λ t. t || some_below m (λ k. halves (m + k) && quartered m a b c e (m + k) j)) (some_agree m _ (λ k. x k && a k j) (λ k l. let t : ltb k m ≡ true = lt-ltb k m l in let s : ltb j m ≡ true = lt-ltb j m h in rw (t, s) refl))
      ∙ ap (λ t. image_line m x a j || t) (some_agree m _ (λ k. y k && c k j) (λ k l. let t : ltb (m + k) m ≡ false = le-ltb (m + k) m (omega arith) in let s : ltb j m ≡ true = lt-ltb j m h in let r : m + k - m ≡ k = omega arith in rw (t, s, r) refl))

  pub image-east : (j : ℕ) → image_line (m + m) halves (quartered m a b c e) (m + j) ≡ (image_line m x b j || image_line m y e j)
  image-east j =
      some_split m m (λ k. halves k && quartered m a b c e k (m + j))
      ∙ ap (λ t. t || some_below m (λ k. halves (m + k) && quartered m a b c e (m + k) (m + j))) (some_agree m _ (λ k. x k && b k j) (λ k l. let t : ltb k m ≡ true = lt-ltb k m l in let s : ltb (m + j) m ≡ false = le-ltb (m + j) m (omega arith) in let r : m + j - m ≡ j = omega arith in rw (t, s, r) refl))
      ∙ ap (λ t. image_line m x b j || t) (some_agree m _ (λ k. y k && e k j) (λ k l. let t : ltb (m + k) m ≡ false = le-ltb (m + k) m (omega arith) in let s : ltb (m + j) m ≡ false = le-ltb (m + j) m (omega arith) in let r : m + k - m ≡ k = omega arith in let q : m + j - m ≡ j = omega arith in rw (t, s, r, q) refl))

-- ---- the bits of an image by quarters
module _ (least d i j : ℕ) (bits : Bits) (a b c e : Cells) where
  four : let m : ℕ = 2 ^ (least + d) in (n y : ℕ) → bits_under least (suc d) j (image_line (m + m) (line_under least bits (suc d) i) (quartered m a b c e)) n y
      ≡ (((bits_under least d (2 * j) (image_line m (line_under least bits d (2 * i)) a) n y || bits_under least d (2 * j + 1) (image_line m (line_under least bits d (2 * i)) b) n y)
      || bits_under least d (2 * j) (image_line m (line_under least bits d (2 * i + 1)) c) n y) || bits_under least d (2 * j + 1) (image_line m (line_under least bits d (2 * i + 1)) e) n y)
  four n y =
      let m : ℕ = 2 ^ (least + d) in
      let west : Line = line_under least bits d (2 * i) in
      let east : Line = line_under least bits d (2 * i + 1) in
      let all : Line = image_line (m + m) (line_under least bits (suc d) i) (quartered m a b c e) in
      let p1 : Bool = bits_under least d (2 * j) (image_line m west a) n y in
      let p2 : Bool = bits_under least d (2 * j + 1) (image_line m west b) n y in
      let p3 : Bool = bits_under least d (2 * j) (image_line m east c) n y in
      let p4 : Bool = bits_under least d (2 * j + 1) (image_line m east e) n y in
      ap (λ t. t || bits_under least d (2 * j + 1) (λ k. all (m + k)) n y)
      (bits_under-agree least d (2 * j) all (λ k. image_line m west a k || image_line m east c k) n y (λ k l. image-west m west east a b c e k l) ∙ bits_under-or least d (2 * j) (image_line m west a) (image_line m east c) n y)
      ∙ ap (λ t. (p1 || p3) || t)
      (bits_under-agree least d (2 * j + 1) (λ k. all (m + k)) (λ k. image_line m west b k || image_line m east e k) n y (λ k l. image-east m west east a b c e k) ∙ bits_under-or least d (2 * j + 1) (image_line m west b) (image_line m east e) n y)
      ∙ or-both p1 p3 p2 p4 ∙ sym (or-or (p1 || p2) p3 p4)

-- one level over the leaves more
pub level-next : (least h k : ℕ) → least ≤ h → h + 1 ≡ k → k - least ≡ suc (h - least)
level-next least h k l e = omega (arith, l, e)

-- the bits of an image are those of the images by the four quarters: each half of the line goes through two quarters,
-- one for each half of the image
pub image_bits-four : (least i j h k : ℕ) (xs : List ℕ) (a b c e f : Cells) → least ≤ h → h + 1 ≡ k → f ≡ quartered (2 ^ h) a b c e → (n y : ℕ)
    → (((image_bits least xs (2 * i) (2 * j) h a n y || image_bits least xs (2 * i) (2 * j + 1) h b n y) || image_bits least xs (2 * i + 1) (2 * j) h c n y) || image_bits least xs (2 * i + 1) (2 * j + 1) h e n y)
    ≡ image_bits least xs i j k f n y
image_bits-four least i j h k xs a b c e f l s q n y =
    let d : ℕ = h - least in
    let w : least + d ≡ h = omega (arith, l) in
    let wide : 2 ^ k ≡ 2 ^ h + 2 ^ h = ap (λ (x : ℕ). 2 ^ x) (let z : k ≡ suc h = omega (arith, s) in z) ∙ double h in
    let whole : image_bits least xs i j k f n y ≡ bits_under least (suc d) j (image_line (2 ^ h + 2 ^ h) (line_under least (bits_of xs) (suc d) i) (quartered (2 ^ h) a b c e)) n y =
    ap (λ (x : ℕ). bits_under least x j (image_line (2 ^ k) (line_under least (bits_of xs) x i) f) n y) (level-next least h k l s)
    ∙ ap (λ (x : ℕ). bits_under least (suc d) j (image_line x (line_under least (bits_of xs) (suc d) i) f) n y) wide
    ∙ ap (λ (x : Cells). bits_under least (suc d) j (image_line (2 ^ h + 2 ^ h) (line_under least (bits_of xs) (suc d) i) x) n y) q in
    sym (whole ∙ subst (λ (x : ℕ). bits_under least (suc d) j (image_line (2 ^ x + 2 ^ x) (line_under least (bits_of xs) (suc d) i) (quartered (2 ^ x) a b c e)) n y
    ≡ (((bits_under least d (2 * j) (image_line (2 ^ x) (line_under least (bits_of xs) d (2 * i)) a) n y || bits_under least d (2 * j + 1) (image_line (2 ^ x) (line_under least (bits_of xs) d (2 * i)) b) n y)
    || bits_under least d (2 * j) (image_line (2 ^ x) (line_under least (bits_of xs) d (2 * i + 1)) c) n y) || bits_under least d (2 * j + 1) (image_line (2 ^ x) (line_under least (bits_of xs) d (2 * i + 1)) e) n y))
    w (four least d i j (bits_of xs) a b c e n y))

-- ---- walks
-- a walk that writes nothing
pub walks_nothing : (a : Bits) (fuel : ℕ) (w : Worker) (ys : List ℕ) → ((n b : ℕ) → a n b ≡ false) → Walks a fuel fuel w w ys ys
walks_nothing a fuel w ys h = record { adds = λ p. adds_none a ys h; less = λ p. p; len = refl; reads = reads_itself w }

-- one that adds what it is to add
pub walks_leaf : (a b : Bits) (fuel : ℕ) (u v : Worker) (ys zs : List ℕ) → ((n x : ℕ) → a n x ≡ b n x) → Adds a ys zs → OnlyReads u v → Walks b fuel fuel u v ys zs
walks_leaf a b fuel u v ys zs h s r = record { adds = λ p. adds_same a b ys zs h s; less = λ p. p; len = s.len; reads = r }

-- one walk and another
pub walks_then : (a b : Bits) (f g l : ℕ) (u v w : Worker) (xs ys zs : List ℕ) → Walks a f g u v xs ys → Walks b g l v w ys zs → Walks (λ n x. a n x || b n x) f l u w xs zs
walks_then a b f g l u v w xs ys zs s t = record {
  adds = λ p. adds_then a b xs ys zs (s.adds (t.less p)) (t.adds p);
  less = λ p. s.less (t.less p);
  len = t.len ∙ s.len;
  reads = reads_on s.reads t.reads;
}

-- the same after calls that read, from more fuel, and by other words for the bits
pub walks_after : (a b : Bits) (f g l : ℕ) (u v w : Worker) (ys zs : List ℕ) → ((n x : ℕ) → a n x ≡ b n x) → (0 < g → 0 < f) → OnlyReads u v → Walks a g l v w ys zs → Walks b f l u w ys zs
walks_after a b f g l u v w ys zs h m r s = record {
  adds = λ p. adds_same a b ys zs h (s.adds p);
  less = λ p. m (s.less p);
  len = s.len;
  reads = reads_on r s.reads;
}

-- a walk by a quad of another height that is the same, whose set was kept
pub walks_same : (least i j h k f l : ℕ) (xs ys zs : List ℕ) (a b : Cells) (u v : Worker) → h ≡ k → a ≡ b → Walks (image_bits least xs i j h a) f l u v ys zs → Walks (image_bits least xs i j k b) f l u v ys zs
walks_same least i j h k f l xs ys zs a b u v e s w = subst (λ (x : ℕ). Walks (image_bits least xs i j x b) f l u v ys zs) e (subst (λ (x : Cells). Walks (image_bits least xs i j h x) f l u v ys zs) s w)

-- four walks by a quad's quarters are the walk by the quad: each leaves the sets of the others as they were, and their
-- images together are its image
pub walks_four : (least i j f l1 l2 l3 l4 : ℕ) (turned : Bool) (xs y0 y1 y2 y3 y4 : List ℕ) (quad : Quad) (four : Quarters) (u v w1 w2 w3 w4 : Worker) → least ≤ four.nw.height
    → GivesTurned turned u v quad four → OnlyReads u v
    → Walks (image_bits least xs (2 * i) (2 * j) four.nw.height (turned_cells turned (quad_set v four.nw))) (f - 1) l1 v w1 y0 y1
    → Walks (image_bits least xs (2 * i) (2 * j + 1) four.ne.height (turned_cells turned (quad_set w1 four.ne))) l1 l2 w1 w2 y1 y2
    → Walks (image_bits least xs (2 * i + 1) (2 * j) four.sw.height (turned_cells turned (quad_set w2 four.sw))) l2 l3 w2 w3 y2 y3
    → Walks (image_bits least xs (2 * i + 1) (2 * j + 1) four.se.height (turned_cells turned (quad_set w3 four.se))) l3 l4 w3 w4 y3 y4
    → Walks (image_bits least xs i j quad.height (turned_cells turned (quad_set u quad))) f l4 u w4 y0 y4
walks_four least i j f l1 l2 l3 l4 turned xs y0 y1 y2 y3 y4 quad four u v w1 w2 w3 w4 low g r s1 s2 s3 s4 =
    let h : ℕ = four.nw.height in
    let p0 = g.nw_height in
    let p1 = g.ne_height in
    let p2 = g.sw_height in
    let p3 = g.se_height in
    let a : Cells = turned_cells turned (quad_set v four.nw) in
    let b : Cells = turned_cells turned (quad_set v four.ne) in
    let c : Cells = turned_cells turned (quad_set v four.sw) in
    let e : Cells = turned_cells turned (quad_set v four.se) in
    let k1 = s1.reads.keeps in
    let k2 = keeps_trans v w1 w2 k1 s2.reads.keeps in
    let k3 = keeps_trans v w2 w3 k2 s3.reads.keeps in
    let t2 = walks_same least (2 * i) (2 * j + 1) four.ne.height h l1 l2 xs y1 y2 _ b w1 w2 (omega (arith, p0, p1)) (ap (turned_cells turned) (kept_set v w1 four.ne k1 g.ne)) s2 in
    let t3 = walks_same least (2 * i + 1) (2 * j) four.sw.height h l2 l3 xs y2 y3 _ c w2 w3 (omega (arith, p0, p2)) (ap (turned_cells turned) (kept_set v w2 four.sw k2 g.sw)) s3 in
    let t4 = walks_same least (2 * i + 1) (2 * j + 1) four.se.height h l3 l4 xs y3 y4 _ e w3 w4 (omega (arith, p0, p3)) (ap (turned_cells turned) (kept_set v w3 four.se k3 g.se)) s4 in
    let b1 : Bits = image_bits least xs (2 * i) (2 * j) h a in
    let b2 : Bits = image_bits least xs (2 * i) (2 * j + 1) h b in
    let b3 : Bits = image_bits least xs (2 * i + 1) (2 * j) h c in
    let b4 : Bits = image_bits least xs (2 * i + 1) (2 * j + 1) h e in
    let u2 = walks_then b1 b2 (f - 1) l1 l2 v w1 w2 y0 y1 y2 s1 t2 in
    let u3 = walks_then (λ n y. b1 n y || b2 n y) b3 (f - 1) l2 l3 v w2 w3 y0 y2 y3 u2 t3 in
    let u4 = walks_then (λ n y. (b1 n y || b2 n y) || b3 n y) b4 (f - 1) l3 l4 v w3 w4 y0 y3 y4 u3 t4 in
    walks_after (λ n y. ((b1 n y || b2 n y) || b3 n y) || b4 n y) (image_bits least xs i j quad.height (turned_cells turned (quad_set u quad))) f (f - 1) l4 u v w4 y0 y4
    (image_bits-four least i j h quad.height xs a b c e (turned_cells turned (quad_set u quad)) low p0 g.means) (λ p. omega (arith, p)) r u4

-- what a walk finds under a quad that is empty, and under an entry that is 0
pub image_bits-empty : (least i j : ℕ) (turned : Bool) (xs : List ℕ) (w : Worker) (q : Quad) → w.quad (record { height = q.height; name = 0 }) ≡ Some no_cells → q.name ≡ 0 → (n b : ℕ) → image_bits least xs i j q.height (turned_cells turned (quad_set w q)) n b ≡ false
image_bits-empty least i j turned xs w q e s n b =
    let m : w.quad q ≡ Some no_cells = ap (λ (k : ℕ). w.quad (record { height = q.height; name = k })) s ∙ e in
    let z : quad_set w q ≡ no_cells = ap (λ o. unwrap_or o no_cells) m in
    bits_under-agree least (q.height - least) j _ (λ k. false) n b (λ k l. image-no_cells (2 ^ q.height) (line_under least (bits_of xs) (q.height - least) i) (turned_cells turned (quad_set w q)) k (ap (turned_cells turned) z ∙ turned-none turned)) ∙ bits_under-none least (q.height - least) j n b
  where
    turned-none : (t : Bool) → turned_cells t no_cells ≡ no_cells
    turned-none true = refl
    turned-none false = refl

pub image_bits-unmet : (least i j h : ℕ) (xs : List ℕ) (f : Cells) → IsMarked least xs (h - least) i → slice_index xs i ≡ 0 → (n b : ℕ) → image_bits least xs i j h f n b ≡ false
image_bits-unmet least i j h xs f m e n b =
    bits_under-agree least (h - least) j _ (λ k. false) n b (λ k l. image-no_line (2 ^ h) (line_under least (bits_of xs) (h - least) i) f k (none_under least xs (h - least) i m e)) ∙ bits_under-none least (h - least) j n b

-- a leaf
pub image_bits-leaf : (least i j h : ℕ) (xs : List ℕ) (f : Cells) → h ≡ least → (n b : ℕ) → bits_under least 0 j (image_line (2 ^ least) (has_bit (slice_index xs i)) f) n b ≡ image_bits least xs i j h f n b
image_bits-leaf least i j h xs f e n b =
    let z : h - least ≡ 0 = omega (arith, e) in
    bits_under-agree least 0 j _ (image_line (2 ^ least) (line_under least (bits_of xs) 0 i) f) n b (λ k l. image-agree (2 ^ least) (has_bit (slice_index xs i)) (line_under least (bits_of xs) 0 i) f k (λ t p. sym (ap (λ y. y && has_bit (slice_index xs i) t) (lt-ltb t (2 ^ least) p))))
    ∙ ap (λ (x : ℕ). bits_under least 0 j (image_line (2 ^ x) (line_under least (bits_of xs) 0 i) f) n b) (sym e)
    ∙ ap (λ (x : ℕ). bits_under least x j (image_line (2 ^ h) (line_under least (bits_of xs) x i) f) n b) (sym z)

-- what a leaf is added as
pub leaf-adds : (least m j : ℕ) (line : Line) (f : Cells) (answer : ℕ) (ys zs : List ℕ) → m ≡ 2 ^ least → ((k : ℕ) → k < m → has_bit answer k ≡ image_line m line f k) → Adds (λ n b. eqb n j && (ltb b m && has_bit answer b)) ys zs → Adds (bits_under least 0 j (image_line (2 ^ least) line f)) ys zs
leaf-adds least m j line f answer ys zs e h s = adds_same _ _ ys zs (λ n b. ap (λ t. eqb n j && t) (elim (cases_lt b m) [
  | inl l ↦ ap (λ t. ltb b m && t) (h b l) ∙ ap (λ (x : ℕ). ltb b x && image_line x line f b) e
  | inr l ↦ and_left (ltb b m) _ (le-ltb b m l) ∙ sym (and_left (ltb b (2 ^ least)) _ (le-ltb b (2 ^ least) (omega (arith, e, l))))
])) s

-- ---- the places under a node
pub marked_west : (least h k q i : ℕ) (xs : List ℕ) → least ≤ h → h + 1 ≡ q → k ≡ h → IsMarked least xs (q - least) i → IsMarked least xs (k - least) (2 * i)
marked_west least h k q i xs l e s m =
    let a = subst (λ (x : ℕ). IsMarked least xs x i) (level-next least h q l e) m in
    subst (λ (x : ℕ). IsMarked least xs (x - least) (2 * i)) (sym s) a.1

pub marked_east : (least h k q i : ℕ) (xs : List ℕ) → least ≤ h → h + 1 ≡ q → k ≡ h → IsMarked least xs (q - least) i → IsMarked least xs (k - least) (2 * i + 1)
marked_east least h k q i xs l e s m =
    let a = subst (λ (x : ℕ). IsMarked least xs x i) (level-next least h q l e) m in
    subst (λ (x : ℕ). IsMarked least xs (x - least) (2 * i + 1)) (sym s) a.2

pub place_west : (least h k q i n : ℕ) → least ≤ h → h + 1 ≡ q → k ≡ h → (i + 1) * 2 ^ (q - least) ≤ n → (2 * i + 1) * 2 ^ (k - least) ≤ n
place_west least h k q i n l e s w =
    subst (λ (x : ℕ). (2 * i + 1) * 2 ^ (x - least) ≤ n) (sym s) (within_left i (h - least) n (subst (λ (x : ℕ). (i + 1) * 2 ^ x ≤ n) (level-next least h q l e) w))

pub place_east : (least h k q i n : ℕ) → least ≤ h → h + 1 ≡ q → k ≡ h → (i + 1) * 2 ^ (q - least) ≤ n → (2 * i + 1 + 1) * 2 ^ (k - least) ≤ n
place_east least h k q i n l e s w =
    subst (λ (x : ℕ). (2 * i + 1 + 1) * 2 ^ (x - least) ≤ n) (sym s) (within_right i (h - least) n (subst (λ (x : ℕ). (i + 1) * 2 ^ x ≤ n) (level-next least h q l e) w))

-- those under a node of each heap, whose quad is of height h
pub record Under (least h n m i j : ℕ) (xs : List ℕ) : Type 0 where
  pub marked : IsMarked least xs (h - least) i
  pub from : (i + 1) * 2 ^ (h - least) ≤ n
  pub to : (j + 1) * 2 ^ (h - least) ≤ m

-- those of the quarters
pub record FourUnder (least n m i j : ℕ) (xs : List ℕ) (four : Quarters) : Type 0 where
  pub nw : Under least four.nw.height n m (2 * i) (2 * j) xs
  pub ne : Under least four.ne.height n m (2 * i) (2 * j + 1) xs
  pub sw : Under least four.sw.height n m (2 * i + 1) (2 * j) xs
  pub se : Under least four.se.height n m (2 * i + 1) (2 * j + 1) xs

-- what holds under a quad's places in the two heaps holds under those of its quarters, since these are their children
pub four_under : (least n m i j : ℕ) (xs : List ℕ) (turned : Bool) (u v : Worker) (quad : Quad) (four : Quarters) → least ≤ four.nw.height → GivesTurned turned u v quad four → Under least quad.height n m i j xs → FourUnder least n m i j xs four
four_under least n m i j xs turned u v quad four l g p =
    let h : ℕ = four.nw.height in
    let k : ℕ = quad.height in
    let e = g.nw_height in
    let e1 = g.ne_height in
    let e2 = g.sw_height in
    let e3 = g.se_height in
    let s1 : four.ne.height ≡ h = omega (arith, e, e1) in
    let s2 : four.sw.height ≡ h = omega (arith, e, e2) in
    let s3 : four.se.height ≡ h = omega (arith, e, e3) in
    record {
      nw = record { marked = marked_west least h h k i xs l e refl p.marked; from = place_west least h h k i n l e refl p.from; to = place_west least h h k j m l e refl p.to };
      ne = record { marked = marked_west least h four.ne.height k i xs l e s1 p.marked; from = place_west least h four.ne.height k i n l e s1 p.from; to = place_east least h four.ne.height k j m l e s1 p.to };
      sw = record { marked = marked_east least h four.sw.height k i xs l e s2 p.marked; from = place_east least h four.sw.height k i n l e s2 p.from; to = place_west least h four.sw.height k j m l e s2 p.to };
      se = record { marked = marked_east least h four.se.height k i xs l e s3 p.marked; from = place_east least h four.se.height k i n l e s3 p.from; to = place_east least h four.se.height k j m l e s3 p.to };
    }

-- those of the halves of a line, in one heap
pub half_under : (least h n k : ℕ) (xs : List ℕ) → least < h → IsMarked least xs (h - least) k → (k + 1) * 2 ^ (h - least) ≤ n → Under least (h - 1) n n (2 * k) (2 * k) xs × Under least (h - 1) n n (2 * k + 1) (2 * k + 1) xs
half_under least h n k xs l m p =
    let d : ℕ = h - 1 in
    let low : least ≤ d = omega (arith, l) in
    let e : d + 1 ≡ h = omega (arith, l) in
    let west = place_west least d d h k n low e refl p in
    let east = place_east least d d h k n low e refl p in
    (record { marked = marked_west least d d h k xs low e refl m; from = west; to = west }, record { marked = marked_east least d d h k xs low e refl m; from = east; to = east })

-- both halves are within the heap
pub half_within : (least h n k : ℕ) → least < h → (k + 1) * 2 ^ (h - least) ≤ n → 2 * k + 1 < n
half_within least h n k l p = let d : ℕ = h - 1 in within_here (2 * k + 1) (d - least) n (place_east least d d h k n (omega (arith, l)) (omega (arith, l)) refl p)

-- ---- spreading
pub spread_none : (least h k : ℕ) (w : Worker) (q : Quad) (xs : List ℕ) → w.quad (record { height = q.height; name = 0 }) ≡ Some no_cells → q.name ≡ 0 → Adds (bits_under least (h - least) k (first_row (quad_set w q))) xs xs
spread_none least h k w q xs e s =
    let m : w.quad q ≡ Some no_cells = ap (λ (n : ℕ). w.quad (record { height = q.height; name = n })) s ∙ e in
    let z : quad_set w q ≡ no_cells = ap (λ o. unwrap_or o no_cells) m in
    adds_none _ xs (λ n b. ap (λ (f : Cells). bits_under least (h - least) k (first_row f) n b) z ∙ bits_under-none least (h - least) k n b)

pub spread_leaf : (least m k h answer bits : ℕ) (f : Cells) (ys zs : List ℕ) → h ≡ least → m ≡ 2 ^ h → bits_cells (2 ^ least) bits ≡ f → ((j : ℕ) → j < m → has_bit answer j ≡ bits_cells m bits 0 j) → Adds (λ n b. eqb n k && (ltb b m && has_bit answer b)) ys zs → Adds (bits_under least (h - least) k (first_row f)) ys zs
spread_leaf least m k h answer bits f ys zs e w c a s =
    let z : h - least ≡ 0 = omega (arith, e) in
    let v : m ≡ 2 ^ least = w ∙ ap (λ (x : ℕ). 2 ^ x) e in
    subst (λ (x : ℕ). Adds (bits_under least x k (first_row f)) ys zs) (sym z) (adds_same _ _ ys zs (λ n b. ap (λ t. eqb n k && t) (elim (cases_lt b m) [
      | inl l ↦ ap (λ t. ltb b m && t) (a b l) ∙ ap (λ (x : ℕ). ltb b x && bits_cells x bits 0 b) v ∙ ap (λ (g : Cells). ltb b (2 ^ least) && g 0 b) c
      | inr l ↦ and_left (ltb b m) _ (le-ltb b m l) ∙ sym (and_left (ltb b (2 ^ least)) _ (le-ltb b (2 ^ least) (omega (arith, v, l))))
    ])) s)

-- a lower quad, which lies in the western half
pub spread_low : (least h k : ℕ) (f : Cells) (p : ℕ) (ys zs : List ℕ) → least ≤ h - 1 → 0 < h → p ≤ h - 1 → LiesWithin (2 ^ p) (2 ^ p) f → Adds (bits_under least (h - 1 - least) (2 * k) (first_row f)) ys zs → Adds (bits_under least (h - least) k (first_row f)) ys zs
spread_low least h k f p ys zs l o n w s =
    let d : ℕ = h - 1 - least in
    let e = level-next least (h - 1) h l (omega (arith, o)) in
    let up = power_up p (least + d) (omega (arith, l, n)) in
    subst (λ (x : ℕ). Adds (bits_under least x k (first_row f)) ys zs) (sym e) (adds_same _ _ ys zs (λ x b.
    sym (ap (λ t. bits_under least d (2 * k) (first_row f) x b || t) (bits_under-agree least d (2 * k + 1) (λ j. f 0 (2 ^ (least + d) + j)) (λ j. false) x b (λ j i. outside (2 ^ p) (2 ^ p) f w 0 (2 ^ (least + d) + j) (inr (omega (arith, up)))) ∙ bits_under-none least d (2 * k + 1) x b) ∙ or-false (bits_under least d (2 * k) (first_row f) x b))) s)
  where
    or-false : (b : Bool) → (b || false) ≡ b
    or-false true = refl
    or-false false = refl

-- two halves
pub spread_two : (least h k : ℕ) (q : Quad) (four : Quarters) (u v w : Worker) (xs ys zs : List ℕ) → least ≤ h - 1 → 0 < h → q.height ≡ h → GivesQuarters u v q four → Keeps v w
    → Adds (bits_under least (h - 1 - least) (2 * k) (first_row (quad_set v four.nw))) xs ys → Adds (bits_under least (h - 1 - least) (2 * k + 1) (first_row (quad_set w four.ne))) ys zs
    → Adds (bits_under least (h - least) k (first_row (quad_set u q))) xs zs
spread_two least h k q four u v w xs ys zs l o s g kept a b =
    let d : ℕ = h - 1 - least in
    let m : ℕ = 2 ^ (least + d) in
    let e = level-next least (h - 1) h l (omega (arith, o)) in
    let nh = g.nw_height in
    let r : four.nw.height ≡ least + d = omega (arith, nh, l, o, s) in
    let all : Cells = quartered m (quad_set v four.nw) (quad_set v four.ne) (quad_set v four.sw) (quad_set v four.se) in
    let is : quad_set u q ≡ all = g.means ∙ ap (λ (x : ℕ). quartered (2 ^ x) (quad_set v four.nw) (quad_set v four.ne) (quad_set v four.sw) (quad_set v four.se)) r in
    let east : quad_set w four.ne ≡ quad_set v four.ne = kept_set v w four.ne kept g.ne in
    let pos = pow_pos (least + d) in
    let z : ltb 0 m ≡ true = lt-ltb 0 m (omega (arith, pos)) in
    subst (λ (x : ℕ). Adds (bits_under least x k (first_row (quad_set u q))) xs zs) (sym e) (adds_same _ _ xs zs (λ x y.
    ap (λ t. t || bits_under least d (2 * k + 1) (first_row (quad_set w four.ne)) x y) (bits_under-agree least d (2 * k) (first_row (quad_set v four.nw)) (first_row (quad_set u q)) x y (λ j i. sym (ap (λ (f : Cells). f 0 j) is ∙ (let t : ltb j m ≡ true = lt-ltb j m i in rw (z, t) refl))))
    ∙ ap (λ t. bits_under least d (2 * k) (first_row (quad_set u q)) x y || t) (bits_under-agree least d (2 * k + 1) (first_row (quad_set w four.ne)) (λ j. quad_set u q 0 (m + j)) x y (λ j i. ap (λ (f : Cells). f 0 j) east ∙ sym (ap (λ (f : Cells). f 0 (m + j)) is ∙ (let t : ltb (m + j) m ≡ false = le-ltb (m + j) m (omega arith) in let c : m + j - m ≡ j = omega arith in rw (z, t, c) refl)))))
    (adds_then _ _ xs ys zs a b))

-- ---- the heap of an image
-- the image of the line that a heap has
pub image_heap : (least h : ℕ) (turned : Bool) (x : Line) (f g : Cells) (xs ys : List ℕ) → f ≡ g → IsHeap least h x xs → IsHeap least h (image_line (2 ^ h) (line_under least (bits_of xs) (h - least) 1) (turned_cells turned f)) ys
    → IsHeap least h (image_line (2 ^ h) x (turned_cells turned g)) ys
image_heap least h turned x f g xs ys e s t = record {
  len = t.len;
  marked = t.marked;
  line = λ j l. t.line j l ∙ image-agree (2 ^ h) (line_under least (bits_of xs) (h - least) 1) x (turned_cells turned f) j (λ k p. s.line k p)
      ∙ ap (λ (y : Cells). image_line (2 ^ h) x (turned_cells turned y) j) e;
}
