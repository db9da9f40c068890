-- The counts of quads: of a leaf, by quarters, over several calls, and as a memory keeps them.
use Rattle.std.proofs.Common.{◌≡◌, ◌<◌, ◌≤◌, ◌+◌, ◌*◌, ◌^◌, ◌&&◌, eqb, cond, zero, suc, ℕ, List, [], ◌∷◌, length, refl, sym, ap, subst, ◌∙◌, inl, inr, arith, Option, Some}
use Rattle.std.specs.Prelude.{Result, Ok, Err, OnErr, IsSome, unwrap_or}
use Rattle.std.proofs.Math.Nat.{pow-suc, pow-le-pow_right, mul-le-mul}
use Rattle.std.proofs.lemmas.Bool.{cases_Bool, and_parts, eqb-true}
use Rattle.std.specs.Int.Count.{ones}
use Rattle.rel_model.specs.declared.Quad.{Quad}
use Rattle.rel_model.specs.declared.Quarters.{Quarters}
use Rattle.rel_model.specs.Relation.{Relation, IsRelation, has}
use Rattle.rel_model.specs.Cells.{no_cells, bits_cells}
use Rattle.rel_model.specs.Trees.{top_height, quartered}
use Rattle.rel_model.specs.Choice.{count}
use Rattle.rel_model.specs.Quarters.{GivesQuarters}
use Rattle.rel_model.specs.Worker.{Worker, HasQuad, quad_set, GivesQuad, Keeps}
use Rattle.rel_choice.specs.Counts.{cells_count, quad_count, AreCounts}
use Rattle.rel_choice.proofs.Sums.{cells_count-none, cells_count-quartered, cells_count-limit}
use Rattle.rel_choice.proofs.CellCounts.{bits-count, pairs-count}
use Rattle.rel_steps.proofs.Given.{kept_quad, kept_set, gives_has, gives_quad_set}
use Rattle.rel_choice.proofs.Standing.{zero_set}

-- the quad named 0
pub none-count : (w : Worker) (q : Quad) → q.name ≡ 0 → w.quad (record { height = q.height; name = 0 }) ≡ Some no_cells → 0 ≡ quad_count w q
none-count w q e h = sym (cells_count-none (2 ^ q.height) (2 ^ q.height)) ∙ ap (cells_count (2 ^ q.height) (2 ^ q.height)) (sym (zero_set w q e h))

-- a leaf
pub leaf-count : (w : Worker) (q : Quad) (least bits : ℕ) → q.height ≡ least → bits_cells (2 ^ least) bits ≡ quad_set w q → bits < 2 ^ (2 ^ least * 2 ^ least) → ones bits ≡ quad_count w q
leaf-count w q least bits e h l = bits-count (2 ^ least) bits l ∙ ap (λ f. cells_count (2 ^ least) (2 ^ least) f) h ∙ ap (λ (x : ℕ). cells_count (2 ^ x) (2 ^ x) (quad_set w q)) (sym e)

-- a quad keeps its count
pub kept-count : (a b : Worker) (q : Quad) → Keeps a b → HasQuad a q → quad_count b q ≡ quad_count a q
kept-count a b q k s = ap (cells_count (2 ^ q.height) (2 ^ q.height)) (kept_set a b q k s)

-- the quarters
pub power-half : (h k : ℕ) → h + 1 ≡ k → 2 ^ k ≡ 2 ^ h + 2 ^ h
power-half h k e = ap (λ (x : ℕ). 2 ^ x) (sym e) ∙ (let p : 2 ^ (h + 1) ≡ 2 ^ h * 2 = (let s : h + 1 ≡ suc h = omega arith in ap (λ (x : ℕ). 2 ^ x) s ∙ pow-suc 2 h) in omega (arith, p))

side-count : (w : Worker) (q : Quad) (h : ℕ) → q.height ≡ h → quad_count w q ≡ cells_count (2 ^ h) (2 ^ h) (quad_set w q)
side-count w q h e = ap (λ (x : ℕ). cells_count (2 ^ x) (2 ^ x) (quad_set w q)) e

-- a quad has as many cells as its quarters together: it is made of them, and each has half its side
pub quarters-count : (old new : Worker) (q : Quad) (four : Quarters) → GivesQuarters old new q four → quad_count old q ≡ (quad_count new four.nw + quad_count new four.ne) + (quad_count new four.sw + quad_count new four.se)
quarters-count old new q four g =
    let h : ℕ = four.nw.height in
    let p = power-half h q.height g.nw_height in
    let e : quad_count old q ≡ cells_count (2 ^ h + 2 ^ h) (2 ^ h + 2 ^ h) (quad_set old q) = ap (λ (x : ℕ). cells_count x x (quad_set old q)) p in
    let f : cells_count (2 ^ h + 2 ^ h) (2 ^ h + 2 ^ h) (quad_set old q) ≡ cells_count (2 ^ h + 2 ^ h) (2 ^ h + 2 ^ h) (quartered (2 ^ h) (quad_set new four.nw) (quad_set new four.ne) (quad_set new four.sw) (quad_set new four.se)) = ap (cells_count (2 ^ h + 2 ^ h) (2 ^ h + 2 ^ h)) g.means in
    let s = cells_count-quartered (2 ^ h) (quad_set new four.nw) (quad_set new four.ne) (quad_set new four.sw) (quad_set new four.se) in
    let a = g.nw_height in
    let b = side-count new four.ne h (let x = g.ne_height in omega (arith, x, a)) in
    let c = side-count new four.sw h (let x = g.sw_height in omega (arith, x, a)) in
    let d = side-count new four.se h (let x = g.se_height in omega (arith, x, a)) in
    omega (arith, e, f, s, b, c, d)

-- a quad has at most 2 ^ 48 cells
pub count-limit : (w : Worker) (q : Quad) → q.height ≤ top_height → quad_count w q ≤ 2 ^ 48
unfolding top_height
count-limit w q l =
    let p = pow-le-pow_right {n = 2} (omega arith) {i = q.height} {j = 24} l in
    let c = cells_count-limit (2 ^ q.height) (2 ^ q.height) (quad_set w q) in
    let m : 2 ^ q.height * 2 ^ q.height ≤ 2 ^ 24 * 2 ^ 24 = mul-le-mul p p in
    omega (arith, c, m)

-- ---- the memory
pub counts-kept : (a b : Worker) (found : ℕ × ℕ → Option ℕ) → AreCounts a found → Keeps a b → AreCounts b found
counts-kept a b found h k =
    λ height name c e. let s = h height name c e in
    (kept_quad a b (record { height = height; name = name }) k s.0, s.1 ∙ sym (kept-count a b (record { height = height; name = name }) k s.0))

same_quad : (q : Quad) (h n : ℕ) → q.height ≡ h → q.name ≡ n → q ≡ record { height = h; name = n }
same_quad q h n a b =
    let f : ℕ → Quad = λ x. record { height = x; name = q.name } in
    let g : ℕ → Quad = λ y. record { height = h; name = y } in
    ap f a ∙ ap g b

-- a count that is put in
counts-put : (w : Worker) (q : Quad) (c : ℕ) (old new : ℕ × ℕ → Option ℕ) → HasQuad w q → c ≡ quad_count w q → AreCounts w old
    → ((k : ℕ × ℕ) → new k ≡ cond (eqb q.height k.0 && eqb q.name k.1) (Some c) (old k)) → AreCounts w new
counts-put w q c old new s e h u = λ height name x f.
    elim (cases_Bool (eqb q.height height && eqb q.name name)) [
      | inl t ↦ (
          let a = and_parts _ _ t in
          let same : Some c ≡ Some x = ap (λ b. cond b (Some c) (old (height, name))) (sym t) ∙ sym (u (height, name)) ∙ f in
          subst (λ z. HasQuad w z × (x ≡ quad_count w z)) (same_quad q height name (eqb-true _ _ a.0) (eqb-true _ _ a.1)) (s, some_inj c x same ∙ e))
      | inr t ↦ h height name x (ap (λ b. cond b (Some c) (old (height, name))) (sym t) ∙ sym (u (height, name)) ∙ f)
    ]
  where
    some_inj : (a b : ℕ) → Some a ≡ Some b → b ≡ a
    some_inj a b p = cc

-- one that was counted some calls before
pub counts-put-later : (v w : Worker) (q : Quad) (c : ℕ) (old new : ℕ × ℕ → Option ℕ) → Keeps v w → HasQuad v q → c ≡ quad_count v q → AreCounts w old
    → ((k : ℕ × ℕ) → new k ≡ cond (eqb q.height k.0 && eqb q.name k.1) (Some c) (old k)) → AreCounts w new
counts-put-later v w q c old new k s e h u = counts-put w q c old new (kept_quad v w q k s) (e ∙ sym (kept-count v w q k s)) h u

-- what is found
pub counts-found : (w : Worker) (q : Quad) (c : ℕ) (found : ℕ × ℕ → Option ℕ) → AreCounts w found → found (q.height, q.name) ≡ Some c → c ≡ quad_count w q
counts-found w q c found h e = (h q.height q.name c e).1

-- a relation
pub relation-count : (w : Worker) (r : Relation) (h : ℕ) (q : Quad) → IsRelation r → r.rows ≤ 2 ^ h → r.cols ≤ 2 ^ h → GivesQuad w h (has r) q → quad_count w q ≡ count r
relation-count w r h q v a b g =
    side-count w q h g.same_height ∙ ap (cells_count (2 ^ h) (2 ^ h)) (gives_quad_set w h (has r) q g) ∙ sym (pairs-count r (2 ^ h) v a b)

-- ---- a relation that has no pair, and one that is counted with no memory
no-pair : (ps : List (ℕ × ℕ)) → length ps ≡ 0 → ps ≡ []
no-pair [] e = refl
no-pair (p ∷ ps) e = absurd (omega (arith, e))

-- its quad is named 0
pub empty-name : (w : Worker) (r : Relation) (h : ℕ) (q : Quad) → length r.pairs ≡ 0 → GivesQuad w h (has r) q → w.quad (record { height = q.height; name = 0 }) ≡ Some no_cells
    → (HasQuad w q → HasQuad w (record { height = q.height; name = 0 }) → q.height ≡ q.height → quad_set w q ≡ quad_set w (record { height = q.height; name = 0 }) → q.name ≡ 0) → q.name ≡ 0
empty-name w r h q e g z one =
    let none : has r ≡ no_cells = ap (λ (ps : List (ℕ × ℕ)). has (record { rows = r.rows; cols = r.cols; pairs = ps })) (no-pair r.pairs e) in
    one (gives_has w h (has r) q g) (subst IsSome (sym z) refl) refl (gives_quad_set w h (has r) q g ∙ none ∙ sym (ap (λ o. unwrap_or o no_cells) z))

some_more : (n m : ℕ) → (n ≡ 0 → m ≡ 0) → 0 < m → 0 < n
some_more zero m f l = absurd (omega (arith, f refl, l))
some_more (suc n) m f l = omega arith

-- a refusal of what is not 0 where the one is 0 with the other
pub refused-some : {T E : Type 0} (r : Result T E) (n m : ℕ) → (n ≡ 0 → m ≡ 0) → OnErr r (0 < m) → OnErr r (0 < n)
refused-some (Ok v) n m f h = h
refused-some (Err e) n m f h = some_more n m f h
