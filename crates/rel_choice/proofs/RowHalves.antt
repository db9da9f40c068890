-- The least row of a quad, by its quarters, over the calls that find it.
use Rattle.std.proofs.Common.{◌≡◌, ◌<◌, ◌≤◌, ◌+◌, ◌-◌, ◌^◌, ◌⊎◌, min, ℕ, Bool, true, false, sym, ap, subst, ◌∙◌, inl, inr, arith, Option, Some, None}
use Rattle.std.specs.Prelude.{is_some}
use Rattle.std.proofs.Math.Nat.{pow-le-pow_right}
use Rattle.std.proofs.lemmas.Bool.{false≢true, true≢false}
use Rattle.rel_model.specs.declared.Quad.{Quad}
use Rattle.rel_model.specs.declared.Quarters.{Quarters}
use Rattle.rel_model.specs.Cells.{no_cells, some_below}
use Rattle.rel_model.specs.Trees.{quartered}
use Rattle.rel_model.specs.Quarters.{GivesQuarters}
use Rattle.rel_model.specs.Worker.{Worker, quad_set, Keeps}
use Rattle.rel_model.proofs.Somes.{some_from, some_none}
use Rattle.rel_choice.specs.Leasts.{Least, IsLeast, row_meets, row_meets_either}
use Rattle.rel_steps.proofs.Given.{kept_set}
use Rattle.rel_choice.proofs.Standing.{zero_set}
use Rattle.rel_choice.proofs.QuadCounts.{power-half}
use Rattle.rel_choice.proofs.Nearest.{row_meets-north, row_meets-south, row_meets-none, least-first, least-second, least-neither}

-- the side of a leaf
pub leaf-side : (h least s : ℕ) → h ≡ least → least ≤ 3 → s ≡ 2 ^ h → s ≤ 8
leaf-side h least s e l k = let p = pow-le-pow_right {n = 2} (omega arith) {i = h} {j = 3} (omega arith) in omega (arith, p, k)

-- a line of a leaf has a cell where its least column is found
pub meets-some : (t : ℕ → Bool) (n : ℕ) (o : Option ℕ) → IsLeast t 0 n o → is_some o ≡ true → some_below n t ≡ true
meets-some t n None h e = absurd (false≢true e)
meets-some t n (Some k) h e = some_from n t k h.high h.passes

pub meets-none : (t : ℕ → Bool) (n : ℕ) (o : Option ℕ) → IsLeast t 0 n o → is_some o ≡ false → some_below n t ≡ false
meets-none t n None h e = some_none n t (λ k l. h k (omega arith) l)
meets-none t n (Some k) h e = absurd (true≢false e)

-- a quad named 0, and a range of no rows
pub none-least : (w : Worker) (q : Quad) (from below : ℕ) → w.quad (record { height = q.height; name = 0 }) ≡ Some no_cells → (q.name ≡ 0) ⊎ (below ≤ from) → IsLeast (row_meets (2 ^ q.height) (quad_set w q)) from below None
none-least w q from below h (inl e) = λ x a b. ap (λ f. row_meets (2 ^ q.height) f x) (zero_set w q e h) ∙ row_meets-none (2 ^ q.height) x
none-least w q from below h (inr l) = λ x a b. absurd (omega (arith, l, a, b))

-- the rows of a quad are those of its quarters
rows_of-quad : (old new : Worker) (q : Quad) (four : Quarters) → GivesQuarters old new q four → (x : ℕ)
    → row_meets (2 ^ q.height) (quad_set old q) x ≡ row_meets (2 ^ four.nw.height + 2 ^ four.nw.height) (quartered (2 ^ four.nw.height) (quad_set new four.nw) (quad_set new four.ne) (quad_set new four.sw) (quad_set new four.se)) x
rows_of-quad old new q four g x =
    ap (λ (n : ℕ). row_meets n (quad_set old q) x) (power-half four.nw.height q.height g.nw_height) ∙ ap (λ f. row_meets (2 ^ four.nw.height + 2 ^ four.nw.height) f x) g.means

north : (old new : Worker) (q : Quad) (four : Quarters) (half : ℕ) → GivesQuarters old new q four → half ≡ 2 ^ four.nw.height → (x : ℕ) → x < half
    → row_meets (2 ^ q.height) (quad_set old q) x ≡ row_meets_either (2 ^ four.nw.height) (quad_set new four.nw) (quad_set new four.ne) x
north old new q four half g e x l =
    rows_of-quad old new q four g x ∙ row_meets-north (2 ^ four.nw.height) (quad_set new four.nw) (quad_set new four.ne) (quad_set new four.sw) (quad_set new four.se) x (omega (arith, e, l))

south : (old new : Worker) (q : Quad) (four : Quarters) (half : ℕ) → GivesQuarters old new q four → half ≡ 2 ^ four.nw.height → (x : ℕ)
    → row_meets (2 ^ q.height) (quad_set old q) (half + x) ≡ row_meets_either (2 ^ four.nw.height) (quad_set new four.sw) (quad_set new four.se) x
south old new q four half g e x =
    ap (λ (y : ℕ). row_meets (2 ^ q.height) (quad_set old q) (y + x)) e ∙ rows_of-quad old new q four g (2 ^ four.nw.height + x)
    ∙ row_meets-south (2 ^ four.nw.height) (quad_set new four.nw) (quad_set new four.ne) (quad_set new four.sw) (quad_set new four.se) x

-- the southern quarters one call later
south_rows : (old new later : Worker) (q : Quad) (four : Quarters) → GivesQuarters old new q four → Keeps new later → (x : ℕ)
    → row_meets_either (2 ^ four.sw.height) (quad_set later four.sw) (quad_set later four.se) x ≡ row_meets_either (2 ^ four.nw.height) (quad_set new four.sw) (quad_set new four.se) x
south_rows old new later q four g k x =
    let a = g.nw_height in
    let b = g.sw_height in
    let e : four.sw.height ≡ four.nw.height = omega (arith, a, b) in
    ap (λ (h : ℕ). row_meets_either (2 ^ h) (quad_set later four.sw) (quad_set later four.se) x) e
    ∙ ap (λ f. row_meets_either (2 ^ four.nw.height) f (quad_set later four.se) x) (kept_set new later four.sw k g.sw)
    ∙ ap (λ f. row_meets_either (2 ^ four.nw.height) (quad_set new four.sw) f x) (kept_set new later four.se k g.se)

-- ---- the least row
pub row-first : (old new : Worker) (q : Quad) (four : Quarters) (half from below cut k : ℕ) → GivesQuarters old new q four → half ≡ 2 ^ four.nw.height → cut ≡ min below half
    → Least (row_meets_either (2 ^ four.nw.height) (quad_set new four.nw) (quad_set new four.ne)) from cut k → Least (row_meets (2 ^ q.height) (quad_set old q)) from below k
row-first old new q four half from below cut k g e c l =
    least-first (row_meets (2 ^ q.height) (quad_set old q)) (row_meets_either (2 ^ four.nw.height) (quad_set new four.nw) (quad_set new four.ne)) half from below k (north old new q four half g e)
    (subst (λ (x : ℕ). Least (row_meets_either (2 ^ four.nw.height) (quad_set new four.nw) (quad_set new four.ne)) from x k) c l)

pub row-second : (old new later : Worker) (q : Quad) (four : Quarters) (half from below cut start rest k : ℕ) → GivesQuarters old new q four → Keeps new later → half ≡ 2 ^ four.nw.height → cut ≡ min below half → start ≡ from - half → rest ≡ below - half
    → IsLeast (row_meets_either (2 ^ four.nw.height) (quad_set new four.nw) (quad_set new four.ne)) from cut None → Least (row_meets_either (2 ^ four.sw.height) (quad_set later four.sw) (quad_set later four.se)) start rest k
    → Least (row_meets (2 ^ q.height) (quad_set old q)) from below (half + k)
row-second old new later q four half from below cut start rest k g p e c s r n l =
    least-second (row_meets (2 ^ q.height) (quad_set old q)) (row_meets_either (2 ^ four.nw.height) (quad_set new four.nw) (quad_set new four.ne)) (row_meets_either (2 ^ four.sw.height) (quad_set later four.sw) (quad_set later four.se)) half from below k
    (north old new q four half g e) (λ x. south old new q four half g e x ∙ sym (south_rows old new later q four g p x)) (λ x a b. n x a (omega (arith, b, c)))
    (subst (λ (x : ℕ). Least (row_meets_either (2 ^ four.sw.height) (quad_set later four.sw) (quad_set later four.se)) x (below - half) k) s (subst (λ (x : ℕ). Least (row_meets_either (2 ^ four.sw.height) (quad_set later four.sw) (quad_set later four.se)) start x k) r l))

pub row-neither : (old new later : Worker) (q : Quad) (four : Quarters) (half from below cut start rest : ℕ) → GivesQuarters old new q four → Keeps new later → half ≡ 2 ^ four.nw.height → cut ≡ min below half → start ≡ from - half → rest ≡ below - half
    → IsLeast (row_meets_either (2 ^ four.nw.height) (quad_set new four.nw) (quad_set new four.ne)) from cut None → IsLeast (row_meets_either (2 ^ four.sw.height) (quad_set later four.sw) (quad_set later four.se)) start rest None
    → IsLeast (row_meets (2 ^ q.height) (quad_set old q)) from below None
row-neither old new later q four half from below cut start rest g p e c s r n l =
    least-neither (row_meets (2 ^ q.height) (quad_set old q)) (row_meets_either (2 ^ four.nw.height) (quad_set new four.nw) (quad_set new four.ne)) (row_meets_either (2 ^ four.sw.height) (quad_set later four.sw) (quad_set later four.se)) half from below
    (north old new q four half g e) (λ x. south old new q four half g e x ∙ sym (south_rows old new later q four g p x)) (λ x a b. n x a (omega (arith, b, c))) (λ x a b. l x (omega (arith, a, s)) (omega (arith, b, r)))
