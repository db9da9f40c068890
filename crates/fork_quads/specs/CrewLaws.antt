-- What stands in a crew satisfies the laws of the traits.
use Rattle.std.proofs.Common.{◌≡◌, ◌≢◌, ◌<◌, ◌≤◌, ◌^◌, ◌&&◌, ◌⊎◌, not, eqb, leb, ℕ, Bool, true, false, List, [], length, get_or, Some, refl, sym, ap, subst, ◌∙◌, inl, inr, arith}
use Rattle.std.specs.Prelude.{IsSome, unwrap_or}
use Rattle.std.proofs.lemmas.Bool.{false≢true, cases_Bool, cases_lt, cases_eq, leb-true, le-leb, eqb-true, eqb-false, eq-eqb, ne_eqb, and_parts, and_from, and_cases, and_left, or_parts, or_from, not-true, not_from_false, not_from_true}
use Rattle.std.proofs.lemmas.List.{get_or_past}
use Rattle.rel_model.specs.declared.Rel.{Rel}
use Rattle.rel_model.specs.declared.Quad.{Quad}
use Rattle.rel_model.specs.Relation.{IsRelation, relation_of, size_limit}
use Rattle.rel_model.specs.Cells.{Cells, no_cells, some_below}
use Rattle.rel_model.specs.Trees.{bottom_height, top_height, cells, stands}
use Rattle.rel_model.specs.Words.{IsDistinct}
use Rattle.rel_model.specs.Equations.{depth_of}
use Rattle.rel_model.specs.Quads.{Keeper, quad_cells}
use Rattle.rel_model.specs.Roots.{root_cells}
use Rattle.rel_model.specs.Quarters.{LiesWithin}
use Rattle.rel_model.specs.Worker.{Stands, set_of, HasQuad, quad_set}
use Rattle.rel_model.proofs.Relations.{IsRelation-relation_of, rows-relation_of, cols-relation_of}
use Rattle.rel_model.proofs.TreeLaws.{Within, zero_stands, zero_cells, one_set_one_name}
use Rattle.rel_model.proofs.QuadLaws.{side_of-power}
use Rattle.rel_model.proofs.Rooting.{relation_in-rooted, rooted-relation_in, some_below-false, some_below-none, square_within}
use Rattle.fork_quads.specs.Crew.{is_spoilt, is_canonical, named_set, quad_in, worker_of}

-- ---- canonical names
-- if the test passes, names are canonical
pub canonical_means : (words : List ℕ) → is_canonical words ≡ true → IsDistinct words
unfolding is_canonical
canonical_means words e =
    let a = and_parts _ _ e in
    let b = and_parts _ _ a.0 in
    let z : get_or words 0 0 ≡ 0 = eqb-true _ 0 b.0 in
    let clean : (n : ℕ) → n < length words → is_spoilt words n
    ≡ false = λ n l. some_below-false (length words) (is_spoilt words) (not-true _ a.1) n l in
    let placed : (n : ℕ) → get_or words n 0 ≢ 0 → n < length words = λ n h. elim
    (cases_lt n (length words)) [ inl l ↦ l | inr l ↦ absurd (h (get_or_past words n 0 l)) ] in
    let later : (m n : ℕ) → m < n → get_or words n 0 ≢ 0 → get_or words m 0 ≢ get_or words n 0 = λ m n l h q.
    let c = or_parts _ _ (clean n (placed n h)) in
    elim (and_cases _ _ c.1) [
      | inl x ↦ false≢true (sym x ∙ not_from_false _ (ne_eqb (get_or words n 0) 0 h))
      | inr x ↦ eqb-false (get_or words m 0) (get_or words n 0)
          (some_below-false n (λ k. eqb (get_or words k 0) (get_or words n 0)) x m l) q
    ] in
    record {
      none_at_0 = z;
      none_at_1 = eqb-true _ 0 b.1;
      one_place = λ m n h q. elim (cases_lt m n) [
        | inl l ↦ absurd (later m n l (λ x. h (q ∙ x)) q)
        | inr l ↦ elim (cases_lt n m) [
          | inl k ↦ absurd (later n m k h (sym q))
          | inr k ↦ omega arith
        ]
      ];
      fits = λ n. elim (cases_eq (get_or words n 0) 0) [
        | inl x ↦ omega (arith, x)
        | inr x ↦ (let c = or_parts _ _ (clean n (placed n x)) in elim
            (cases_lt (get_or words n 0) (2 ^ 64)) [
              | inl l ↦ l
              | inr l ↦ absurd
                  (false≢true (sym c.0 ∙ le-leb (2 ^ 64) (get_or words n 0) l))
            ])
      ];
    }

-- if names are canonical, the test passes
pub canonical_from : (words : List ℕ) → IsDistinct words → is_canonical words ≡ true
unfolding is_canonical
canonical_from words d =
    and_from _ _ (and_from _ _ (eq-eqb _ 0 d.none_at_0) (eq-eqb _ 0 d.none_at_1))
    (not_from_false _ (some_below-none (length words) (is_spoilt words) (λ n l. or_from _ _ (short n) (alone n))))
  where
    short : (n : ℕ) → leb (2 ^ 64) (get_or words n 0) ≡ false
    short n = elim (cases_Bool (leb (2 ^ 64) (get_or words n 0))) [
      | inl e ↦ (let a = leb-true (2 ^ 64) (get_or words n 0) e in let b = d.fits n in absurd (omega arith))
      | inr e ↦ e
    ]

    alone : (n : ℕ) → (not (eqb (get_or words n 0) 0) && some_below n
        (λ m. eqb (get_or words m 0) (get_or words n 0))) ≡ false
    alone n = elim (cases_eq (get_or words n 0) 0) [
      | inl x ↦ and_left _ _ (not_from_true _ (eq-eqb _ 0 x))
      | inr x ↦ and_right' (not (eqb (get_or words n 0) 0)) _
          (some_below-none n (λ m. eqb (get_or words m 0) (get_or words n 0))
          (λ m l. ne_eqb (get_or words m 0) (get_or words n 0)
          (λ q. let e = d.one_place n m x (sym q) in omega (arith, e))))
    ]
      where
        and_right' : (b c : Bool) → c ≡ false → (b && c) ≡ false
        and_right' true c e = e
        and_right' false c e = refl

-- ---- quads
-- a quad that stands
pub record IsNamed (words : List ℕ) (q : Quad) : Type 0 where
  pub low : bottom_height ≤ q.height
  pub high : q.height ≤ top_height
  pub standing : stands words (depth_of q.height) q.name ≡ true
  pub canonical : (q.name ≡ 0) ⊎ IsDistinct words

-- a quad that stands has a height and a name of this kind
pub quad_in-named : (words : List ℕ) (q : Quad) → IsSome (quad_in words q) → IsNamed words q
unfolding quad_in
quad_in-named words q h = elim (cases_Bool (leb bottom_height q.height && leb q.height top_height)) [
  | inr e ↦ absurd (false≢true (rw e at h))
  | inl e ↦ let a = and_parts _ _ e in at (leb-true _ _ a.0) (leb-true _ _ a.1) (rw e at h)
]
  where
    at : bottom_height ≤ q.height → q.height ≤ top_height → IsSome (named_set words q.height q.name) → IsNamed words q
    at l t s = elim (cases_Bool (eqb q.name 0)) [
      | inl z ↦ let n = eqb-true q.name 0 z in
          record {
            low = l;
            high = t;
            standing = subst (λ (x : ℕ). stands words (depth_of q.height) x ≡ true) (sym n)
                (zero_stands words (depth_of q.height));
            canonical = inl n;
          }
      | inr z ↦ elim (cases_Bool (is_canonical words && stands words (depth_of q.height) q.name)) [
        | inl c ↦ let p = and_parts _ _ c in record {
          low = l;
          high = t;
          standing = p.1;
          canonical = inr (canonical_means words p.0);
        }
        | inr c ↦ absurd (false≢true (rw (z, c) at s))
      ]
    ]

-- the set of a quad named 0 is empty
pub quad_in-none : (words : List ℕ) (h n : ℕ) → bottom_height ≤ h → h ≤ top_height → n ≡ 0
    → quad_in words (record { height = h; name = n }) ≡ Some no_cells
unfolding quad_in
quad_in-none words h n l t z = rw (and_from _ _ (le-leb bottom_height h l) (le-leb h top_height t), eq-eqb n 0 z) refl

-- the set of a quad whose name stands is that of its name
pub quad_in-is : (words : List ℕ) (h n : ℕ) → IsDistinct words → bottom_height ≤ h → h ≤ top_height
    → stands words (depth_of h) n ≡ true → quad_in words (record { height = h; name = n })
    ≡ Some (cells words (depth_of h) n)
unfolding quad_in
quad_in-is words h n d l t s = elim (cases_Bool (eqb n 0)) [
  | inl z ↦ let e = eqb-true n 0 z in
      quad_in-none words h n l t e ∙ ap (λ (c : Cells). Some c)
      (sym (ap (cells words (depth_of h)) e ∙ zero_cells words d.none_at_0 (depth_of h)))
  | inr z ↦ rw (
    and_from _ _ (le-leb bottom_height h l) (le-leb h top_height t),
    z,
    and_from _ _ (canonical_from words d) s,
  ) refl
]

-- the set of a quad that stands, by its name
quad_set_is : (w : Keeper) (q : Quad) → IsDistinct w.view.words → HasQuad (worker_of w) q
    → quad_set (worker_of w) q ≡ quad_cells w q
quad_set_is w q d h = let s = quad_in-named w.view.words q h in ap (λ o. unwrap_or o no_cells)
    (quad_in-is w.view.words q.height q.name d s.low s.high s.standing)

-- a quad named 0 has no cell
quad_set_none : (w : Keeper) (q : Quad) → HasQuad (worker_of w) q → q.name ≡ 0 → quad_set (worker_of w) q ≡ no_cells
quad_set_none w q h z = let s = quad_in-named w.view.words q h in ap (λ o. unwrap_or o no_cells)
    (quad_in-none w.view.words q.height q.name s.low s.high z)

-- ---- laws of relations
-- the set of a relation that stands, by its root
set_is : (w : Keeper) (r : Rel) → Stands (worker_of w) r
    → set_of (worker_of w) r ≡ relation_of r.rows r.cols (root_cells w.view.words r)
set_is w r h = ap (λ o. unwrap_or o (record { rows = 0; cols = 0; pairs = [] }))
    (rooted-relation_in w.view.words r (relation_in-rooted w.view.words r h))

-- what stands is a relation
pub valid_law : (w : Keeper) (r : Rel) → Stands (worker_of w) r → IsRelation (set_of (worker_of w) r)
valid_law w r h = subst IsRelation (sym (set_is w r h))
    (IsRelation-relation_of r.rows r.cols (root_cells w.view.words r))

-- it has as many rows as it claims
pub rows_law : (w : Keeper) (r : Rel) → Stands (worker_of w) r → (set_of (worker_of w) r).rows ≡ r.rows
rows_law w r h = ap (λ x. x.rows) (set_is w r h) ∙ rows-relation_of r.rows r.cols (root_cells w.view.words r)

-- it has as many columns as it claims
pub cols_law : (w : Keeper) (r : Rel) → Stands (worker_of w) r → (set_of (worker_of w) r).cols ≡ r.cols
cols_law w r h = ap (λ x. x.cols) (set_is w r h) ∙ cols-relation_of r.rows r.cols (root_cells w.view.words r)

-- its rows are within the limit
pub row_limit_law : (w : Keeper) (r : Rel) → Stands (worker_of w) r → r.rows ≤ size_limit
row_limit_law w r h = (relation_in-rooted w.view.words r h).row_limit

-- its columns are within the limit
pub col_limit_law : (w : Keeper) (r : Rel) → Stands (worker_of w) r → r.cols ≤ size_limit
col_limit_law w r h = (relation_in-rooted w.view.words r h).col_limit

-- ---- laws of quads
-- the leaves' height is at most 3
pub least_limit_law : 3 ≤ 3
least_limit_law = omega arith

-- no quad is below the leaves
pub low_height_law : (w : Keeper) (q : Quad) → HasQuad (worker_of w) q → 3 ≤ q.height
unfolding bottom_height
low_height_law w q h = (quad_in-named w.view.words q h).low

-- no quad is above the greatest height
pub high_height_law : (w : Keeper) (q : Quad) → HasQuad (worker_of w) q → q.height ≤ top_height
high_height_law w q h = (quad_in-named w.view.words q h).high

-- the cells of a quad lie within its square
pub square_law : (w : Keeper) (q : Quad) → HasQuad (worker_of w) q
    → LiesWithin (2 ^ q.height) (2 ^ q.height) (quad_set (worker_of w) q)
square_law w q h =
    let s = quad_in-named w.view.words q h in
    let p = side_of-power q.height s.low in
    elim s.canonical [
      | inl z ↦ subst (λ (c : Cells). LiesWithin (2 ^ q.height) (2 ^ q.height) c) (sym (quad_set_none w q h z))
          (record { row = λ i j x. absurd (false≢true x); col = λ i j x. absurd (false≢true x) })
      | inr d ↦ subst (λ (c : Cells). LiesWithin (2 ^ q.height) (2 ^ q.height) c) (sym (quad_set_is w q d h))
          (subst (λ (m : ℕ). LiesWithin m m (quad_cells w q)) p (within (square_within w.view.words q.height q.name)))
    ]
  where
    within : {m n : ℕ} {f : Cells} → Within m n f → LiesWithin m n f
    within v = record { row = v.row; col = v.col }

-- the quad named 0 has no cell, at each height
pub none_law : (w : Keeper) (h : ℕ) → 3 ≤ h → h ≤ top_height
    → quad_in w.view.words (record { height = h; name = 0 }) ≡ Some no_cells
unfolding bottom_height
none_law w h l t = quad_in-none w.view.words h 0 l t refl

-- quads of one height with the same set have the same name
pub one_name_law : (w : Keeper) (p q : Quad) → HasQuad (worker_of w) p → HasQuad (worker_of w) q → p.height ≡ q.height
    → quad_set (worker_of w) p ≡ quad_set (worker_of w) q → p.name ≡ q.name
one_name_law w p q h k e f =
    let s = quad_in-named w.view.words p h in
    let t = quad_in-named w.view.words q k in
    elim s.canonical [
      | inl x ↦ elim t.canonical [ inl y ↦ x ∙ sym y | inr d ↦ one w p q h k s t d e f ]
      | inr d ↦ one w p q h k s t d e f
    ]
  where
    one : (w : Keeper) (p q : Quad) → HasQuad (worker_of w) p → HasQuad (worker_of w) q → IsNamed w.view.words p
        → IsNamed w.view.words q → IsDistinct w.view.words → p.height ≡ q.height
        → quad_set (worker_of w) p ≡ quad_set (worker_of w) q → p.name ≡ q.name
    one w p q h k s t d e f =
        one_set_one_name w.view.words d (depth_of p.height) p.name q.name s.standing
        (subst (λ (x : ℕ). stands w.view.words (depth_of x) q.name ≡ true) (sym e) t.standing)
        (sym (quad_set_is w p d h) ∙ f ∙ quad_set_is w q d k
        ∙ ap (λ (x : ℕ). cells w.view.words (depth_of x) q.name) (sym e))
