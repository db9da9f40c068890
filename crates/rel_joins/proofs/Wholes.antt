-- The closure by rows of bits: its squares together are its cells, and its tree has fewer nodes than a closure may make.
use Rattle.std.proofs.Common.{◌≡◌, ◌<◌, ◌≤◌, ◌+◌, ◌-◌, ◌*◌, ◌/◌, ◌%◌, ◌^◌, ◌∙◌, ◌&&◌, ◌++◌, ltb, zero, suc, ℕ, Bool, List, sym, ap, subst, inl, inr, arith, length, get_or, take}
use Rattle.std.proofs.Math.Nat.{one-le-pow}
use Rattle.std.proofs.Math.Seq.{take-append_seam}
use Rattle.std.proofs.lemmas.Bool.{cases_lt, lt-ltb, le-ltb, and_left, and_right}
use Rattle.std.proofs.lemmas.Nat.{mul-le, mul-pow, pow-add}
use Rattle.rel_model.specs.declared.Quad.{Quad}
use Rattle.rel_model.specs.Algebra.{HasType}
use Rattle.rel_model.specs.Cells.{Cells}
use Rattle.rel_model.specs.Closures.{transitive_closure}
use Rattle.rel_model.specs.Listed.{AreWithin}
use Rattle.rel_model.specs.Quarters.{LiesWithin}
use Rattle.rel_model.specs.Relation.{Relation, IsIncreasing, has, relation_of, size_limit}
use Rattle.rel_model.specs.Roots.{height_over, tree_room}
use Rattle.rel_model.specs.Worker.{Worker, HasQuad, quad_set, GivesQuad, height_of_three, derived_room}
use Rattle.rel_model.proofs.Heights.{height_over-rows}
use Rattle.rel_model.proofs.Members.{Inside}
use Rattle.rel_model.proofs.Relations.{of_itself}
use Rattle.rel_model.proofs.Rooms.{derived_room-least}
use Rattle.rel_model.proofs.Rooting.{outside}
use Rattle.rel_model.proofs.TreeLaws.{same_cells}
use Rattle.rel_model.proofs.Walking.{type-closure}
use Rattle.rel_steps.proofs.Given.{gives_has, gives_quad_set}
use Rattle.rel_closure.proofs.OverRows.{tree_fits}
use Rattle.bit_rows.specs.Places.{window}
use Rattle.bit_rows.proofs.Windows.{window_whole}
use Rattle.rel_joins.specs.Columns.{closed_cells, AreSquares, AreTiles, no_square, tiled}
use Rattle.rel_joins.specs.declared.ordered.Ordered.{Ordered}
use Rattle.rel_joins.specs.Ordered.{IsReady}
use Rattle.rel_joins.proofs.Closed.{square_same}
use Rattle.rel_joins.proofs.Raising.{place_below, by_256}
use Rattle.rel_joins.proofs.Uniting.{closed_inside}

-- ---- the squares of all columns
-- a list of squares that was written whole
pub written : (k : ℕ) (xs ys zs : List Quad) → zs ≡ take k (xs ++ ys) → k ≡ length xs → zs ≡ xs
written k xs ys zs e f = e ∙ ap (λ (n : ℕ). take n (xs ++ ys)) f ∙ take-append_seam xs ys

-- a place is that of a square in a column
record Square (blocks k : ℕ) : Type 0 where
  column : ℕ
  row : ℕ
  below : row < blocks
  place : column * blocks + row ≡ k

square_at : (blocks k : ℕ) → k < blocks * blocks → Square blocks k
square_at blocks k l = search_from blocks k blocks l
  where
    search_from : (blocks k columns : ℕ) → k < columns * blocks → Square blocks k
    search_from blocks k zero l = absurd (omega (arith, l))
    search_from blocks k (suc s) l = elim (cases_lt k (s * blocks)) [
      | inl a ↦ search_from blocks k s a
      | inr a ↦ record { column = s; row = k - s * blocks; below = omega (arith, a, l); place = omega (arith, a) }
    ]

pub tiles_stand : {w : Worker} {blocks : ℕ} {squares : List Quad} (f : Cells) → AreTiles w f blocks (blocks * blocks) squares → length squares ≡ blocks * blocks → AreSquares w squares
tiles_stand {w} {blocks} {squares} f a e = record { stand = λ k l. here k (square_at blocks k (omega (arith, l, e))) l; high = λ k l. there k (square_at blocks k (omega (arith, l, e))) l }
  where
    here : (k : ℕ) → Square blocks k → k < length squares → HasQuad w (get_or squares k no_square)
    here k s l = subst (λ (x : ℕ). HasQuad w (get_or squares x no_square)) s.place (gives_has w 8 _ _ (a s.column s.row s.below (let p = s.place in omega (arith, p, l, e))))

    there : (k : ℕ) → Square blocks k → k < length squares → (get_or squares k no_square).height ≡ 8
    there k s l = subst (λ (x : ℕ). (get_or squares x no_square).height ≡ 8) s.place ((a s.column s.row s.below (let p = s.place in omega (arith, p, l, e))).same_height)

-- they have the cells of a set that has none outside them
pub tiles_are : (w : Worker) (f : Cells) (n blocks : ℕ) (squares : List Quad) → AreTiles w f blocks (blocks * blocks) squares → LiesWithin n n f → n ≤ 256 * blocks → tiled w blocks squares ≡ f
tiles_are w f n blocks squares a v l = same_cells _ _ here
  where
    here : (i j : ℕ) → tiled w blocks squares i j ≡ f i j
    here i j = elim (cases_lt i (256 * blocks)) [
      | inl c ↦ elim (cases_lt j (256 * blocks)) [
        | inl d ↦ (let r : i / 256 < blocks = omega (arith, c) in
            let s : j / 256 < blocks = omega (arith, d) in
            let q = get_or squares (j / 256 * blocks + i / 256) no_square in
            let g = gives_quad_set w 8 (window (256 * (i / 256)) (256 * (j / 256)) 256 f) q (a (j / 256) (i / 256) r (place_below blocks (i / 256) (j / 256) r s)) in
            let x : 256 * (i / 256) + i % 256 ≡ i = omega arith in
            let y : 256 * (j / 256) + j % 256 ≡ j = omega arith in
            let m : i % 256 < 256 = omega arith in
            let o : j % 256 < 256 = omega arith in
            ap (λ (t : Bool). t && (ltb j (256 * blocks) && quad_set w q (i % 256) (j % 256))) (lt-ltb i (256 * blocks) c)
            ∙ ap (λ (t : Bool). t && quad_set w q (i % 256) (j % 256)) (lt-ltb j (256 * blocks) d)
            ∙ ap (λ (h : Cells). h (i % 256) (j % 256)) g
            ∙ ap (λ (t : Bool). t && (ltb (j % 256) 256 && f (256 * (i / 256) + i % 256) (256 * (j / 256) + j % 256))) (lt-ltb (i % 256) 256 m)
            ∙ ap (λ (t : Bool). t && f (256 * (i / 256) + i % 256) (256 * (j / 256) + j % 256)) (lt-ltb (j % 256) 256 o)
            ∙ ap (λ (k : ℕ). f k (256 * (j / 256) + j % 256)) x ∙ ap (λ (k : ℕ). f i k) y)
        | inr d ↦ and_right (ltb i (256 * blocks)) _ (and_left (ltb j (256 * blocks)) _ (le-ltb j (256 * blocks) d)) ∙ sym (outside n n f v i j (inr (omega (arith, d, l))))
      ]
      | inr c ↦ and_left (ltb i (256 * blocks)) _ (le-ltb i (256 * blocks) c) ∙ sym (outside n n f v i j (inl (omega (arith, c, l))))
    ]

-- ---- the closure
pub closed_lies : (n : ℕ) (pairs : List (ℕ × ℕ)) → AreWithin n n pairs → IsIncreasing pairs → LiesWithin n n (closed_cells n pairs)
closed_lies n pairs w o = record {
  row = λ i j h. (let a : Inside n n i j = closed_inside n pairs w o i j h in a.row);
  col = λ i j h. (let a : Inside n n i j = closed_inside n pairs w o i j h in a.col);
}

-- the whole window
pub whole_value : {w : Worker} {n h : ℕ} {f g : Cells} {q : Quad} → f ≡ g → LiesWithin n n g → n ≤ 2 ^ h → GivesQuad w h (window (256 * 0) (256 * 0) (2 ^ h) f) q → GivesQuad w h g q
whole_value {w} {n} {h} {f} {g} {q} e v l a =
    subst (λ (x : Cells). GivesQuad w h x q)
    (ap (λ (x : Cells). window 0 0 (2 ^ h) x) e ∙ window_whole (2 ^ h) g (record { row = λ i j t. (let b = v.row i j t in omega (arith, b, l)); col = λ i j t. (let b = v.col i j t in omega (arith, b, l)) })) a

-- the relation of its cells
pub closed_relation : (n : ℕ) (r : Relation) (pairs : List (ℕ × ℕ)) (f : Cells) → HasType n n r → pairs ≡ r.pairs → f ≡ closed_cells n pairs → relation_of n n f ≡ transitive_closure r
closed_relation n r pairs f t e g =
    let u = type-closure n r t in
    let same : closed_cells n pairs ≡ has (transitive_closure r) = ap (λ (ps : List (ℕ × ℕ)). closed_cells n ps) e ∙ ap (λ (x : Relation). has (transitive_closure x)) (square_same n r t) in
    ap (λ (x : Cells). relation_of n n x) (g ∙ same)
    ∙ ap (λ (m : ℕ). relation_of m n (has (transitive_closure r))) (sym u.row_size) ∙ ap (λ (m : ℕ). relation_of (transitive_closure r).rows m (has (transitive_closure r))) (sym u.col_size)
    ∙ sym (of_itself (transitive_closure r) u.valid)

-- ---- nodes
-- the tree of a large relation is as high as its size needs
height_same : (n h : ℕ) → h ≡ height_over 3 n n → 8 ≤ h → h ≡ height_of_three n n n
unfolding height_over
height_same n h e l = omega (arith, e, l)

blocks_fit : {least n : ℕ} {pairs : List (ℕ × ℕ)} {o : Ordered} → IsReady least n pairs o → n ≤ size_limit → o.blocks ≤ 2 ^ (o.height - 8)
blocks_fit {least} {n} {pairs} {o} r l =
    let a = height_over-rows least n n l in
    let b : 2 ^ o.height ≡ 2 ^ height_over least n n = ap (λ (x : ℕ). 2 ^ x) r.same_height in
    let low = r.low in
    let c : 256 * 2 ^ (o.height - 8) ≡ 2 ^ o.height = by_256 (o.height - 8) ∙ ap (λ (x : ℕ). 2 ^ x) (omega (arith, low)) in
    let d = r.close in
    omega (arith, a, b, c, d)

pub ordered_room : {least n : ℕ} {pairs : List (ℕ × ℕ)} {o : Ordered} → IsReady least n pairs o → n ≤ size_limit → o.blocks * (o.blocks * tree_room 5) + (4 ^ (o.height - 8) - 1) ≤ derived_room n n n
ordered_room {least} {n} {pairs} {o} r l =
    let h = o.height in
    let low = r.low in
    let b = blocks_fit r l in
    let squares : o.blocks * o.blocks ≤ 4 ^ (h - 8) = (let m = mul-le o.blocks o.blocks (2 ^ (h - 8)) (2 ^ (h - 8)) b b in let p = mul-pow 2 2 (h - 8) in omega (arith, m, p)) in
    let p : 4 ^ (h - 3) ≡ 4 ^ (h - 8) * 4 ^ 5 = ap (λ (x : ℕ). 4 ^ x) (omega (arith, low)) ∙ pow-add 4 (h - 8) 5 in
    let one = one-le-pow (h - 8) 4 (omega arith) in
    let fits = tree_fits h in
    let e : h ≡ height_of_three n n n = height_same n h (r.same_height ∙ ap (λ (x : ℕ). height_over x n n) r.leaf) low in
    let eight : 8 ^ h ≡ 8 ^ height_of_three n n n = ap (λ (x : ℕ). 8 ^ x) e in
    let least = derived_room-least n n n in
    let flat : o.blocks * (o.blocks * tree_room 5) ≡ o.blocks * o.blocks * tree_room 5 = omega arith in
    omega (arith, flat, squares, p, one, fits, eight, least)
