-- Listed pairs by their places, and the relation that they make.
use Rattle.std.proofs.Common.{◌≡◌, ◌<◌, ◌≤◌, ◌+◌, ◌-◌, ◌*◌, ◌^◌, ◌∙◌, ◌||◌, ◌&&◌, eqb, ltb, max, ℕ, true, false, List, [], ◌∷◌, map, refl, sym, ap, subst, arith, inl, inr, Some}
use Rattle.std.specs.List.{AllByRecursion}
use Rattle.std.specs.List.Sorted.{IsPermutation}
use Rattle.std.proofs.Math.Pow.{pow_mono}
use Rattle.std.proofs.lemmas.Bool.{cases_Bool, eqb-true, eq-eqb, and_parts, lt-ltb}
use Rattle.std.proofs.lemmas.Bool.Decides.{nat_tests}
use Rattle.std.proofs.lemmas.Nat.{mul-pow, mul-le}
use Rattle.std.proofs.lemmas.List.Sorted.{list_any-IsPermutation, All-permutation}
use Rattle.std.proofs.lemmas.List.Elements.{All-from_recursion, recursion_from_All}
use Rattle.rel_model.specs.declared.Rel.{Rel}
use Rattle.rel_model.specs.declared.Quad.{Quad}
use Rattle.rel_model.specs.Relation.{relation_of, size_limit}
use Rattle.rel_model.specs.Trees.{top_height}
use Rattle.rel_model.specs.Roots.{height_over}
use Rattle.rel_model.specs.Quarters.{LiesWithin}
use Rattle.rel_model.specs.Worker.{Worker, Gives, GivesQuad, quad_set, height_of, pairs_room}
use Rattle.rel_model.proofs.Relations.{relation_of-agree}
use Rattle.rel_model.specs.Listed.{AreWithin, is_among}
use Rattle.rel_domains.specs.Curve.{holds, AreFrom, cells_at, place}
use Rattle.rel_domains.proofs.Places.{place_one}
use Rattle.rel_model.proofs.Heights.{height_over-rows, height_over-cols}
use Rattle.rel_steps.proofs.Given.{gives_quad_set}

-- ---- pairs within the square
pub within_square : (m n s : ℕ) (ps : List (ℕ × ℕ)) → m ≤ s → n ≤ s → AreWithin m n ps → AreWithin s s ps
within_square m n s [] a b h = tt
within_square m n s (p ∷ ps) a b h = ((omega (arith, h.0.0), omega (arith, h.0.1)), within_square m n s ps a b h.1)

-- whether a cell's place is among those of pairs is whether the cell is among the pairs
pub holds-map : (least d : ℕ) (ps : List (ℕ × ℕ)) (i j : ℕ) → AreWithin (2 ^ (least + d)) (2 ^ (least + d)) ps → i < 2 ^ (least + d) → j < 2 ^ (least + d) → holds (map (λ p. place least d p.0 p.1) ps) (place least d i j) ≡ is_among ps i j
holds-map least d [] i j h a b = refl
holds-map least d (p ∷ ps) i j h a b = ap (λ t. t || holds (map (λ p. place least d p.0 p.1) ps) (place least d i j)) here ∙ ap (λ t. (eqb p.0 i && eqb p.1 j) || t) (holds-map least d ps i j h.1 a b)
  where
    here : eqb (place least d p.0 p.1) (place least d i j) ≡ (eqb p.0 i && eqb p.1 j)
    here = elim (cases_Bool (eqb p.0 i && eqb p.1 j)) [
      | inl t ↦ let both = and_parts _ _ t in eq-eqb _ _ (ap (λ x. place least d x p.1) (eqb-true p.0 i both.0) ∙ ap (place least d i) (eqb-true p.1 j both.1)) ∙ sym t
      | inr t ↦ elim (cases_Bool (eqb (place least d p.0 p.1) (place least d i j))) [
        | inl u ↦ let same = place_one least d p.0 p.1 i j h.0.0 h.0.1 a b (eqb-true _ _ u) in u ∙ sym (rw (eq-eqb p.0 i same.0, eq-eqb p.1 j same.1) refl)
        | inr u ↦ u ∙ sym t
      ]
    ]

among_within : (m n : ℕ) (ps : List (ℕ × ℕ)) (i j : ℕ) → AreWithin m n ps → is_among ps i j ≡ true → (i < m) × (j < n)
among_within m n (p ∷ ps) i j h t = elim (cases_Bool (eqb p.0 i && eqb p.1 j)) [
  | inl u ↦ let both = and_parts _ _ u in (subst (λ x. x < m) (eqb-true p.0 i both.0) h.0.0, subst (λ x. x < n) (eqb-true p.1 j both.1) h.0.1)
  | inr u ↦ among_within m n ps i j h.1 (sym (ap (λ b. b || is_among ps i j) u) ∙ t)
]
among_within m n [] i j h t = absurd (let e : false ≡ true = t in cc)

-- ---- sorted places
pub sorted_from : (high : ℕ) (xs ys : List ℕ) → IsPermutation xs ys → AllByRecursion (λ x. x < high) xs → AreFrom 0 high ys
sorted_from high xs ys p h = recursion_from_All _ ys (λ k d l. (omega arith, All-permutation (λ x. x < high) xs ys p (All-from_recursion (λ x. x < high) xs h) k d l))

-- the cells are those of the pairs
pub cells_listed : (least d : ℕ) (ps : List (ℕ × ℕ)) (xs ys : List ℕ) (i j : ℕ) → AreWithin (2 ^ (least + d)) (2 ^ (least + d)) ps → xs ≡ map (λ p. place least d p.0 p.1) ps → IsPermutation xs ys
    → i < 2 ^ (least + d) → j < 2 ^ (least + d) → cells_at least d 0 ys i j ≡ is_among ps i j
cells_listed least d ps xs ys i j h e p a b =
    let z : 0 + place least d i j ≡ place least d i j = omega arith in
    ap (λ t. t && (ltb j (2 ^ (least + d)) && holds ys (0 + place least d i j))) (lt-ltb i _ a) ∙ ap (λ t. t && holds ys (0 + place least d i j)) (lt-ltb j _ b)
    ∙ ap (holds ys) z ∙ sym (list_any-IsPermutation (λ x. eqb x (place least d i j)) xs ys p) ∙ ap (λ l. holds l (place least d i j)) e ∙ holds-map least d ps i j h a b

-- a cell at a listed place is in the square, which is tested before the place
cells_inside : (least d : ℕ) (xs : List ℕ) (i j : ℕ) → cells_at least d 0 xs i j ≡ true → (i < 2 ^ (least + d)) × (j < 2 ^ (least + d))
cells_inside least d xs i j t =
    let a = and_parts _ _ t in
    let b = and_parts _ _ a.1 in
    (is_lt i a.0, is_lt j b.0)
  where
    is_lt : (k : ℕ) → ltb k (2 ^ (least + d)) ≡ true → k < 2 ^ (least + d)
    is_lt k u = grind (arith, nat_tests)

-- a quad whose cells are listed pairs lies within their sizes, and its relation is theirs
module _ (least d m n : ℕ) (ps : List (ℕ × ℕ)) (xs ys : List ℕ) (rows : m ≤ size_limit) (cols : n ≤ size_limit) (high : least + d ≡ height_over least m n) (inside : AreWithin m n ps)
    (places : xs ≡ map (λ p. place least d p.0 p.1) ps) (moved : IsPermutation xs ys) where
  pub fits_square : AreWithin (2 ^ (least + d)) (2 ^ (least + d)) ps
  fits_square = within_square m n (2 ^ (least + d)) ps (subst (λ h. m ≤ 2 ^ h) (sym high) (height_over-rows least m n rows)) (subst (λ h. n ≤ 2 ^ h) (sym high) (height_over-cols least m n cols)) inside

  is_listed : (i j : ℕ) → i < 2 ^ (least + d) → j < 2 ^ (least + d) → cells_at least d 0 ys i j ≡ is_among ps i j
  is_listed i j a b = cells_listed least d ps xs ys i j fits_square places moved a b

  is_within : (i j : ℕ) → cells_at least d 0 ys i j ≡ true → (i < m) × (j < n)
  is_within i j t = let a = cells_inside least d ys i j t in among_within m n ps i j inside (sym (is_listed i j a.0 a.1) ∙ t)

  pub lies_within : (w : Worker) (q : Quad) → GivesQuad w (least + d) (cells_at least d 0 ys) q → LiesWithin m n (quad_set w q)
  lies_within w q g = subst (LiesWithin m n) (sym (gives_quad_set w (least + d) (cells_at least d 0 ys) q g)) (record { row = λ i j t. (is_within i j t).0; col = λ i j t. (is_within i j t).1 })

  -- a quad with the cells at the listed places gives the relation of the pairs: its square has all within the sizes
  pub relation_given : (w : Worker) (q : Quad) (rel : Rel) → GivesQuad w (least + d) (cells_at least d 0 ys) q → Gives w m n (relation_of m n (quad_set w q)) rel → Gives w m n (relation_of m n (is_among ps)) rel
  relation_given w q rel g r = record {
    means = r.means ∙ ap Some (ap (relation_of m n) (gives_quad_set w (least + d) (cells_at least d 0 ys) q g) ∙ relation_of-agree m n _ _ (λ i j a b. is_listed i j (row_in i a) (col_in j b)));
    row_size = r.row_size;
    col_size = r.col_size;
  }
    where
      row_in : (i : ℕ) → i < m → i < 2 ^ (least + d)
      row_in i a = let s : m ≤ 2 ^ (least + d) = subst (λ h. m ≤ 2 ^ h) (sym high) (height_over-rows least m n rows) in omega arith

      col_in : (j : ℕ) → j < n → j < 2 ^ (least + d)
      col_in j b = let s : n ≤ 2 ^ (least + d) = subst (λ h. n ≤ 2 ^ h) (sym high) (height_over-cols least m n cols) in omega arith

-- ---- rooms
pub power_mono : (a b : ℕ) → a ≤ b → 4 ^ a ≤ 4 ^ b
power_mono a b l = let p : 2 ^ a ≤ 2 ^ b = pow_mono {i = a} {j = b} l in let q = mul-le (2 ^ a) (2 ^ a) (2 ^ b) (2 ^ b) p p in omega (arith, mul-pow 2 2 a, mul-pow 2 2 b, q)

pub pairs_room-covers : (least d m n k : ℕ) → least + d ≡ height_over least m n → 2 * 4 ^ d - 1 ≤ pairs_room k m n
unfolding height_over pairs_room
pairs_room-covers least d m n k e =
    let h = max (height_of m) (height_of n) in
    let p = power_mono d h (omega arith) in
    let q = mul-le 16 (4 ^ h) (16 * (k + 1)) (4 ^ h) (omega arith) (omega arith) in
    omega (arith, p, q)

pub cells_limit : (h : ℕ) → h ≤ top_height → 4 ^ h ≤ 4 ^ top_height
cells_limit h l = power_mono h top_height l
