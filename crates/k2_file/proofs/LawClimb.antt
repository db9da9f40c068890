-- The tree's bits from below: all levels, and a relation by its list.
-- 1. By induction over the levels: below a list of submatrices that are apart, the bits of T and L are those of the relation of the chosen cells.
-- 2. The relation of a list has the list's pairs, so what a test finds in the one it finds in the other.
use Rattle.std.proofs.Common.{◌≡◌, ◌==◌, ◌||◌, ◌+◌, ◌*◌, ◌^◌, ◌<◌, ℕ, zero, suc, Bool, true, false, leb, List, [], ◌∷◌, ◌++◌, length, map, take, drop, None, refl, sym, ap, ◌∙◌, subst, inl, inr, arith, append_assoc}
use Rattle.std.specs.List.{filter, list_any, flat_map, AllByRecursion}
use Rattle.std.proofs.lemmas.Bool.{cases_Bool, and_parts, and_from, or_left, or_right, false≢true, leb-true, eqb-true, eq-eqb, false_from_ne_true}
use Rattle.std.proofs.lemmas.List.{length-take-le, take-append-drop, append-nil, take_all}
use Rattle.rel_model.specs.Relation.{Relation, relation_of, grid}
use Rattle.rel_model.specs.Listed.{is_among, AreWithin}
use Rattle.rel_model.proofs.Grid.{grid-member}
use Rattle.run_model.specs.Files.{Corner, quarters, meets, inner_bits, cell_bits, ones, levels_fit, zero_group, chosen, cells_below}
use Rattle.k2_file.proofs.ReadApart.{AreApart, apart-quarters, apart-chosen, two-halves}
use Rattle.k2_file.proofs.ReadWalk.{length-quarters, length-chosen}
use Rattle.k2_file.proofs.LawTree.{level, lies, any-quarter, any-filter, all-filter-passes, quarters-met, inner-step, chosen-map, cell-bits}
use Rattle.k2_file.proofs.LawRelation.{any-all, place}
use Rattle.k2_file.proofs.LawBack.{in_cells, HaveCells, Owned, level-bits, zero-rest, have-up, own-up, all-self, lies-self, chosen-front}

-- what the bits below a list are
pub record Back (r : Relation) (S : List Corner) (k : ℕ) (ps : List Corner) (T L : List Bool) : Type 0 where
  pub have : HaveCells S (2 ^ suc k) ps
  pub own : Owned S (2 ^ suc k) ps
  pub tree : (qs : List Corner) → level r k qs ≡ ps → inner_bits r k qs ≡ T
  pub cells : (qs : List Corner) → level r k qs ≡ ps → cell_bits r k qs ≡ L

module _ (r : Relation) (S : List Corner) (same : (side : ℕ) (p : Corner) → meets r side p ≡ in_cells S side p) where
  map-agree : (side : ℕ) (qs : List Corner) → map (meets r side) qs ≡ map (in_cells S side) qs
  map-agree side [] = refl
  map-agree side (q ∷ qs) = ap (λ b. b ∷ map (meets r side) qs) (same side q) ∙ ap (λ bs. in_cells S side q ∷ bs) (map-agree side qs)

  -- from the cells upwards, by induction on the levels: at each one exactly those that are chosen have a cell, so the
  -- bits that choose them are those of the relation
  pub back : (k : ℕ) (ps : List Corner) (T L : List Bool) (at : ℕ) → AreApart (2 ^ suc k) ps → levels_fit k (length ps) T (length L) ≡ true → zero_group at (T ++ L) ≡ None
      → S ≡ chosen (cells_below k ps T) L → Back r S k ps T L
  back zero ps [] L at a fit z e =
      let qs = flat_map (quarters 1) ps in
      let l : length L ≡ 4 * length ps = eqb-true (length L) (4 * length ps) fit in
      let m : length L ≡ length qs = l ∙ sym (length-quarters 1 ps) in
      let have1 : HaveCells S 1 (chosen qs L) = subst (λ C. HaveCells S 1 C) e (all-self (λ c x. lies 1 c x) lies-self S) in
      let own1 : Owned S 1 (chosen qs L) = subst (λ C. Owned S 1 C) e (all-self (λ x c. lies 1 c x) lies-self S) in
      let is : map (meets r 1) qs ≡ L = map-agree 1 qs ∙ level-bits S 1 qs L m (apart-quarters 1 ps a) have1 own1 in
      let z1 : zero_group at (L ++ []) ≡ None = ap (zero_group at) (append-nil L) ∙ z in
      record {
        have = have-up S 1 ps at L [] l z1 have1;
        own = own-up S 1 ps L own1;
        tree = λ q w. refl;
        cells = λ q w. cell-bits r 0 q ∙ ap (λ ls. map (meets r 1) (flat_map (quarters 1) ls)) w ∙ is;
      }
  back zero ps (b ∷ T) L at a fit z e = absurd (false≢true fit)
  back (suc k) ps T L at a fit z e =
      let s = 2 ^ suc k in
      let n = 4 * length ps in
      let bits = take n T in
      let rest = drop n T in
      let qs = flat_map (quarters s) ps in
      let C = chosen qs bits in
      let t = and_parts (leb n (length T)) (levels_fit k (ones bits) rest (length L)) fit in
      let lb : length bits ≡ n = length-take-le n T (leb-true n (length T) t.0) in
      let lq : length qs ≡ n = length-quarters s ps in
      let join : bits ++ rest ≡ T = take-append-drop n T in
      let z1 : zero_group at (bits ++ (rest ++ L)) ≡ None = ap (zero_group at) (sym (append_assoc bits rest L) ∙ ap (λ xs. xs ++ L) join) ∙ z in
      let zr : zero_group (at + n) (rest ++ L) ≡ None = zero-rest (length ps) at bits (rest ++ L) lb z1 in
      let count : length C ≡ ones bits = length-chosen qs bits ∙ ap ones (take_all (length qs) bits (omega (arith, lb, lq))) in
      let fit1 : levels_fit k (length C) rest (length L) ≡ true = ap (λ (m : ℕ). levels_fit k m rest (length L)) count ∙ t.1 in
      let cs : chosen qs T ≡ C = ap (chosen qs) (sym join) ∙ chosen-front qs bits rest (lb ∙ sym lq) in
      let ds : drop (length qs) T ≡ rest = ap (λ (m : ℕ). drop m T) lq in
      let e1 : S ≡ chosen (cells_below k C rest) L =
      e ∙ ap (λ zs. chosen (cells_below k zs (drop (length qs) T)) L) cs ∙ ap (λ xs. chosen (cells_below k C xs) L) ds in
      let aq : AreApart s qs = apart-quarters s ps (subst (λ x. AreApart x ps) (two-halves (suc k)) a) in
      let i = back k C rest L (at + n) (apart-chosen s qs bits aq) fit1 zr e1 in
      let is : map (meets r s) qs ≡ bits = map-agree s qs ∙ level-bits S s qs bits (lb ∙ sym lq) aq i.have i.own in
      let kept : level r k qs ≡ C = sym (chosen-map (meets r s) qs []) ∙ ap (chosen qs) (append-nil (map (meets r s) qs) ∙ is) in
      record {
        have = subst (λ x. HaveCells S x ps) (sym (two-halves (suc k))) (have-up S s ps at bits (rest ++ L) lb z1 i.have);
        own = subst (λ x. Owned S x ps) (sym (two-halves (suc k))) (own-up S s ps bits i.own);
        tree = λ q w. inner-step r k q ∙ ap (λ ls. map (meets r s) (flat_map (quarters s) ls) ++ inner_bits r k (flat_map (quarters s) ls)) w
            ∙ ap (λ bs. bs ++ inner_bits r k qs) is ∙ ap (λ xs. bits ++ xs) (i.tree qs kept) ∙ join;
        cells = λ q w. ap (cell_bits r k) (quarters-met r (suc k) q) ∙ ap (λ ls. cell_bits r k (flat_map (quarters s) ls)) w ∙ i.cells qs kept;
      }

-- ---- a relation by its list
pair-same : (p q : Corner) → p.0 ≡ q.0 → p.1 ≡ q.1 → p ≡ q
pair-same p q a b = ap (λ (n : ℕ). (n, p.1)) a ∙ ap (λ (n : ℕ). (q.0, n)) b

place-same : (i j : ℕ) (p : Corner) → place i j p ≡ true → (p.0 ≡ i) × (p.1 ≡ j)
place-same i j p h = let t = and_parts (p.0 == i) (p.1 == j) h in (eqb-true p.0 i t.0, eqb-true p.1 j t.1)

place-self : (p : Corner) → place p.0 p.1 p ≡ true
place-self p = and_from (p.0 == p.0) (p.1 == p.1) (eq-eqb p.0 p.0 refl) (eq-eqb p.1 p.1 refl)

at-place : (f : Corner → Bool) (p x : Corner) → f p ≡ true → place p.0 p.1 x ≡ true → f x ≡ true
at-place f p x h e = let t = place-same p.0 p.1 x e in ap f (pair-same x p t.0 t.1) ∙ h

record FoundIn (f : Corner → Bool) (P : Corner → Type 0) (xs : List Corner) : Type 0 where
  one : Corner
  passes : f one ≡ true
  holds : P one
  others : (g : Corner → Bool) → g one ≡ true → list_any g xs ≡ true

find-in : (f : Corner → Bool) (P : Corner → Type 0) (xs : List Corner) → AllByRecursion P xs → list_any f xs ≡ true → FoundIn f P xs
find-in f P [] a h = absurd (false≢true h)
find-in f P (x ∷ xs) a h = elim (cases_Bool (f x)) [
  | inl t ↦ record { one = x; passes = t; holds = a.0; others = λ g e. or_left (g x) (list_any g xs) e }
  | inr t ↦ (let w = find-in f P xs a.1 (ap (λ b. b || list_any f xs) (sym t) ∙ h) in
      record { one = w.one; passes = w.passes; holds = w.holds; others = λ g e. or_right (g x) (list_any g xs) (w.others g e) })
]

same-test : (x y : Bool) → (x ≡ true → y ≡ true) → (y ≡ true → x ≡ true) → x ≡ y
same-test true y f g = sym (f refl)
same-test false y f g = sym (false_from_ne_true y (λ e. false≢true (g e)))

-- a test finds in the relation of a list what it finds in the list
pub any-relation : (rows cols : ℕ) (S : List Corner) → AreWithin rows cols S → (f : Corner → Bool) → list_any f (relation_of rows cols (is_among S)).pairs ≡ list_any f S
unfolding relation_of
any-relation rows cols S w f = same-test (list_any f (filter (λ q. is_among S q.0 q.1) (grid rows cols))) (list_any f S) (λ h. there h) (λ h. here h)
  where
    there : list_any f (filter (λ q. is_among S q.0 q.1) (grid rows cols)) ≡ true → list_any f S ≡ true
    there h =
        let x = any-all f (λ q. is_among S q.0 q.1 ≡ true) (filter (λ q. is_among S q.0 q.1) (grid rows cols)) (all-filter-passes (λ q. is_among S q.0 q.1) (grid rows cols)) h in
        any-quarter (place x.0.0 x.0.1) f (λ s e. at-place f x.0 s x.1 e) S x.2

    here : list_any f S ≡ true → list_any f (filter (λ q. is_among S q.0 q.1) (grid rows cols)) ≡ true
    here h =
        let x = find-in f (λ p. (p.0 < rows) × (p.1 < cols)) S w h in
        let among : is_among S x.one.0 x.one.1 ≡ true = x.others (place x.one.0 x.one.1) (place-self x.one) in
        any-quarter (place x.one.0 x.one.1) f (λ s e. at-place f x.one s x.passes e) (filter (λ q. is_among S q.0 q.1) (grid rows cols))
        (any-filter (λ q. is_among S q.0 q.1) (place x.one.0 x.one.1) (λ s e. at-place (λ q. is_among S q.0 q.1) x.one s among e) (grid rows cols)
        (grid-member rows cols x.one.0 x.one.1 x.holds.0 x.holds.1))
