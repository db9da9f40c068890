-- Laws of relations by their roots: what a root that stands is, that it stays, that one relation has one root, and that a set within its sizes is its relation's membership.
-- 1. Whether a set lies within rows and columns is told by the cells of its square (`lies_within-means`, `lies_within-from`).
-- 2. A relation stands where its sizes are within the limit and its root stands and lies within them (`relation_in-rooted`, `rooted-relation_in`).
-- 3. Roots keep their sets, so relations stay (`relation_in-stays`), and one set has one name, so one relation has one root (`one_root`).
use Rattle.std.proofs.Common.{◌≡◌, ◌<◌, ◌≤◌, ◌&&◌, ◌⊎◌, not, ltb, cond, zero, suc, ℕ, Bool, true, false, List, Some, None, refl, sym, ap, subst, ◌∙◌, inl, inr, arith}
use Rattle.std.specs.Prelude.{IsSome}
use Rattle.std.proofs.lemmas.Bool.{false≢true, cases_Bool, cases_lt, lt-ltb, ltb-true, leb-true, le-leb, and_parts, and_from, and_right, or_parts, or_from, not-true, not_from_false}
use Rattle.std.proofs.lemmas.Option.{same_Some}
use Rattle.rel_model.specs.declared.Rel.{Rel}
use Rattle.rel_model.specs.Relation.{Relation, IsRelation, has, relation_of, size_limit}
use Rattle.rel_model.specs.Cells.{Cells, some_below}
use Rattle.rel_model.specs.Trees.{cells, stands, rows_at}
use Rattle.rel_model.specs.Words.{Extends, IsDistinct}
use Rattle.rel_model.specs.Equations.{depth_of, side_of}
use Rattle.rel_model.specs.Roots.{tree_height, lies_within, root_cells, stands_in, relation_in, HasOneRootEach}
use Rattle.rel_model.specs.Quarters.{LiesWithin}
use Rattle.rel_model.proofs.Pairs.{all-member}
use Rattle.rel_model.proofs.Relations.{IsRelation-relation_of, rows-relation_of, cols-relation_of, has-relation_of}
use Rattle.rel_model.proofs.TreeLaws.{Within, same_cells, cells_within, kept_stands, kept_cells, one_set_one_name}
use Rattle.rel_model.proofs.Squares.{rows_at-twice, cols_at-twice}

-- ---- some number below
pub some_below-false : (m : ℕ) (t : ℕ → Bool) → some_below m t ≡ false → (k : ℕ) → k < m → t k ≡ false
some_below-false zero t e k l = absurd (omega arith)
some_below-false (suc m) t e k l =
    let p = or_parts (t m) (some_below m t) e in
    elim (cases_lt k m) [
      | inl a ↦ some_below-false m t p.1 k a
      | inr a ↦ subst (λ (n : ℕ). t n ≡ false) (let q : m ≡ k = omega arith in q) p.0
    ]

pub some_below-none : (m : ℕ) (t : ℕ → Bool) → ((k : ℕ) → k < m → t k ≡ false) → some_below m t ≡ false
some_below-none zero t h = refl
some_below-none (suc m) t h = or_from (t m) (some_below m t) (h m (omega arith)) (some_below-none m t (λ k l. h k (omega arith)))

-- ---- sets within rows and columns
-- a set within a square lies within rows and columns where the test says so
pub lies_within-means : (m rows cols : ℕ) (f : Cells) → Within m m f → lies_within m rows cols f ≡ true → LiesWithin rows cols f
unfolding lies_within
lies_within-means m rows cols f w e = record { row = λ i j h. ltb-true i rows (both i j h).0; col = λ i j h. ltb-true j cols (both i j h).1 }
  where
    both : (i j : ℕ) → f i j ≡ true → (ltb i rows ≡ true) × (ltb j cols ≡ true)
    both i j h =
        let a = some_below-false m (λ x. some_below m (λ y. f x y && not (ltb x rows && ltb y cols))) (not-true _ e) i (w.row i j h) in
        let b : (f i j && not (ltb i rows && ltb j cols)) ≡ false = some_below-false m (λ y. f i y && not (ltb i rows && ltb y cols)) a j (w.col i j h) in
        let c : not (ltb i rows && ltb j cols) ≡ false = sym (ap (λ x. x && not (ltb i rows && ltb j cols)) h) ∙ b in
        and_parts (ltb i rows) (ltb j cols) (elim (cases_Bool (ltb i rows && ltb j cols)) [ inl t ↦ t | inr t ↦ absurd (false≢true (sym c ∙ not_from_false _ t)) ])

pub lies_within-from : (m rows cols : ℕ) (f : Cells) → LiesWithin rows cols f → lies_within m rows cols f ≡ true
unfolding lies_within
lies_within-from m rows cols f w =
    not_from_false _ (some_below-none m (λ x. some_below m (λ y. f x y && not (ltb x rows && ltb y cols))) (λ i a. some_below-none m (λ y. f i y && not (ltb i rows && ltb y cols)) (λ j b. cell i j)))
  where
    cell : (i j : ℕ) → (f i j && not (ltb i rows && ltb j cols)) ≡ false
    cell i j = elim (cases_Bool (f i j)) [
      | inl h ↦ and_right (f i j) _ (ap not (and_from (ltb i rows) (ltb j cols) (lt-ltb i rows (w.row i j h)) (lt-ltb j cols (w.col i j h))))
      | inr h ↦ ap (λ x. x && not (ltb i rows && ltb j cols)) h
    ]

-- a cell outside is not in the set
pub outside : (m n : ℕ) (f : Cells) → LiesWithin m n f → (i j : ℕ) → (m ≤ i) ⊎ (n ≤ j) → f i j ≡ false
outside m n f w i j h = elim (cases_Bool (f i j)) [
  | inl e ↦ absurd (elim h [ inl a ↦ (let b = w.row i j e in omega arith) | inr a ↦ (let b = w.col i j e in omega arith) ])
  | inr e ↦ e
]

-- two sets within rows and columns that agree there are one
pub same_within : (m n : ℕ) (f g : Cells) → LiesWithin m n f → LiesWithin m n g → ((i j : ℕ) → i < m → j < n → f i j ≡ g i j) → f ≡ g
same_within m n f g v w h = same_cells f g (λ i j. elim (cases_lt i m) [
  | inl a ↦ elim (cases_lt j n) [
    | inl b ↦ h i j a b
    | inr b ↦ outside m n f v i j (inr b) ∙ sym (outside m n g w i j (inr b))
  ]
  | inr a ↦ outside m n f v i j (inl a) ∙ sym (outside m n g w i j (inl a))
])

-- the cells of a name at the depth of a height lie within the square
pub square_within : (words : List ℕ) (h n : ℕ) → Within (side_of h) (side_of h) (cells words (depth_of h) n)
square_within words h n =
    subst (λ (x : ℕ). Within x (side_of h) (cells words (depth_of h) n)) (rows_at-twice _)
    (subst (λ (y : ℕ). Within (rows_at (depth_of h)) y (cells words (depth_of h) n)) (cols_at-twice _) (cells_within words (depth_of h) n))

-- ---- membership
-- a relation has no pair outside its sizes
pub has-within : (r : Relation) → IsRelation r → LiesWithin r.rows r.cols (has r)
has-within r v = record {
  row = λ i j h. (all-member (λ p. (p.0 < r.rows) × (p.1 < r.cols)) r.pairs (i, j) v.within h).0;
  col = λ i j h. (all-member (λ p. (p.0 < r.rows) × (p.1 < r.cols)) r.pairs (i, j) v.within h).1;
}

-- the membership of the relation of a set within its sizes is the set
pub has-cells : (m n : ℕ) (f : Cells) → LiesWithin m n f → has (relation_of m n f) ≡ f
has-cells m n f w =
    same_within m n (has (relation_of m n f)) f
    (subst (λ (x : ℕ). LiesWithin x n (has (relation_of m n f))) (rows-relation_of m n f)
    (subst (λ (y : ℕ). LiesWithin (relation_of m n f).rows y (has (relation_of m n f))) (cols-relation_of m n f) (has-within (relation_of m n f) (IsRelation-relation_of m n f))))
    w (λ i j a b. has-relation_of m n f i j a b)

-- two sets within their sizes that have one relation are one
pub same_set : (m n : ℕ) (f g : Cells) → LiesWithin m n f → LiesWithin m n g → relation_of m n f ≡ relation_of m n g → f ≡ g
same_set m n f g v w e = sym (has-cells m n f v) ∙ ap has e ∙ has-cells m n g w

-- ---- roots
-- a relation stands in the words
pub record IsRooted (words : List ℕ) (rel : Rel) : Type 0 where
  pub row_limit : rel.rows ≤ size_limit
  pub col_limit : rel.cols ≤ size_limit
  pub standing : stands words (depth_of (tree_height rel.rows rel.cols)) rel.root ≡ true
  pub within : LiesWithin rel.rows rel.cols (root_cells words rel)

-- what `stands_in` tests of a relation: sizes within the limit, and a root that stands, whose set lies within them
rooted_parts : (words : List ℕ) (rel : Rel) → stands_in words rel ≡ true → IsRooted words rel
unfolding stands_in
rooted_parts words rel e =
    let a = and_parts _ _ e in
    let b = and_parts _ _ a.0 in
    let c = and_parts _ _ a.1 in
    record {
      row_limit = leb-true rel.rows size_limit b.0;
      col_limit = leb-true rel.cols size_limit b.1;
      standing = c.0;
      within = lies_within-means _ _ _ _ (square_within words (tree_height rel.rows rel.cols) rel.root) c.1;
    }

rooted_from : (words : List ℕ) (rel : Rel) → IsRooted words rel → stands_in words rel ≡ true
unfolding stands_in
rooted_from words rel s =
    and_from _ _ (and_from _ _ (le-leb rel.rows size_limit s.row_limit) (le-leb rel.cols size_limit s.col_limit))
    (and_from _ _ s.standing (lies_within-from (side_of (tree_height rel.rows rel.cols)) rel.rows rel.cols (root_cells words rel) s.within))

-- taken apart
pub relation_in-rooted : (words : List ℕ) (rel : Rel) → IsSome (relation_in words rel) → IsRooted words rel
unfolding relation_in
relation_in-rooted words rel h = elim (cases_Bool (stands_in words rel)) [
  | inl e ↦ rooted_parts words rel e
  | inr e ↦ absurd (false≢true (rw e at h))
]

-- put together
pub rooted-relation_in : (words : List ℕ) (rel : Rel) → IsRooted words rel → relation_in words rel ≡ Some (relation_of rel.rows rel.cols (root_cells words rel))
unfolding relation_in
rooted-relation_in words rel s = ap (λ b. cond b (Some (relation_of rel.rows rel.cols (root_cells words rel))) None) (rooted_from words rel s)

-- the relation of a root
pub relation_in-means : (words : List ℕ) (rel : Rel) (r : Relation) → relation_in words rel ≡ Some r → r ≡ relation_of rel.rows rel.cols (root_cells words rel)
relation_in-means words rel r e = same_Some r _ (sym e ∙ rooted-relation_in words rel (relation_in-rooted words rel (subst IsSome (sym e) refl)))

-- ---- what stands stays
pub rooted_stays : (old new : List ℕ) (rel : Rel) → Extends old new → IsDistinct old → IsDistinct new → IsRooted old rel → IsRooted new rel
rooted_stays old new rel x d e s = record {
  row_limit = s.row_limit;
  col_limit = s.col_limit;
  standing = kept_stands old new x _ rel.root s.standing;
  within = subst (λ (c : Cells). LiesWithin rel.rows rel.cols c) (sym (kept_cells old new x d.none_at_0 e.none_at_0 _ rel.root s.standing)) s.within;
}

pub relation_in-stays : (old new : List ℕ) (rel : Rel) → Extends old new → IsDistinct old → IsDistinct new → IsSome (relation_in old rel) → relation_in new rel ≡ relation_in old rel
relation_in-stays old new rel x d e h =
    let s = relation_in-rooted old rel h in
    rooted-relation_in new rel (rooted_stays old new rel x d e s)
    ∙ ap (λ (c : Cells). Some (relation_of rel.rows rel.cols c)) (kept_cells old new x d.none_at_0 e.none_at_0 _ rel.root s.standing)
    ∙ sym (rooted-relation_in old rel s)

-- ---- one relation has one root
same_rel : (a b : Rel) → a.rows ≡ b.rows → a.cols ≡ b.cols → a.root ≡ b.root → a ≡ b
same_rel a b p q r = λ t. record { rows = p t; cols = q t; root = r t }

-- two roots of one type with one relation are one
pub same_root : (words : List ℕ) → IsDistinct words → (m n p q : ℕ) → IsRooted words (record { rows = m; cols = n; root = p }) → IsRooted words (record { rows = m; cols = n; root = q })
    → relation_of m n (root_cells words (record { rows = m; cols = n; root = p })) ≡ relation_of m n (root_cells words (record { rows = m; cols = n; root = q })) → p ≡ q
same_root words d m n p q s t e = one_set_one_name words d (depth_of (tree_height m n)) p q s.standing t.standing (same_set m n _ _ s.within t.within e)

pub one_root : (words : List ℕ) → IsDistinct words → HasOneRootEach words
one_root words d a b r s p q e f = (
  (λ h. same_Some r s (sym e ∙ ap (relation_in words) (same_rel a b p q h) ∙ f)),
  (λ h.
      let b' : Rel = record { rows = a.rows; cols = a.cols; root = b.root } in
      let g : relation_in words b' ≡ Some s = ap (relation_in words) (same_rel b' b p q refl) ∙ f in
      same_root words d a.rows a.cols a.root b.root (relation_in-rooted words a (subst IsSome (sym e) refl)) (relation_in-rooted words b' (subst IsSome (sym g) refl))
      (sym (relation_in-means words a r e) ∙ h ∙ relation_in-means words b' s g)),
)
