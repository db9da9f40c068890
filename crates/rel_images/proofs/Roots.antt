-- The tree of a line, and the relation that it gives.
-- 1. The line under a node, in row 0, is the corner of those under its children and of two empty quarters.
-- 2. The tree of a line of few elements is that of its western half, down to the least height that has them.
-- 3. The image of the cells of two relations is their composition, where the second is turned if the image is.
use Rattle.std.proofs.Common.{◌≡◌, ◌≢◌, ◌<◌, ◌≤◌, ◌+◌, ◌-◌, ◌*◌, ◌^◌, ◌∙◌, ◌&&◌, eqb, ltb, cond, suc, ℕ, Bool, true, false, List, Result, IfOk, refl, sym, ap, subst, arith, inl, inr, Some}
use Rattle.std.specs.Prelude.{Ok, slice_index}
use Rattle.std.proofs.lemmas.Bool.{cases_lt, lt-ltb, le-ltb, eq-eqb, ne_eqb, eqb-true, and_right, and_parts, false≢true}
use Rattle.std.proofs.lemmas.Nat.{pow_pos}
use Rattle.rel_model.specs.declared.Rel.{Rel}
use Rattle.rel_model.specs.declared.Quad.{Quad}
use Rattle.rel_model.specs.declared.Lack.{Lack}
use Rattle.rel_model.specs.Relation.{Relation, IsRelation, has, relation_of, size_limit}
use Rattle.rel_model.specs.Algebra.{HasType}
use Rattle.rel_model.specs.Cells.{Cells, no_cells, bits_cells, cells_compose}
use Rattle.rel_model.specs.Operators.{transpose, compose}
use Rattle.rel_model.specs.Trees.{quartered}
use Rattle.rel_model.specs.Quarters.{LiesWithin}
use Rattle.rel_model.specs.Roots.{height_over}
use Rattle.rel_model.specs.Worker.{Worker, GivesQuad, quad_set, Gives, Keeps, MakesAtMost, HasCause}
use Rattle.rel_model.proofs.AlgebraLaws.{transpose_laws}
use Rattle.rel_model.proofs.Composing.{compose-cells}
use Rattle.rel_model.proofs.Heights.{height_over-is, height_over-least, height_over-low, height_over-rows, height_over-cols}
use Rattle.rel_model.proofs.Members.{type-transpose}
use Rattle.rel_model.proofs.OperatorLaws.{transpose-transpose, cols-transpose}
use Rattle.rel_model.proofs.Relations.{relation_of-agree}
use Rattle.rel_model.proofs.Rooting.{has-within, has-cells}
use Rattle.rel_model.proofs.Somes.{some_passes}
use Rattle.rel_model.proofs.TreeLaws.{same_cells}
use Rattle.rel_model.proofs.Workers.{keeps_itself}
use Rattle.rel_steps.specs.Making.{MakesQuad}
use Rattle.rel_steps.proofs.Causes.{done_cause}
use Rattle.rel_steps.proofs.Given.{AreParts, gives_has, gives_quad_set, kept_set}
use Rattle.rel_images.specs.Images.{image_of}
use Rattle.rel_images.specs.Lines.{Line, Bits, byte_line, bits_of, first_row, one_row, turned_cells, image_line, line_under, IsMarked, IsHeap}
use Rattle.rel_rows.specs.Rooms.{strip}
use Rattle.rel_images.specs.Rooms.{line_room}
use Rattle.rel_images.proofs.Heaps.{none_under, line_under-past}

-- ---- rows by quarters
line-corner : (m : ℕ) (x y : Line) → 0 < m → quartered m (one_row x) (one_row y) no_cells no_cells ≡ one_row (λ j. cond (ltb j m) (x j) (y (j - m)))
line-corner m x y l = same_cells _ _ (λ a j. elim (cases_lt a m) [
  | inl p ↦ elim (cases_lt j m) [
    | inl q ↦ rw (lt-ltb a m p, lt-ltb j m q) refl
    | inr q ↦ rw (lt-ltb a m p, le-ltb j m q) refl
  ]
  | inr p ↦ elim (cases_lt j m) [
    | inl q ↦ rw (le-ltb a m p, lt-ltb j m q, ne_eqb a 0 (λ e. omega (arith, e, l, p))) refl
    | inr q ↦ rw (le-ltb a m p, le-ltb j m q, ne_eqb a 0 (λ e. omega (arith, e, l, p))) refl
  ]
])

pub named_parts : (least h k : ℕ) (bits : Bits) → least < h → AreParts h (one_row (line_under least bits (h - least) k)) (h - 1) (one_row (line_under least bits (h - 1 - least) (2 * k))) (one_row (line_under least bits (h - 1 - least) (2 * k + 1))) no_cells no_cells
named_parts least h k bits l =
    let d : ℕ = h - 1 - least in
    let e : h - least ≡ suc d = omega (arith, l) in
    let w : least + d ≡ h - 1 = omega (arith, l) in
    record {
      next = omega (arith, l);
      means = line-corner (2 ^ (h - 1)) (line_under least bits d (2 * k)) (line_under least bits d (2 * k + 1)) (pow_pos (h - 1))
          ∙ ap (λ (x : ℕ). one_row (λ j. cond (ltb j (2 ^ x)) (line_under least bits d (2 * k) j) (line_under least bits d (2 * k + 1) (j - 2 ^ x)))) (sym w)
          ∙ ap (λ (x : ℕ). one_row (line_under least bits x k)) (sym e);
    }

-- ---- quads that are made
-- of nothing
pub empty_named : (lean : Bool) (least h k n : ℕ) (w : Worker) (ys : List ℕ) (q : Quad) → q ≡ record { height = h; name = 0 } → w.quad (record { height = h; name = 0 }) ≡ Some no_cells → IsMarked least ys (h - least) k → slice_index ys k ≡ 0
    → MakesQuad lean n h (one_row (line_under least (bits_of ys) (h - least) k)) w w (Ok q)
empty_named lean least h k n w ys q s e m z = subst (λ (p : Quad). MakesQuad lean n h (one_row (line_under least (bits_of ys) (h - least) k)) w w (Ok p)) (sym s) (record {
  value = record { means = e ∙ ap Some (same_cells no_cells (one_row (line_under least (bits_of ys) (h - least) k)) (λ i j. sym (and_right (eqb i 0) _ (none_under least ys (h - least) k m z j)))); same_height = refl };
  keeps = keeps_itself w;
  room = omega arith;
  cause = done_cause lean w w (record { height = h; name = 0 }) refl;
})

-- of one entry
pub leaf_named : (lean : Bool) (least h k : ℕ) (v w : Worker) (ys : List ℕ) (r : Result Quad Lack) → h ≡ least → MakesQuad lean 1 least (one_row (byte_line (2 ^ least) (slice_index ys k))) v w r
    → MakesQuad lean (strip (h - least)) h (one_row (line_under least (bits_of ys) (h - least) k)) v w r
leaf_named lean least h k v w ys r e s =
    let z : h - least ≡ 0 = omega (arith, e) in
    subst (λ (x : ℕ). MakesQuad lean (strip x) h (one_row (line_under least (bits_of ys) x k)) v w r) (sym z)
    (subst (λ (y : ℕ). MakesQuad lean 1 y (one_row (byte_line (2 ^ least) (slice_index ys k))) v w r) (sym e) s)

pub block_named : (lean : Bool) (least m bits entry : ℕ) (v w : Worker) (r : Result Quad Lack) → m ≡ 2 ^ least → bits_cells m bits ≡ one_row (byte_line m entry) → IfOk r (GivesQuad w least (bits_cells (2 ^ least) bits)) → Keeps v w → MakesAtMost 1 v w → HasCause lean v w r
    → MakesQuad lean 1 least (one_row (byte_line (2 ^ least) entry)) v w r
block_named lean least m bits entry v w r e s value keeps room cause = record {
  value = subst (λ (f : Cells). IfOk r (GivesQuad w least f)) (ap (λ (x : ℕ). bits_cells x bits) (sym e) ∙ s ∙ ap (λ (x : ℕ). one_row (byte_line x entry)) e) value;
  keeps = keeps;
  room = room;
  cause = cause;
}

pub block_fits : (least m bits : ℕ) → m ≡ 2 ^ least → bits < 2 ^ (m * m) → bits < 2 ^ (2 ^ least * 2 ^ least)
block_fits least m bits e l = subst (λ (x : ℕ). bits < 2 ^ (x * x)) e l

-- of a line that has its height
pub line_named : (lean : Bool) (least cols h : ℕ) (f : Cells) (v w : Worker) (r : Result Quad Lack) → cols ≤ size_limit → least ≤ h → cols ≤ 2 ^ h → (least < h → 2 ^ (h - 1) < cols)
    → MakesQuad lean (strip (h - least)) h f v w r → MakesQuad lean (line_room least cols) (height_over least 1 cols) f v w r
line_named lean least cols h f v w r n l c k s =
    let p = pow_pos h in
    let e : height_over least 1 cols ≡ h = height_over-is least 1 cols h (omega arith) n l (omega (arith, p)) c (λ x. inr (k x)) in
    subst (λ (x : ℕ). MakesQuad lean (strip (x - least)) x f v w r) (sym e) s

-- the western half of a line that has no element in the eastern one
pub west_line : (least h k cols : ℕ) (bits : Bits) → least < h → cols ≤ 2 ^ (h - 1) → ((j : ℕ) → line_under least bits (h - least) k j ≡ true → j < cols)
    → (j : ℕ) → line_under least bits (h - 1 - least) (2 * k) j ≡ line_under least bits (h - least) k j
west_line least h k cols bits l c n j =
    let d : ℕ = h - 1 - least in
    let e : h - least ≡ suc d = omega (arith, l) in
    let w : h - 1 ≡ least + d = omega (arith, l) in
    let m : cols ≤ 2 ^ (least + d) = subst (λ (x : ℕ). cols ≤ 2 ^ x) w c in
    elim (cases_lt j (2 ^ (least + d))) [
      | inl i ↦ sym (ap (λ (x : ℕ). line_under least bits x k j) e ∙ ap (λ b. cond b (line_under least bits d (2 * k) j) (line_under least bits d (2 * k + 1) (j - 2 ^ (least + d)))) (lt-ltb j (2 ^ (least + d)) i))
      | inr i ↦ line_under-past least d (2 * k) bits j i ∙ sym (no_element (line_under least bits (h - least) k j) (λ t. let a = n j t in absurd (omega (arith, a, m, i))))
    ]
  where
    no_element : (b : Bool) → (b ≡ true → ⊥) → b ≡ false
    no_element true f = absurd (f refl)
    no_element false f = refl

pub west_narrow : (least h k cols : ℕ) (bits : Bits) → least < h → cols ≤ 2 ^ (h - 1) → ((j : ℕ) → line_under least bits (h - least) k j ≡ true → j < cols) → (j : ℕ) → line_under least bits (h - 1 - least) (2 * k) j ≡ true → j < cols
west_narrow least h k cols bits l c n j t = n j (sym (west_line least h k cols bits l c n j) ∙ t)

pub west_named : (lean : Bool) (least h k cols n o : ℕ) (bits : Bits) (v w : Worker) (r : Result Quad Lack) → ((j : ℕ) → line_under least bits (h - 1 - least) (2 * k) j ≡ line_under least bits (h - least) k j)
    → MakesQuad lean n o (one_row (line_under least bits (h - 1 - least) (2 * k))) v w r → MakesQuad lean n o (one_row (line_under least bits (h - least) k)) v w r
west_named lean least h k cols n o bits v w r e s = subst (λ (f : Cells). MakesQuad lean n o f v w r) (same_cells _ _ (λ a j. ap (λ b. eqb a 0 && b) (e j))) s

-- ---- relations
-- a relation, or the relation turned
abbrev turned_relation : Bool → Relation → Relation
turned_relation true r = transpose r
turned_relation false r = r

image-compose : (turned : Bool) (u r : Relation) → IsRelation u → IsRelation r → u.cols ≡ cond turned r.cols r.rows → image_of turned u r ≡ compose u (turned_relation turned r)
image-compose false u r v w e = refl
image-compose true u r v w e =
    let t : HasType r.rows r.cols r = record { valid = w; row_size = refl; col_size = refl } in
    let s : HasType u.rows r.cols u = record { valid = v; row_size = refl; col_size = e } in
    transpose_laws.compose r.rows r.cols u.rows r (transpose u) t (type-transpose u.rows r.cols u s) ∙ ap (λ x. compose x (transpose r)) (transpose-transpose u v)

has-transpose : (r : Relation) → IsRelation r → has (transpose r) ≡ (λ i j. has r j i)
unfolding transpose
has-transpose r v = has-cells r.cols r.rows (λ i j. has r j i) (record { row = λ i j h. (has-within r v).col j i h; col = λ i j h. (has-within r v).row j i h })

has-turned : (turned : Bool) (r : Relation) → IsRelation r → has (turned_relation turned r) ≡ turned_cells turned (has r)
has-turned false r v = refl
has-turned true r v = has-transpose r v

cols-turned : (turned : Bool) (r : Relation) → (turned_relation turned r).cols ≡ cond turned r.rows r.cols
cols-turned false r = refl
cols-turned true r = cols-transpose r

-- the relation of the image of the cells of two relations
image-relation : (turned : Bool) (m cols : ℕ) (u r : Relation) (x : Line) → IsRelation u → IsRelation r → u.rows ≡ 1 → u.cols ≡ cond turned r.cols r.rows → cols ≡ cond turned r.rows r.cols → u.cols ≤ m → cols ≤ m
    → ((j : ℕ) → j < m → x j ≡ image_line m (first_row (has u)) (turned_cells turned (has r)) j) → relation_of 1 cols (one_row x) ≡ image_of turned u r
image-relation turned m cols u r x v w one middle wide um cm h =
    let t : Relation = turned_relation turned r in
    relation_of-agree 1 cols (one_row x) (cells_compose m (has u) (has t)) (λ a j p q.
    let z : a ≡ 0 = omega (arith, p) in
    ap (λ b. b && x j) (eq-eqb a 0 z) ∙ h j (omega (arith, q, cm))
    ∙ ap (λ (y : Cells). image_line m (first_row (has u)) y j) (sym (has-turned turned r w))
    ∙ ap (λ (y : ℕ). cells_compose m (has u) (has t) y j) (sym z))
    ∙ ap (λ (y : ℕ). relation_of y cols (cells_compose m (has u) (has t))) (sym one)
    ∙ ap (λ (y : ℕ). relation_of u.rows y (cells_compose m (has u) (has t))) (wide ∙ sym (cols-turned turned r))
    ∙ sym (compose-cells m u t v um) ∙ sym (image-compose turned u r v w middle)

-- an image lies within the columns
image-narrow : (turned : Bool) (m cols : ℕ) (r : Relation) (y x : Line) → IsRelation r → cols ≡ cond turned r.rows r.cols → ((j : ℕ) → j < m → x j ≡ image_line m y (turned_cells turned (has r)) j)
    → ((j : ℕ) → m ≤ j → x j ≡ false) → (j : ℕ) → x j ≡ true → j < cols
image-narrow turned m cols r y x v e h past j t = elim (cases_lt j m) [
  | inr l ↦ absurd (false≢true (sym (past j l) ∙ t))
  | inl l ↦ (let p = some_passes m (λ k. y k && turned_cells turned (has r) k j) (sym (h j l) ∙ t) in
      subst (λ (n : ℕ). j < n) (sym e) (column turned p.at (and_parts (y p.at) (turned_cells turned (has r) p.at j) p.passes).1))
]
  where
    column : (b : Bool) (k : ℕ) → turned_cells b (has r) k j ≡ true → j < cond b r.rows r.cols
    column true k y = (has-within r v).row j k y
    column false k y = (has-within r v).col k j y

-- ---- heights
-- a line is no higher than a relation that has its elements as rows or columns
pub line_lower : (least rows cols n : ℕ) (turned : Bool) → rows ≤ size_limit → cols ≤ size_limit → n ≡ cond turned cols rows → height_over least 1 n ≤ height_over least rows cols
line_lower least rows cols n turned a b e =
    let p = pow_pos (height_over least rows cols) in
    height_over-least least 1 n (height_over least rows cols) (height_over-low least rows cols) (omega (arith, p)) (size_fits least rows cols n turned a b e)
  where
    size_fits : (least rows cols n : ℕ) (turned : Bool) → rows ≤ size_limit → cols ≤ size_limit → n ≡ cond turned cols rows → n ≤ 2 ^ height_over least rows cols
    size_fits least rows cols n true a b e = subst (λ (x : ℕ). x ≤ 2 ^ height_over least rows cols) (sym e) (height_over-cols least rows cols b)
    size_fits least rows cols n false a b e = subst (λ (x : ℕ). x ≤ 2 ^ height_over least rows cols) (sym e) (height_over-rows least rows cols a)

-- the columns of a relation, or of the relation turned, are within its square, and within the limit
pub width_fits : (least rows cols n h : ℕ) (turned : Bool) → rows ≤ size_limit → cols ≤ size_limit → h ≡ height_over least rows cols → n ≡ cond turned rows cols → n ≤ 2 ^ h
width_fits least rows cols n h true a b s e = subst (λ (x : ℕ). n ≤ 2 ^ x) (sym s) (subst (λ (x : ℕ). x ≤ 2 ^ height_over least rows cols) (sym e) (height_over-rows least rows cols a))
width_fits least rows cols n h false a b s e = subst (λ (x : ℕ). n ≤ 2 ^ x) (sym s) (subst (λ (x : ℕ). x ≤ 2 ^ height_over least rows cols) (sym e) (height_over-cols least rows cols b))

pub line_fits : (least rows cols n h : ℕ) (turned : Bool) → rows ≤ size_limit → cols ≤ size_limit → h ≡ height_over least rows cols → n ≡ cond turned cols rows → n ≤ 2 ^ h
line_fits least rows cols n h true a b s e = width_fits least rows cols n h false a b s e
line_fits least rows cols n h false a b s e = width_fits least rows cols n h true a b s e

pub width_limit : (rows cols n : ℕ) (turned : Bool) → rows ≤ size_limit → cols ≤ size_limit → n ≡ cond turned rows cols → n ≤ size_limit
width_limit rows cols n true a b e = omega (arith, a, e)
width_limit rows cols n false a b e = omega (arith, b, e)

pub roots_lower : (least rows cols m n a b : ℕ) (turned : Bool) → rows ≤ size_limit → cols ≤ size_limit → m ≡ 1 → n ≡ cond turned cols rows → a ≡ height_over least m n → b ≡ height_over least rows cols → a ≤ b
roots_lower least rows cols m n a b turned r c one e p q =
    let l = line_lower least rows cols n turned r c e in
    let s : height_over least m n ≡ height_over least 1 n = ap (λ (x : ℕ). height_over least x n) one in
    omega (arith, l, s, p, q)

-- ---- the answer
pub sizes-turned : (turned : Bool) (a b c d : ℕ) → a ≡ c → b ≡ d → cond turned a b ≡ cond turned c d
sizes-turned true a b c d e f = e
sizes-turned false a b c d e f = f

-- the element of a heap past its root's line
pub heap_past : (least h j : ℕ) (xs : List ℕ) → least ≤ h → 2 ^ h ≤ j → line_under least (bits_of xs) (h - least) 1 j ≡ false
heap_past least h j xs l p = line_under-past least (h - least) 1 (bits_of xs) j (let w : h ≡ least + (h - least) = omega (arith, l) in subst (λ (x : ℕ). 2 ^ x ≤ j) w p)

-- what is in the heap of an image, by the relation of the walk's quad
pub heap_narrow : (least h cols m n : ℕ) (turned : Bool) (r : Relation) (y : Line) (xs : List ℕ) → IsRelation r → least ≤ h → r.rows ≡ m → r.cols ≡ n → cols ≡ cond turned m n
    → IsHeap least h (image_line (2 ^ h) y (turned_cells turned (has r))) xs → (j : ℕ) → line_under least (bits_of xs) (h - least) 1 j ≡ true → j < cols
heap_narrow least h cols m n turned r y xs v l a b e s =
    image-narrow turned (2 ^ h) cols r y (line_under least (bits_of xs) (h - least) 1) v (e ∙ sizes-turned turned m n r.rows r.cols (sym a) (sym b)) s.line (λ j p. heap_past least h j xs l p)

pub answer_within : (cols : ℕ) (f : Cells) (x : Line) → f ≡ one_row x → ((j : ℕ) → x j ≡ true → j < cols) → LiesWithin 1 cols f
answer_within cols f x e n = subst (LiesWithin 1 cols) (sym e) (record {
  row = λ i j h. (let p = eqb-true i 0 (and_parts (eqb i 0) (x j) h).0 in omega (arith, p));
  col = λ i j h. n j (and_parts (eqb i 0) (x j) h).1;
})

-- the relation of the answer's tree is the image
pub answer_gives : (least h cols m n k : ℕ) (turned : Bool) (u r : Relation) (a : Cells) (xs : List ℕ) (w : Worker) (rel : Rel) → IsRelation u → IsRelation r → u.rows ≡ 1 → u.cols ≡ k → k ≡ cond turned n m → r.rows ≡ m → r.cols ≡ n → cols ≡ cond turned m n → k ≤ 2 ^ h → cols ≤ 2 ^ h
    → IsHeap least h (image_line (2 ^ h) (first_row (has u)) (turned_cells turned (has r))) xs → a ≡ one_row (line_under least (bits_of xs) (h - least) 1)
    → Gives w 1 cols (relation_of 1 cols a) rel → Gives w 1 (cond turned m n) (image_of turned u r) rel
answer_gives least h cols m n k turned u r a xs w rel vu vr one uk kn rm rn cw kh ch s e given = record {
  means = given.means ∙ ap Some (ap (relation_of 1 cols) e ∙ image-relation turned (2 ^ h) cols u r (line_under least (bits_of xs) (h - least) 1) vu vr one
      (uk ∙ kn ∙ sizes-turned turned n m r.cols r.rows (sym rn) (sym rm)) (cw ∙ sizes-turned turned m n r.rows r.cols (sym rm) (sym rn)) (omega (arith, uk, kh)) ch s.line);
  row_size = given.row_size;
  col_size = given.col_size ∙ cw;
}

-- the heap of an image, by the sets of the roots of a line and of a relation
pub heap_of_roots : (least h : ℕ) (turned : Bool) (u v : Worker) (line quad : Quad) (a b : ℕ) (x y : Cells) (xs ys : List ℕ) → Keeps u v → GivesQuad u a x line → GivesQuad u b y quad → ys ≡ xs
    → IsHeap least h (image_line (2 ^ h) (first_row (quad_set v line)) (turned_cells turned (quad_set v quad))) xs → IsHeap least h (image_line (2 ^ h) (first_row x) (turned_cells turned y)) ys
heap_of_roots least h turned u v line quad a b x y xs ys k l r e s =
    let elements = kept_set u v line k (gives_has u a x line l) ∙ gives_quad_set u a x line l in
    let cells = kept_set u v quad k (gives_has u b y quad r) ∙ gives_quad_set u b y quad r in
    subst (λ (zs : List ℕ). IsHeap least h (image_line (2 ^ h) (first_row x) (turned_cells turned y)) zs) (sym e)
    (subst (λ (z : Cells). IsHeap least h (image_line (2 ^ h) (first_row z) (turned_cells turned y)) xs) elements
    (subst (λ (z : Cells). IsHeap least h (image_line (2 ^ h) (first_row (quad_set v line)) (turned_cells turned z)) xs) cells s))

-- the relation of its tree is the image, for a relation of m rows and n columns
pub image_gives : (least h cols m n k : ℕ) (turned : Bool) (u r : Relation) (xs : List ℕ) (w : Worker) (rel : Rel) → IsRelation u → IsRelation r → u.rows ≡ 1 → u.cols ≡ k → k ≡ cond turned n m → r.rows ≡ m → r.cols ≡ n → m ≤ size_limit → n ≤ size_limit → h ≡ height_over least m n → cols ≡ cond turned m n
    → IsHeap least h (image_line (2 ^ h) (first_row (has u)) (turned_cells turned (has r))) xs → Gives w 1 cols (relation_of 1 cols (one_row (line_under least (bits_of xs) (h - least) 1))) rel → Gives w 1 (cond turned m n) (image_of turned u r) rel
image_gives least h cols m n k turned u r xs w rel vu vr one uk kn rm rn ml nl e cw s given =
    answer_gives least h cols m n k turned u r (one_row (line_under least (bits_of xs) (h - least) 1)) xs w rel vu vr one uk kn rm rn cw (line_fits least m n k h turned ml nl e kn) (width_fits least m n cols h turned ml nl e cw) s refl given

-- ---- steps of a naming
pub over_leaf : (h b least : ℕ) → h ≢ b → b ≡ least → least ≤ h → least < h
over_leaf h b least n e l = omega (arith, n, e, l)
