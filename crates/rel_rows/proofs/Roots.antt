-- The relation of a row, and that of an added row, from their quads; their rooms.
use Rattle.std.proofs.Common.{◌≡◌, ◌<◌, ◌≤◌, ◌-◌, ◌^◌, ◌∙◌, ◌&&◌, eqb, ℕ, sym, ap, subst, arith, inl, inr, Some}
use Rattle.std.proofs.lemmas.Nat.{pow_pos}
use Rattle.std.proofs.lemmas.Bool.{and_parts, or_cases, eqb-true, eq-eqb}
use Rattle.rel_model.specs.declared.Rel.{Rel}
use Rattle.rel_model.specs.Relation.{Relation, IsRelation, has, relation_of, size_limit}
use Rattle.rel_model.specs.Roots.{height_over}
use Rattle.rel_model.specs.Cells.{Cells}
use Rattle.rel_model.specs.Quarters.{LiesWithin}
use Rattle.rel_model.specs.Worker.{Worker, Gives}
use Rattle.rel_model.proofs.Heights.{height_over-is, height_over-least, height_over-low, height_over-rows, height_over-cols}
use Rattle.rel_model.proofs.Relations.{relation_of-agree}
use Rattle.rel_model.proofs.Rooting.{has-within}
use Rattle.rel_rows.specs.Rooms.{strip, strip_room}
use Rattle.rel_rows.specs.Rows.{row_of, row_added, row_cells, added_cells}

-- ---- rows
pub row-within : (r : Relation) (i cols : ℕ) (f : Cells) → IsRelation r → r.cols ≡ cols → f ≡ row_cells i (has r) → LiesWithin 1 cols f
row-within r i cols f v e s = subst (LiesWithin 1 cols) (sym s) (record {
  row = λ a j h. (let p = eqb-true a 0 (and_parts (eqb a 0) (has r i j) h).0 in omega (arith, p));
  col = λ a j h. (let p = (has-within r v).col i j (and_parts (eqb a 0) (has r i j) h).1 in omega (arith, p, e));
})

pub row-relation : (r : Relation) (i cols : ℕ) (f : Cells) → r.cols ≡ cols → f ≡ row_cells i (has r) → relation_of 1 cols f ≡ row_of r i
row-relation r i cols f e s =
    ap (relation_of 1 cols) s ∙ relation_of-agree 1 cols (row_cells i (has r)) (λ a j. has r i j) (λ a j p q. ap (λ t. t && has r i j) (eq-eqb a 0 (omega arith)))
    ∙ ap (λ n. relation_of 1 n (λ a j. has r i j)) (sym e)

pub row-gives : (w : Worker) (r : Relation) (i cols : ℕ) (f : Cells) (rel : Rel) → r.cols ≡ cols → f ≡ row_cells i (has r) → Gives w 1 cols (relation_of 1 cols f) rel → Gives w 1 cols (row_of r i) rel
row-gives w r i cols f rel e s g = record { means = g.means ∙ ap Some (row-relation r i cols f e s); row_size = g.row_size; col_size = g.col_size }

-- ---- an added row
pub added-within : (r line : Relation) (i rows cols : ℕ) (f : Cells) → IsRelation r → IsRelation line → r.rows ≡ rows → r.cols ≡ cols → line.cols ≡ cols → i < rows → f ≡ added_cells i (has line) (has r) → LiesWithin rows cols f
added-within r line i rows cols f v u m n k l s = subst (LiesWithin rows cols) (sym s) (record {
  row = λ a j h. elim (or_cases (has r a j) (eqb a i && has line 0 j) h) [
    | inl x ↦ (let p = (has-within r v).row a j x in omega (arith, p, m))
    | inr x ↦ (let p = eqb-true a i (and_parts (eqb a i) (has line 0 j) x).0 in omega (arith, p, l))
  ];
  col = λ a j h. elim (or_cases (has r a j) (eqb a i && has line 0 j) h) [
    | inl x ↦ (let p = (has-within r v).col a j x in omega (arith, p, n))
    | inr x ↦ (let p = (has-within line u).col 0 j (and_parts (eqb a i) (has line 0 j) x).1 in omega (arith, p, k))
  ];
})

pub added-gives : (w : Worker) (r line : Relation) (i rows cols : ℕ) (f : Cells) (rel : Rel) → r.rows ≡ rows → r.cols ≡ cols → f ≡ added_cells i (has line) (has r) → Gives w rows cols (relation_of rows cols f) rel → Gives w rows cols (row_added r i line) rel
added-gives w r line i rows cols f rel m n s g = record {
  means = g.means ∙ ap Some (ap (relation_of rows cols) s ∙ ap (λ x. relation_of x cols (added_cells i (has line) (has r))) (sym m) ∙ ap (λ x. relation_of r.rows x (added_cells i (has line) (has r))) (sym n));
  row_size = g.row_size;
  col_size = g.col_size;
}

-- ---- heights
-- the height of a line that a quad is no wider than twice
pub line_height : (least cols h : ℕ) → cols ≤ size_limit → least ≤ h → cols ≤ 2 ^ h → (least < h → 2 ^ (h - 1) < cols) → height_over least 1 cols ≡ h
line_height least cols h n l c k = let p = pow_pos h in height_over-is least 1 cols h (omega arith) n l (omega (arith, p)) c (λ x. inr (k x))

-- a line is no higher than a relation that has its columns
pub line_lower : (least rows cols : ℕ) → cols ≤ size_limit → height_over least 1 cols ≤ height_over least rows cols
line_lower least rows cols n = let p = pow_pos (height_over least rows cols) in
    height_over-least least 1 cols (height_over least rows cols) (height_over-low least rows cols) (omega (arith, p)) (height_over-cols least rows cols n)

-- the rows of a relation stand in its root
pub row_in_root : (least rows cols h i : ℕ) → rows ≤ size_limit → h ≡ height_over least rows cols → i < rows → i < 2 ^ h
row_in_root least rows cols h i n e l = subst (λ x. i < 2 ^ x) (sym e) (let p = height_over-rows least rows cols n in omega (arith, p, l))

-- ---- rooms
pub root_room : (least rows cols h : ℕ) → h ≡ height_over least rows cols → strip (h - least) ≤ strip_room least rows cols
unfolding strip_room
root_room least rows cols h e = let p : 2 ^ (h - least) ≡ 2 ^ (height_over least rows cols - least) = ap (λ x. 2 ^ (x - least)) e in omega (arith, p)

-- ---- roots
pub root_narrow : (r : Relation) (n cols : ℕ) (f : Cells) → IsRelation r → r.cols ≡ cols → f ≡ has r → LiesWithin n n f → LiesWithin n cols f
root_narrow r n cols f v e s w = record { row = w.row; col = λ i j h. (let p = (has-within r v).col i j (ap (λ (x : Cells). x i j) (sym s) ∙ h) in omega (arith, p, e)) }

pub root_wide : (least rows cols h : ℕ) → cols ≤ size_limit → h ≡ height_over least rows cols → cols ≤ 2 ^ h
root_wide least rows cols h n e = subst (λ x. cols ≤ 2 ^ x) (sym e) (height_over-cols least rows cols n)
