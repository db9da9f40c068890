-- What a file's parts tell, by its header; and the relation of the cells that are listed.
-- 1. A header has the numbers of the fields, so what is said of its parts is said of the file's: a function of five is the same at the same five.
-- 2. The relation of the listed pairs is the file's, by its definition.
-- 3. The list is distinct, so it is no longer than the relation, and its room is within the file's cost.
use Rattle.std.proofs.Common.{◌≡◌, ◌==◌, ◌&&◌, ◌+◌, ◌-◌, ◌*◌, ◌≤◌, ℕ, Bool, true, false, List, [], ◌∷◌, length, take, drop, Option, Some, None, Err, refl, sym, ap, ◌∙◌, subst, arith}
use Rattle.std.proofs.lemmas.Bool.{eq-eqb, ne_eqb}
use Rattle.std.proofs.Math.Nat.{mul-le-mul_right}
use Rattle.rel_model.specs.declared.Rel.{Rel}
use Rattle.rel_model.specs.Relation.{Relation, relation_of}
use Rattle.rel_model.specs.Listed.{is_among, AreWithin}
use Rattle.rel_model.specs.Roots.{height_over}
use Rattle.rel_model.specs.Worker.{Worker, Gives, listed_room}
use Rattle.run_model.specs.declared.outcome.BadFile.{BadFile}
use Rattle.run_model.specs.declared.outcome.BadFile.TheVariants.{Short, Magic, Sizes, Height, Lengths, ZeroGroup, Outside, Padding, Rest, Full, NoMemory}
use Rattle.run_model.specs.declared.outcome.BadFile.TheVariants.{Quad, Names as BAD_NAMES, Root, Order, Missing}
use Rattle.run_model.specs.Cost.{listed_cost}
use Rattle.run_model.specs.Files.{whole, header_length, bytes_for, part, unpacked, fields, ones, cells_below, cells_told, cell_outside, chosen, unless, found_at, first_of_all, k2_fault, k2_relation}
use Rattle.k2_file.specs.declared.header.Header.{Header}
use Rattle.k2_file.specs.declared.root.Form.{Form}
use Rattle.k2_file.specs.Form.{pairs_in, IsWhole, IsFormOf}
use Rattle.k2_file.specs.Told.{bits_told, groups_of, fault_of_levels, told_by, end_of, end_fault, outside_fault, pairs_told, AreFields, IsFaultOf}
use Rattle.k2_file.specs.Reading.{IsRead, cost_unless, cost_of_file}
use Rattle.k2_file.proofs.ReadFaults.{level_fault}
use Rattle.k2_file.proofs.ReadCounting.{AreDistinct, length-relation_of}
use Rattle.k2_file.proofs.ReadApart.{distinct-cells}
use Rattle.k2_file.proofs.ReadWalk.{within-chosen}

-- a function of five
pub same-five : {A : Type 0} (F : ℕ → ℕ → ℕ → List Bool → List Bool → A) {a a' b b' c c' : ℕ} {xs xs' ys ys' : List Bool} → a ≡ a' → b ≡ b' → c ≡ c' → xs ≡ xs' → ys ≡ ys'
    → F a b c xs ys ≡ F a' b' c' xs' ys'
same-five F {a} {a'} {b} {b'} {c} {c'} {xs} {xs'} {ys} {ys'} p q r s t =
    ap (λ (n : ℕ). F n b c xs ys) p ∙ ap (λ (n : ℕ). F a' n c xs ys) q ∙ ap (λ (n : ℕ). F a' b' n xs ys) r
    ∙ ap (λ (zs : List Bool). F a' b' c' zs ys) s ∙ ap (λ (zs : List Bool). F a' b' c' xs' zs) t

-- ---- the bits of a file
pub tree-is : (bytes : List ℕ) → (fields bytes).tree ≡ unpacked (part bytes header_length (bytes_for (fields bytes).tree_count))
unfolding fields
tree-is bytes = refl

pub cells-is : (bytes : List ℕ) → (fields bytes).cells ≡ unpacked (part bytes (header_length + bytes_for (fields bytes).tree_count) (bytes_for (fields bytes).cell_count))
unfolding fields
cells-is bytes = refl

-- the parts of a file, by its header
pub record AreParts (bytes : List ℕ) (h : Header) (tree_count : ℕ) (tree : List ℕ) (cell_count : ℕ) (cells : List ℕ) : Type 0 where
  pub numbers : AreFields bytes h
  pub tree_same : tree_count ≡ h.tree_count
  pub tree_bytes : tree ≡ part bytes 29 (bytes_for h.tree_count)
  pub cells_same : cell_count ≡ h.cell_count
  pub cell_bytes : cells ≡ part bytes (29 + bytes_for h.tree_count) (bytes_for h.cell_count)

module _ (bytes : List ℕ) (h : Header) (tree_count : ℕ) (tree : List ℕ) (cell_count : ℕ) (cells : List ℕ) (w : AreParts bytes h tree_count tree cell_count cells) where
  pub tree-unpacked : unpacked tree ≡ (fields bytes).tree
  tree-unpacked = ap unpacked (w.tree_bytes ∙ ap (λ (n : ℕ). part bytes 29 (bytes_for n)) w.numbers.tree_is) ∙ sym (tree-is bytes)

  pub cells-unpacked : unpacked cells ≡ (fields bytes).cells
  cells-unpacked =
      ap unpacked (w.cell_bytes ∙ ap (λ (n : ℕ). part bytes (29 + bytes_for n) (bytes_for h.cell_count)) w.numbers.tree_is
      ∙ ap (λ (n : ℕ). part bytes (29 + bytes_for (fields bytes).tree_count) (bytes_for n)) w.numbers.cells_are) ∙ sym (cells-is bytes)

  pub tree-told : bits_told tree_count tree ≡ take (fields bytes).tree_count (fields bytes).tree
  unfolding bits_told
  tree-told = ap (λ (n : ℕ). take n (unpacked tree)) (w.tree_same ∙ w.numbers.tree_is) ∙ ap (take (fields bytes).tree_count) tree-unpacked

  pub cells-told : bits_told cell_count cells ≡ take (fields bytes).cell_count (fields bytes).cells
  unfolding bits_told
  cells-told = ap (λ (n : ℕ). take n (unpacked cells)) (w.cells_same ∙ w.numbers.cells_are) ∙ ap (take (fields bytes).cell_count) cells-unpacked

  -- the tests of the levels
  pub levels-told : level_fault bytes ≡ fault_of_levels h.height (groups_of h.tree_count h.cell_count) (bits_told tree_count tree) (bits_told cell_count cells) h.cell_count
  unfolding level_fault
  levels-told =
      sym (same-five (λ height t l xs ys. fault_of_levels height (groups_of t l) xs ys l) w.numbers.height_is w.numbers.tree_is w.numbers.cells_are tree-told cells-told)

  -- the cells that the last level tells of
  pub cells_below-told : told_by h (bits_told tree_count tree) ≡ cells_told (fields bytes)
  unfolding cells_told
  cells_below-told =
      same-five (λ height t l xs ys. cells_below (height - 1) (take (groups_of t l) whole) xs) w.numbers.height_is w.numbers.tree_is w.numbers.cells_are tree-told cells-told

  pub pairs-told : chosen (told_by h (bits_told tree_count tree)) (bits_told cell_count cells) ≡ pairs_told bytes
  unfolding pairs_told
  pairs-told = ap (λ ps. chosen ps (bits_told cell_count cells)) cells_below-told ∙ ap (chosen (cells_told (fields bytes))) cells-told

  pub outside-told : found_at Outside (cell_outside h.rows h.cols h.tree_count (told_by h (bits_told tree_count tree)) (bits_told cell_count cells)) ≡ outside_fault bytes
  unfolding outside_fault
  outside-told =
      let f = fields bytes in
      ap (λ ps. found_at Outside (cell_outside h.rows h.cols h.tree_count ps (bits_told cell_count cells))) cells_below-told
      ∙ same-five (λ rows cols t xs ys. found_at Outside (cell_outside rows cols t (cells_told f) ys)) w.numbers.rows_are w.numbers.cols_are w.numbers.tree_is tree-told cells-told

-- ---- the end
unfoldable pub two : Bool → Bool → Bool → Option BadFile
two a b c = first_of_all (unless (a && b) Padding ∷ unless c Rest ∷ [])

pub two-end : (bytes : List ℕ) → end_fault bytes
    ≡ two (ones (drop (fields bytes).tree_count (fields bytes).tree) == 0) (ones (drop (fields bytes).cell_count (fields bytes).cells) == 0) (length bytes == end_of bytes)
unfolding end_fault two
two-end bytes = refl

two-tree : (a b c : Bool) → a ≡ false → two a b c ≡ Some Padding
unfolding two
two-tree a b c x = ap (λ t. two t b c) x

two-cells : (a b c : Bool) → a ≡ true → b ≡ false → two a b c ≡ Some Padding
unfolding two
two-cells a b c x y = ap (λ t. two t b c) x ∙ ap (λ t. two true t c) y

two-rest : (a b c : Bool) → a ≡ true → b ≡ true → c ≡ false → two a b c ≡ Some Rest
unfolding two
two-rest a b c x y z = ap (λ t. two t b c) x ∙ ap (λ t. two true t c) y ∙ ap (λ t. two true true t) z

pub two-none : (a b c : Bool) → a ≡ true → b ≡ true → c ≡ true → two a b c ≡ None
unfolding two
two-none a b c x y z = ap (λ t. two t b c) x ∙ ap (λ t. two true t c) y ∙ ap (λ t. two true true t) z

module _ (bytes : List ℕ) (h : Header) (tree_count : ℕ) (tree : List ℕ) (cell_count : ℕ) (cells : List ℕ) (w : AreParts bytes h tree_count tree cell_count cells) where
  tree-behind : ones (drop tree_count (unpacked tree)) ≡ ones (drop (fields bytes).tree_count (fields bytes).tree)
  tree-behind = ap (λ (n : ℕ). ones (drop n (unpacked tree))) (w.tree_same ∙ w.numbers.tree_is) ∙ ap (λ xs. ones (drop (fields bytes).tree_count xs)) (tree-unpacked _ _ _ _ _ _ w)

  cells-behind : ones (drop cell_count (unpacked cells)) ≡ ones (drop (fields bytes).cell_count (fields bytes).cells)
  cells-behind = ap (λ (n : ℕ). ones (drop n (unpacked cells))) (w.cells_same ∙ w.numbers.cells_are) ∙ ap (λ xs. ones (drop (fields bytes).cell_count xs)) (cells-unpacked _ _ _ _ _ _ w)

  end-same : 29 + bytes_for h.tree_count + bytes_for h.cell_count ≡ end_of bytes
  end-same = ap (λ (n : ℕ). 29 + bytes_for n + bytes_for h.cell_count) w.numbers.tree_is ∙ ap (λ (n : ℕ). 29 + bytes_for (fields bytes).tree_count + bytes_for n) w.numbers.cells_are

  pub end-tree : (ones (drop tree_count (unpacked tree)) ≡ 0 → ⊥) → end_fault bytes ≡ Some Padding
  end-tree n = two-end bytes ∙ two-tree _ _ _ (ne_eqb _ 0 (λ e. n (tree-behind ∙ e)))

  pub end-cells : ones (drop tree_count (unpacked tree)) ≡ 0 → (ones (drop cell_count (unpacked cells)) ≡ 0 → ⊥) → end_fault bytes ≡ Some Padding
  end-cells t n = two-end bytes ∙ two-cells _ _ _ (eq-eqb _ 0 (sym tree-behind ∙ t)) (ne_eqb _ 0 (λ e. n (cells-behind ∙ e)))

  pub end-rest : ones (drop tree_count (unpacked tree)) ≡ 0 → ones (drop cell_count (unpacked cells)) ≡ 0
      → (length bytes ≡ 29 + bytes_for h.tree_count + bytes_for h.cell_count → ⊥) → end_fault bytes ≡ Some Rest
  end-rest t l n =
      two-end bytes ∙ two-rest _ _ _ (eq-eqb _ 0 (sym tree-behind ∙ t)) (eq-eqb _ 0 (sym cells-behind ∙ l)) (ne_eqb _ (end_of bytes) (λ e. n (e ∙ sym end-same)))

  pub end-none : ones (drop tree_count (unpacked tree)) ≡ 0 → ones (drop cell_count (unpacked cells)) ≡ 0
      → length bytes ≡ 29 + bytes_for h.tree_count + bytes_for h.cell_count → end_fault bytes ≡ None
  end-none t l e =
      two-end bytes ∙ two-none _ _ _ (eq-eqb _ 0 (sym tree-behind ∙ t)) (eq-eqb _ 0 (sym cells-behind ∙ l)) (eq-eqb _ (end_of bytes) (e ∙ end-same))

-- ---- the relation
pub relation-formed : (bytes : List ℕ) (form : Form) → IsFormOf bytes form
    → relation_of form.header.rows form.header.cols (is_among (pairs_in form)) ≡ k2_relation bytes
unfolding k2_relation pairs_told
relation-formed bytes form w =
    let f = fields bytes in
    ap (λ ps. relation_of form.header.rows form.header.cols (is_among ps)) w.pairs
    ∙ ap (λ (n : ℕ). relation_of n form.header.cols (is_among (pairs_told bytes))) w.numbers.rows_are
    ∙ ap (λ (n : ℕ). relation_of f.rows n (is_among (pairs_told bytes))) w.numbers.cols_are

pub rows-of : (bytes : List ℕ) → (k2_relation bytes).rows ≡ (fields bytes).rows
unfolding k2_relation relation_of
rows-of bytes = refl

pub cols-of : (bytes : List ℕ) → (k2_relation bytes).cols ≡ (fields bytes).cols
unfolding k2_relation relation_of
cols-of bytes = refl

-- a worker that gives the relation of the form gives the file's
pub gives-formed : (new : Worker) (bytes : List ℕ) (form : Form) (rel : Rel) → IsFormOf bytes form
    → Gives new form.header.rows form.header.cols (relation_of form.header.rows form.header.cols (is_among (pairs_in form))) rel
    → Gives new (k2_relation bytes).rows (k2_relation bytes).cols (k2_relation bytes) rel
gives-formed new bytes form rel w g = record {
  means = g.means ∙ ap (λ r. Some r) (relation-formed bytes form w);
  row_size = g.row_size ∙ w.numbers.rows_are ∙ sym (rows-of bytes);
  col_size = g.col_size ∙ w.numbers.cols_are ∙ sym (cols-of bytes);
}

distinct-told : (bytes : List ℕ) → AreDistinct (pairs_told bytes)
unfolding pairs_told cells_told
distinct-told bytes = let f = fields bytes in distinct-cells (f.height - 1) _ (take f.tree_count f.tree) (take f.cell_count f.cells)

-- the pairs lie within the sizes
pub form-within : (form : Form) → IsWhole form → AreWithin form.header.rows form.header.cols (pairs_in form)
form-within form w =
    within-chosen form.header.rows form.header.cols form.header.tree_count (told_by form.header (bits_told form.parts.tree.count form.parts.tree.bytes.now))
    (bits_told form.parts.cells.count form.parts.cells.bytes.now) w.inside

-- the form has no more pairs than the relation
form-few : (bytes : List ℕ) (form : Form) → IsFormOf bytes form → length (pairs_in form) ≤ length (k2_relation bytes).pairs
form-few bytes form w =
    subst (λ (r : Relation). length (pairs_in form) ≤ length r.pairs) (relation-formed bytes form w)
    (length-relation_of form.header.rows form.header.cols (pairs_in form) (form-within form w.is_whole) (subst (λ ps. AreDistinct ps) (sym w.pairs) (distinct-told bytes)))

-- so its room is within the file's cost
pub room-formed : (leaf : ℕ) (bytes : List ℕ) (form : Form) → IsFormOf bytes form
    → listed_room (length (pairs_in form)) (height_over leaf form.header.rows form.header.cols - leaf) ≤ cost_of_file leaf bytes
unfolding cost_of_file listed_cost
room-formed leaf bytes form w =
    let r = k2_relation bytes in
    let n = length (pairs_in form) in
    let depth = height_over leaf form.header.rows form.header.cols - leaf in
    let more : listed_room n depth ≤ listed_room (length r.pairs) depth = mul-le-mul_right (3 * depth + 1) (form-few bytes form w) in
    let same : listed_room (length r.pairs) depth ≡ listed_cost leaf (length r.pairs) r.rows r.cols =
    ap (λ (m : ℕ). listed_room (length r.pairs) (height_over leaf m form.header.cols - leaf)) (w.numbers.rows_are ∙ sym (rows-of bytes))
    ∙ ap (λ (m : ℕ). listed_room (length r.pairs) (height_over leaf r.rows m - leaf)) (w.numbers.cols_are ∙ sym (cols-of bytes)) in
    let whole_cost : cost_of_file leaf bytes ≡ listed_cost leaf (length r.pairs) r.rows r.cols = ap (λ o. cost_unless o (listed_cost leaf (length r.pairs) r.rows r.cols)) w.good in
    omega (arith, more, same, whole_cost)

-- a fault of the bytes, before a node was asked
pub read-fault : (old : Worker) (bytes : List ℕ) (fault : BadFile) → IsFaultOf (k2_fault bytes) fault → IsRead old old bytes (Err fault)
read-fault old bytes NoMemory h = refl
read-fault old bytes Full h = absurd h
read-fault old bytes Short h = (h, refl, omega arith)
read-fault old bytes Magic h = (h, refl, omega arith)
read-fault old bytes Sizes h = (h, refl, omega arith)
read-fault old bytes Height h = (h, refl, omega arith)
read-fault old bytes Lengths h = (h, refl, omega arith)
read-fault old bytes (ZeroGroup at) h = (h, refl, omega arith)
read-fault old bytes (Outside at) h = (h, refl, omega arith)
read-fault old bytes Padding h = (h, refl, omega arith)
read-fault old bytes Rest h = (h, refl, omega arith)
read-fault old bytes (Quad at) h = (h, refl, omega arith)
read-fault old bytes (BAD_NAMES at) h = (h, refl, omega arith)
read-fault old bytes (Root at) h = (h, refl, omega arith)
read-fault old bytes (Order at) h = (h, refl, omega arith)
read-fault old bytes Missing h = (h, refl, omega arith)
