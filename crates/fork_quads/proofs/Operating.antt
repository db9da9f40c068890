-- The sets that a crew makes are the relations of the algebra's operators.
use Rattle.std.proofs.Common.{◌≡◌, ◌<◌, ◌≤◌, ◌^◌, ◌&&◌, ◌||◌, ◌↔◌, not, eqb, ℕ, Bool, true, false, Result, Ok, IfOk, refl, sym, ap, subst, ◌∙◌, inl, inr, arith}
use Rattle.std.specs.Prelude.{IsTrue}
use Rattle.std.proofs.lemmas.Bool.{false≢true, and_parts, and_from, lt-ltb, ltb-true, eqb-true, or_cases, eq-eqb}
use Rattle.rel_model.specs.declared.Rel.{Rel}
use Rattle.rel_model.specs.declared.Quad.{Quad}
use Rattle.rel_model.specs.declared.Lack.{Lack}
use Rattle.rel_model.specs.Relation.{Relation, has, relation_of, size_limit}
use Rattle.rel_model.specs.Cells.{Cells, no_cells, cells_rect, cells_union, cells_inter, cells_diff, cells_transpose}
use Rattle.rel_model.specs.Operators.{empty, full, single, union, inter, diff, transpose}
use Rattle.rel_model.specs.Trees.{bottom_height}
use Rattle.rel_model.specs.Words.{IsDistinct}
use Rattle.rel_model.specs.Equations.{side_of}
use Rattle.rel_model.specs.Quads.{Keeper, IsKeeper, IsQuad, quad_cells, KeepsQuads, quad_room}
use Rattle.rel_model.specs.Roots.{tree_height, root_cells, relation_room}
use Rattle.rel_model.specs.Worker.{Stands, set_of, Gives, Keeps, MakesAtMost, MissesNothing, FindsRelation, HasCause, operator_room}
use Rattle.rel_model.specs.Quarters.{LiesWithin}
use Rattle.rel_model.proofs.Relations.{relation_of-agree}
use Rattle.rel_model.proofs.OperatorLaws.{relation_of-sizes}
use Rattle.rel_model.proofs.Workers.{stands_some, gives_stands, gives_set}
use Rattle.rel_model.proofs.QuadLaws.{empty_quad, side_of-power}
use Rattle.rel_model.proofs.Heights.{height_over-low, height_over-rows, height_over-cols, height_over-turned}
use Rattle.rel_model.proofs.Rooting.{one_root, has-cells, same_set}
use Rattle.quad_nodes.specs.Finding.{Finds, FindsQuad}
use Rattle.fork_quads.specs.Crew.{worker_of, root_quad, named_as, one_cell}
use Rattle.fork_quads.specs.Forks.{TellsMisses}
use Rattle.fork_quads.specs.CrewLaws.{rows_law, cols_law, row_limit_law, col_limit_law}
use Rattle.fork_quads.proofs.Crewing.{has-root, root_within, root_stands, tree_height-high, is_quad-relation, named_value, keeps_telling, makes_room, makes_tree, tells_cause}

-- ---- sets within sizes
pub none_within : (m n : ℕ) → LiesWithin m n no_cells
none_within m n = record { row = λ i j h. absurd (false≢true h); col = λ i j h. absurd (false≢true h) }

pub rect_within : (m n : ℕ) → LiesWithin m n (cells_rect m n)
rect_within m n = record { row = λ i j h. ltb-true i m (and_parts _ _ h).0; col = λ i j h. ltb-true j n (and_parts _ _ h).1 }

pub one_within : (m n x y : ℕ) → x < m → y < n → LiesWithin m n (one_cell x y)
one_within m n x y a b = record {
  row = λ i j h. let e : i ≡ x = eqb-true i x (and_parts _ _ h).0 in omega arith;
  col = λ i j h. let e : j ≡ y = eqb-true j y (and_parts _ _ h).1 in omega arith;
}

-- a set that has no cell outside two sets within sizes
within_both : (m n : ℕ) (f g h : Cells) → LiesWithin m n f → LiesWithin m n g → ((i j : ℕ) → h i j ≡ true → (f i j || g i j) ≡ true) → LiesWithin m n h
within_both m n f g h v w k = record {
  row = λ i j x. elim (or_cases (f i j) (g i j) (k i j x)) [ inl a ↦ v.row i j a | inr a ↦ w.row i j a ];
  col = λ i j x. elim (or_cases (f i j) (g i j) (k i j x)) [ inl a ↦ v.col i j a | inr a ↦ w.col i j a ];
}

pub union_within : (m n : ℕ) (f g : Cells) → LiesWithin m n f → LiesWithin m n g → LiesWithin m n (cells_union f g)
union_within m n f g v w = within_both m n f g (cells_union f g) v w (λ i j x. x)

pub inter_within : (m n : ℕ) (f g : Cells) → LiesWithin m n f → LiesWithin m n (cells_inter f g)
inter_within m n f g v = record { row = λ i j h. v.row i j (and_parts _ _ h).0; col = λ i j h. v.col i j (and_parts _ _ h).0 }

pub diff_within : (m n : ℕ) (f g : Cells) → LiesWithin m n f → LiesWithin m n (cells_diff f g)
diff_within m n f g v = record { row = λ i j h. v.row i j (and_parts _ _ h).0; col = λ i j h. v.col i j (and_parts _ _ h).0 }

pub transpose_within : (m n : ℕ) (f : Cells) → LiesWithin m n f → LiesWithin n m (cells_transpose f)
transpose_within m n f v = record { row = λ i j h. v.col j i h; col = λ i j h. v.row j i h }

-- ---- their relations
pub empty_is : (m n : ℕ) → relation_of m n no_cells ≡ empty m n
unfolding empty
empty_is m n = refl

pub full_is : (m n : ℕ) → relation_of m n (cells_rect m n) ≡ full m n
unfolding full
full_is m n = relation_of-agree m n _ _ (λ i j a b. and_from _ _ (lt-ltb i m a) (lt-ltb j n b))

pub single_is : (m n x y : ℕ) → relation_of m n (one_cell x y) ≡ single m n x y
unfolding single
single_is m n x y = refl

pub union_is : (m n : ℕ) (r s : Relation) (f g : Cells) → r.rows ≡ m → r.cols ≡ n → has r ≡ f → has s ≡ g → relation_of m n (cells_union f g) ≡ union r s
unfolding union
union_is m n r s f g a b e d = sym (relation_of-sizes r.rows r.cols m n (λ i j. has r i j || has s i j) a b ∙ ap (λ (c : Cells). relation_of m n (λ i j. c i j || has s i j)) e ∙ ap (λ (c : Cells). relation_of m n (λ i j. f i j || c i j)) d)

pub inter_is : (m n : ℕ) (r s : Relation) (f g : Cells) → r.rows ≡ m → r.cols ≡ n → has r ≡ f → has s ≡ g → relation_of m n (cells_inter f g) ≡ inter r s
unfolding inter
inter_is m n r s f g a b e d = sym (relation_of-sizes r.rows r.cols m n (λ i j. has r i j && has s i j) a b ∙ ap (λ (c : Cells). relation_of m n (λ i j. c i j && has s i j)) e ∙ ap (λ (c : Cells). relation_of m n (λ i j. f i j && c i j)) d)

pub diff_is : (m n : ℕ) (r s : Relation) (f g : Cells) → r.rows ≡ m → r.cols ≡ n → has r ≡ f → has s ≡ g → relation_of m n (cells_diff f g) ≡ diff r s
unfolding diff
diff_is m n r s f g a b e d = sym (relation_of-sizes r.rows r.cols m n (λ i j. has r i j && not (has s i j)) a b ∙ ap (λ (c : Cells). relation_of m n (λ i j. c i j && not (has s i j))) e ∙ ap (λ (c : Cells). relation_of m n (λ i j. f i j && not (c i j))) d)

pub transpose_is : (m n : ℕ) (r : Relation) (f : Cells) → r.rows ≡ m → r.cols ≡ n → has r ≡ f → relation_of n m (cells_transpose f) ≡ transpose r
unfolding transpose
transpose_is m n r f a b e = sym (relation_of-sizes r.cols r.rows n m (λ i j. has r j i) b a ∙ ap (λ (c : Cells). relation_of n m (λ i j. c j i)) e)

-- ---- operators on roots
-- an operator on sets is one on relations
pub record Lifts (op : Cells → Cells → Cells) (of : Relation → Relation → Relation) : Type 0 where
  pub within : (m n : ℕ) (f g : Cells) → LiesWithin m n f → LiesWithin m n g → LiesWithin m n (op f g)
  pub is : (m n : ℕ) (r s : Relation) (f g : Cells) → r.rows ≡ m → r.cols ≡ n → has r ≡ f → has s ≡ g → relation_of m n (op f g) ≡ of r s

pub union_lifts : Lifts cells_union union
union_lifts = record { within = union_within; is = union_is }

pub inter_lifts : Lifts cells_inter inter
inter_lifts = record { within = λ m n f g v w. inter_within m n f g v; is = inter_is }

pub diff_lifts : Lifts cells_diff diff
diff_lifts = record { within = λ m n f g v w. diff_within m n f g v; is = diff_is }

-- a set made at the height of a relation's tree
pub made_value : {E : Type 0} (new : Keeper) (m n h : ℕ) (f : Cells) (value : Relation) (a : Result Quad E) (result : Result Rel Lack) → m ≤ size_limit → n ≤ size_limit → LiesWithin m n f → relation_of m n f ≡ value → h ≡ tree_height m n
    → IfOk a (IsQuad new h f) → result ≡ named_as m n a → IfOk result (Gives (worker_of new) m n value)
made_value new m n h f value a result lm ln l v eh i e =
    subst (λ (x : Result Rel Lack). IfOk x (Gives (worker_of new) m n value)) (sym e) (named_value new m n f value a lm ln l v (subst (λ (k : ℕ). IfOk a (IsQuad new k f)) eh i))

-- ---- what stands already
-- the root of a relation that stands is the quad of its set
root_of_value : (w : Keeper) (m n : ℕ) (f : Cells) (value : Relation) (rel : Rel) → LiesWithin m n f → relation_of m n f ≡ value → Gives (worker_of w) m n value rel → IsQuad w (tree_height m n) f (root_quad rel)
root_of_value w m n f value rel l v g =
    let s = gives_stands (worker_of w) m n value rel g in
    record {
      same_height = ap (λ (x : ℕ). tree_height x rel.cols) g.row_size ∙ ap (λ (y : ℕ). tree_height m y) g.col_size;
      stands = root_stands w rel s;
      means = sym (has-root w rel s) ∙ ap has (gives_set (worker_of w) m n value rel g ∙ sym v) ∙ has-cells m n f l;
    }

-- a quad that was found is the root of the relation that stood
named_found : {E : Type 0} (w inside new : Keeper) (m n : ℕ) (value : Relation) (rel : Rel) (a : Result Quad E) → inside ≡ w → Gives (worker_of w) m n value rel → Finds inside new (root_quad rel) a
    → (named_as m n a ≡ Ok rel) × MakesAtMost 0 (worker_of w) (worker_of new) × MissesNothing (worker_of w) (worker_of new)
named_found w inside new m n value rel a v g h = (
  ap (named_as m n) h.answer ∙ ap Ok (λ i. record { rows = sym g.row_size i; cols = sym g.col_size i; root = rel.root }),
  subst (λ (x : Keeper). MakesAtMost 0 (worker_of x) (worker_of new)) v h.reads.keeps.room,
  subst (λ (x : Keeper). MissesNothing (worker_of x) (worker_of new)) v h.reads.misses,
)

-- a set made at the height of a relation's tree is found, where the relation stood
pub made_found : {E : Type 0} (w inside new : Keeper) (m n h : ℕ) (f : Cells) (value : Relation) (a : Result Quad E) (result : Result Rel Lack) → inside ≡ w → LiesWithin m n f → relation_of m n f ≡ value → h ≡ tree_height m n
    → FindsQuad inside new h f a → result ≡ named_as m n a → FindsRelation true (worker_of w) (worker_of new) m n value result
made_found w inside new m n h f value a result v l is eh find e =
    subst (λ (x : Result Rel Lack). FindsRelation true (worker_of w) (worker_of new) m n value x) (sym e)
    (λ lean rel g. named_found w inside new m n value rel a v g
    (find (root_quad rel) (subst (λ (x : Keeper). IsQuad x h f (root_quad rel)) (sym v) (subst (λ (k : ℕ). IsQuad w k f (root_quad rel)) (sym eh) (root_of_value w m n f value rel l is g)))))

-- all that is promised of a relation that is made
pub record MakesRelation (w new : Keeper) (m n : ℕ) (value : Relation) (result : Result Rel Lack) : Type 0 where
  pub gives : IfOk result (Gives (worker_of new) m n value)
  pub stood : FindsRelation true (worker_of w) (worker_of new) m n value result
  pub keeps : Keeps (worker_of w) (worker_of new)
  pub room : MakesAtMost (operator_room m n) (worker_of w) (worker_of new)
  pub tree : MakesAtMost (relation_room 3 m n) (worker_of w) (worker_of new)
  pub cause : HasCause true (worker_of w) (worker_of new) result

-- a quad at the height of a relation's tree, with a set within the relation's sizes, is the root of that relation, so
-- each clause is that of the quad
pub made : {E : Type 0} {w inside new : Keeper} {m n h : ℕ} {f : Cells} {value : Relation} (a : Result Quad E) (result : Result Rel Lack) → inside ≡ w → m ≤ size_limit → n ≤ size_limit → LiesWithin m n f → relation_of m n f ≡ value → h ≡ tree_height m n
    → IfOk a (IsQuad new h f) → FindsQuad inside new h f a → KeepsQuads (quad_room h) inside new → TellsMisses inside new a → result ≡ named_as m n a → MakesRelation w new m n value result
made {w = w} {inside = inside} {new = new} {m = m} {n = n} {h = h} {f = f} {value = value} a result v lm ln l is eh ok find keeps misses e =
    let k : KeepsQuads (quad_room (tree_height m n)) inside new = subst (λ (x : ℕ). KeepsQuads (quad_room x) inside new) eh keeps in
    record {
      gives = made_value new m n h f value a result lm ln l is eh ok e;
      stood = made_found w inside new m n h f value a result v l is eh find e;
      keeps = keeps_telling (quad_room h) w inside new a v keeps misses;
      room = subst (λ (x : Keeper). MakesAtMost (operator_room m n) (worker_of x) (worker_of new)) v (makes_room m n inside new k);
      tree = subst (λ (x : Keeper). MakesAtMost (relation_room 3 m n) (worker_of x) (worker_of new)) v (makes_tree m n inside new k);
      cause = tells_cause w inside new m n a result v misses e;
    }

-- by an operator on the roots of two relations of one type
pub lifted : {E : Type 0} {op : Cells → Cells → Cells} {of : Relation → Relation → Relation} {w inside new : Keeper} {r s : Rel} {p q : Quad} (a : Result Quad E) (result : Result Rel Lack) → Lifts op of → inside ≡ w
    → Stands (worker_of w) r → Stands (worker_of w) s → r.rows ≡ s.rows → r.cols ≡ s.cols → p ≡ root_quad r → q ≡ root_quad s
    → IfOk a (IsQuad new p.height (op (quad_cells inside p) (quad_cells inside q))) → FindsQuad inside new p.height (op (quad_cells inside p) (quad_cells inside q)) a
    → KeepsQuads (quad_room p.height) inside new → TellsMisses inside new a → result ≡ named_as r.rows r.cols a
    → MakesRelation w new r.rows r.cols (of (set_of (worker_of w) r) (set_of (worker_of w) s)) result
lifted {op = op} {of = of} {w = w} {inside = inside} {new = new} {r = r} {s = s} {p = p} {q = q} a result l v hr hs er ec ep eq ok find keeps misses e =
    let f : Cells = root_cells w.view.words r in
    let g : Cells = root_cells w.view.words s in
    let wg : LiesWithin r.rows r.cols g = subst (λ (x : ℕ). LiesWithin x r.cols g) (sym er) (subst (λ (y : ℕ). LiesWithin s.rows y g) (sym ec) (root_within w s hs)) in
    let ef : quad_cells inside p ≡ f = ap (λ (x : Keeper). quad_cells x p) v ∙ ap (quad_cells w) ep in
    let eg : quad_cells inside q ≡ g = ap (λ (x : Keeper). quad_cells x q) v ∙ ap (quad_cells w) eq in
    let set : op (quad_cells inside p) (quad_cells inside q) ≡ op f g = ap (λ (c : Cells). op c (quad_cells inside q)) ef ∙ ap (λ (c : Cells). op f c) eg in
    made a result v (row_limit_law w r hr) (col_limit_law w r hr) (l.within r.rows r.cols f g (root_within w r hr) wg)
    (l.is r.rows r.cols (set_of (worker_of w) r) (set_of (worker_of w) s) f g (rows_law w r hr) (cols_law w r hr) (has-root w r hr) (has-root w s hs)) (ap (λ (x : Quad). x.height) ep)
    (subst (λ (c : Cells). IfOk a (IsQuad new p.height c)) set ok) (subst (λ (c : Cells). FindsQuad inside new p.height c a) set find) keeps misses e

-- by the transposition on the root of a relation
pub transposed : {E : Type 0} {w inside new : Keeper} {r : Rel} {p : Quad} (a : Result Quad E) (result : Result Rel Lack) → inside ≡ w → Stands (worker_of w) r → p ≡ root_quad r
    → IfOk a (IsQuad new p.height (cells_transpose (quad_cells inside p))) → FindsQuad inside new p.height (cells_transpose (quad_cells inside p)) a
    → KeepsQuads (quad_room p.height) inside new → TellsMisses inside new a → result ≡ named_as r.cols r.rows a
    → MakesRelation w new r.cols r.rows (transpose (set_of (worker_of w) r)) result
transposed {w = w} {inside = inside} {new = new} {r = r} {p = p} a result v hr ep ok find keeps misses e =
    let f : Cells = root_cells w.view.words r in
    let ef : quad_cells inside p ≡ f = ap (λ (x : Keeper). quad_cells x p) v ∙ ap (quad_cells w) ep in
    made a result v (col_limit_law w r hr) (row_limit_law w r hr) (transpose_within r.rows r.cols f (root_within w r hr))
    (transpose_is r.rows r.cols (set_of (worker_of w) r) f (rows_law w r hr) (cols_law w r hr) (has-root w r hr)) (ap (λ (x : Quad). x.height) ep ∙ sym (height_over-turned bottom_height r.rows r.cols))
    (subst (λ (c : Cells). IfOk a (IsQuad new p.height (cells_transpose c))) ef ok) (subst (λ (c : Cells). FindsQuad inside new p.height (cells_transpose c) a) ef find) keeps misses e

-- the empty relation has root 0
pub nothing_value : (w : Keeper) (m n : ℕ) → IsKeeper w → m ≤ size_limit → n ≤ size_limit → Gives (worker_of w) m n (empty m n) (record { rows = m; cols = n; root = 0 })
nothing_value w m n i lm ln =
    subst (λ (x : Relation). Gives (worker_of w) m n x (record { rows = m; cols = n; root = 0 })) (empty_is m n)
    (is_quad-relation w m n no_cells (record { height = tree_height m n; name = 0 }) lm ln (none_within m n) (empty_quad w (tree_height m n) 0 i (height_over-low bottom_height m n) (tree_height-high m n) refl))

-- ---- roots compared
-- of two relations of one type the roots are equal exactly where the relations are
pub same_decides : (w inside : Keeper) (r s : Rel) (t : Bool) → inside ≡ w → IsKeeper inside → Stands (worker_of w) r → Stands (worker_of w) s → r.rows ≡ s.rows → r.cols ≡ s.cols → t ≡ eqb r.root s.root
    → IsTrue t ↔ (set_of (worker_of w) r ≡ set_of (worker_of w) s)
same_decides w inside r s t v i hr hs er ec e =
    let k = one_root w.view.words (subst (λ (x : Keeper). IsDistinct x.view.words) v i.of.canonical) r s (set_of (worker_of w) r) (set_of (worker_of w) s) er ec (stands_some (worker_of w) r hr) (stands_some (worker_of w) s hs) in (
      (λ is. k.0 (eqb-true r.root s.root (sym e ∙ is))),
      (λ is. e ∙ eq-eqb r.root s.root (k.1 is)),
    )

-- the root is 0 exactly where the relation is empty
pub empty_decides : (w inside : Keeper) (r : Rel) (t : Bool) → inside ≡ w → IsKeeper inside → Stands (worker_of w) r → t ≡ eqb r.root 0 → IsTrue t ↔ (set_of (worker_of w) r ≡ empty r.rows r.cols)
empty_decides w inside r t v i hr e =
    let i' : IsKeeper w = subst IsKeeper v i in
    let k = one_root w.view.words i'.of.canonical r (record { rows = r.rows; cols = r.cols; root = 0 }) (set_of (worker_of w) r) (empty r.rows r.cols) refl refl (stands_some (worker_of w) r hr)
    (nothing_value w r.rows r.cols i' (row_limit_law w r hr) (col_limit_law w r hr)).means in (
      (λ is. k.0 (eqb-true r.root 0 (sym e ∙ is))),
      (λ is. e ∙ eq-eqb r.root 0 (k.1 is)),
    )

-- roots meet exactly where the intersection of their relations is not empty
pub meets_decides : (w inside : Keeper) (r s : Rel) (p q : Quad) (t : Bool) → inside ≡ w → Stands (worker_of w) r → Stands (worker_of w) s → r.rows ≡ s.rows → r.cols ≡ s.cols → p ≡ root_quad r → q ≡ root_quad s
    → (t ≡ false) ↔ (cells_inter (quad_cells inside p) (quad_cells inside q) ≡ no_cells) → (t ≡ false) ↔ (inter (set_of (worker_of w) r) (set_of (worker_of w) s) ≡ empty r.rows r.cols)
meets_decides w inside r s p q t v hr hs er ec ep eq h =
    let f : Cells = root_cells w.view.words r in
    let g : Cells = root_cells w.view.words s in
    let ef : quad_cells inside p ≡ f = ap (λ (x : Keeper). quad_cells x p) v ∙ ap (quad_cells w) ep in
    let eg : quad_cells inside q ≡ g = ap (λ (x : Keeper). quad_cells x q) v ∙ ap (quad_cells w) eq in
    let both : cells_inter (quad_cells inside p) (quad_cells inside q) ≡ cells_inter f g = ap (λ (c : Cells). cells_inter c (quad_cells inside q)) ef ∙ ap (λ (c : Cells). cells_inter f c) eg in
    let is = inter_is r.rows r.cols (set_of (worker_of w) r) (set_of (worker_of w) s) f g (rows_law w r hr) (cols_law w r hr) (has-root w r hr) (has-root w s hs) in
    let within : LiesWithin r.rows r.cols (cells_inter f g) = inter_within r.rows r.cols f g (root_within w r hr) in (
      (λ z. sym is ∙ ap (relation_of r.rows r.cols) (sym both ∙ h.0 z) ∙ empty_is r.rows r.cols),
      (λ z. h.1 (both ∙ same_set r.rows r.cols (cells_inter f g) no_cells within (none_within r.rows r.cols) (is ∙ z ∙ sym (empty_is r.rows r.cols)))),
    )

-- ---- cells
-- a cell within the sizes lies within the square
pub cell_in : (w : Keeper) (r : Rel) (q : Quad) (i j : ℕ) → Stands (worker_of w) r → q ≡ root_quad r → i < r.rows → j < r.cols → (i < side_of q.height) × (j < side_of q.height)
cell_in w r q i j h e a b =
    let l = height_over-low bottom_height r.rows r.cols in
    let p = height_over-rows bottom_height r.rows r.cols (row_limit_law w r h) in
    let c = height_over-cols bottom_height r.rows r.cols (col_limit_law w r h) in
    let s : side_of q.height ≡ 2 ^ tree_height r.rows r.cols = ap (λ (x : Quad). side_of x.height) e ∙ side_of-power (tree_height r.rows r.cols) l in
    (omega arith, omega arith)

-- it is in the relation where it is in the set of the root
pub has_value : (w inside : Keeper) (r : Rel) (q : Quad) (i j : ℕ) (t : Bool) → inside ≡ w → Stands (worker_of w) r → q ≡ root_quad r → t ≡ quad_cells inside q i j → t ≡ has (set_of (worker_of w) r) i j
has_value w inside r q i j t v h e d = d ∙ ap (λ (x : Keeper). quad_cells x q i j) v ∙ ap (λ (x : Quad). quad_cells w x i j) e ∙ ap (λ (c : Cells). c i j) (sym (has-root w r h))
