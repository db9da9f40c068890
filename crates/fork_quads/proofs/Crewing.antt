-- A keeper of quads as a worker: what its calls keep, count and give there.
use Rattle.std.proofs.Common.{◌≡◌, ◌<◌, ◌≤◌, ◌-◌, ◌^◌, max, ℕ, true, [], Result, Ok, Err, IfOk, Some, refl, sym, ap, subst, ◌∙◌, inl, inr, arith}
use Rattle.std.proofs.lemmas.Bool.{cases_lt}
use Rattle.std.specs.Prelude.{IsSome, unwrap_or}
use Rattle.rel_model.specs.declared.Rel.{Rel}
use Rattle.rel_model.specs.declared.Quad.{Quad}
use Rattle.rel_model.specs.declared.Lack.{Lack}
use Rattle.rel_model.specs.Relation.{Relation, has, relation_of, size_limit}
use Rattle.rel_model.specs.Cells.{Cells, no_cells}
use Rattle.rel_model.specs.Trees.{bottom_height, top_height, cells, stands}
use Rattle.rel_model.specs.Equations.{depth_of, side_of}
use Rattle.rel_model.specs.Views.{Table}
use Rattle.rel_model.specs.Quads.{Keeper, IsKeeper, QuadStands, IsQuad, quad_cells, KeepsQuads, ReadsQuads, Counts, quad_room}
use Rattle.rel_model.specs.Roots.{tree_height, relation_room, root_cells}
use Rattle.rel_model.specs.Quarters.{LiesWithin}
use Rattle.rel_model.specs.Worker.{Stands, set_of, HasQuad, quad_set, Gives, GivesQuad, Keeps, HasCause, MakesAtMost, operator_room}
use Rattle.rel_model.proofs.QuadLaws.{quad_stays, quad_cells-stay, side_of-power}
use Rattle.rel_model.proofs.Rooms.{quad_room-operator}
use Rattle.rel_model.proofs.Rooting.{IsRooted, relation_in-rooted, rooted-relation_in, relation_in-stays, has-cells}
use Rattle.rel_model.proofs.Heights.{height_over-low, height_over-high, height_over-rows, height_over-cols, height_over-is}
use Rattle.fork_quads.specs.Crew.{quad_in, house_of, worker_of, root_quad, named_as, told_as}
use Rattle.fork_quads.specs.Forks.{TellsMisses}
use Rattle.fork_quads.specs.CrewLaws.{quad_in-named, quad_in-is}

-- a house is that of one table
pub house_of-injective : (a b : Table) → house_of a ≡ house_of b → a ≡ b
house_of-injective a b e =
    let h : a.house ≡ b.house = cc in
    let m : a.bits ≡ b.bits = cc in
    let n : a.seats ≡ b.seats = cc in
    λ t. record { house = h t; bits = m t; seats = n t }

-- ---- heights
-- a height from the leaves' on whose side is at least the greater of both sizes, and half its side is not, is that of the tree
pub tree_height-found : (m n most h : ℕ) → m ≤ size_limit → n ≤ size_limit → most ≡ max m n → 3 ≤ h → most ≤ 2 ^ h → (3 < h → 2 ^ (h - 1) < most) → h ≡ tree_height m n
unfolding bottom_height
tree_height-found m n most h a b e l u k =
    sym (height_over-is 3 m n h a b l (omega arith) (omega arith) (λ o. let p : 2 ^ (h - 1) < most = k o in elim (cases_lt (2 ^ (h - 1)) m) [ inl x ↦ inl x | inr x ↦ inr (omega arith) ]))

pub tree_height-high : (m n : ℕ) → tree_height m n ≤ top_height
unfolding bottom_height top_height
tree_height-high m n = height_over-high 3 m n (omega arith)

-- the height of a tree is that of a square, within which both sizes lie
pub record Fits (m n h : ℕ) : Type 0 where
  pub low : bottom_height ≤ h
  pub high : h ≤ top_height
  pub row : m ≤ side_of h
  pub col : n ≤ side_of h

pub tree_fits : (m n h : ℕ) → m ≤ size_limit → n ≤ size_limit → h ≡ tree_height m n → Fits m n h
tree_fits m n h a b e = subst (Fits m n) (sym e) (
    let l = height_over-low bottom_height m n in
    let p = height_over-rows bottom_height m n a in
    let q = height_over-cols bottom_height m n b in
    let s = side_of-power (tree_height m n) l in
    record { low = l; high = tree_height-high m n; row = omega arith; col = omega arith })

-- ---- quads
-- a quad that the worker has stands
pub has_quad-stands : (w : Keeper) (q : Quad) → HasQuad (worker_of w) q → QuadStands w q
has_quad-stands w q h = let s = quad_in-named w.view.words q h in record { low = s.low; high = s.high; standing = s.standing }

-- a quad that stands is one that the worker has, with its set
pub stands-quad_in : (w : Keeper) (q : Quad) → IsKeeper w → QuadStands w q → quad_in w.view.words q ≡ Some (quad_cells w q)
stands-quad_in w q i s = quad_in-is w.view.words q.height q.name i.of.canonical s.low s.high s.standing

pub stands-has_quad : (w : Keeper) (q : Quad) → IsKeeper w → QuadStands w q → HasQuad (worker_of w) q
stands-has_quad w q i s = subst IsSome (sym (stands-quad_in w q i s)) refl

pub quad_set-cells : (w : Keeper) (q : Quad) → IsKeeper w → QuadStands w q → quad_set (worker_of w) q ≡ quad_cells w q
quad_set-cells w q i s = ap (λ o. unwrap_or o no_cells) (stands-quad_in w q i s)

pub is_quad-gives : (w : Keeper) (h : ℕ) (f : Cells) (q : Quad) → IsKeeper w → IsQuad w h f q → GivesQuad (worker_of w) h f q
is_quad-gives w h f q i s = record { means = stands-quad_in w q i s.stands ∙ ap (λ (c : Cells). Some c) s.means; same_height = s.same_height }

-- ---- relations
-- the set of a relation that stands
pub set_of-root : (w : Keeper) (r : Rel) → Stands (worker_of w) r → set_of (worker_of w) r ≡ relation_of r.rows r.cols (root_cells w.view.words r)
set_of-root w r h = ap (λ o. unwrap_or o (record { rows = 0; cols = 0; pairs = [] })) (rooted-relation_in w.view.words r (relation_in-rooted w.view.words r h))

-- its membership is the set of its root
pub has-root : (w : Keeper) (r : Rel) → Stands (worker_of w) r → has (set_of (worker_of w) r) ≡ root_cells w.view.words r
has-root w r h = ap has (set_of-root w r h) ∙ has-cells r.rows r.cols (root_cells w.view.words r) (relation_in-rooted w.view.words r h).within

-- its root stands, at the height of its tree
pub root_stands : (w : Keeper) (r : Rel) → Stands (worker_of w) r → QuadStands w (root_quad r)
root_stands w r h = record {
  low = height_over-low bottom_height r.rows r.cols;
  high = tree_height-high r.rows r.cols;
  standing = (relation_in-rooted w.view.words r h).standing;
}

-- the same in the words of a call: of the keeper inside a worker, whose root was found
pub stands_root : (w inside : Keeper) (r : Rel) (q : Quad) → inside ≡ w → Stands (worker_of w) r → q ≡ root_quad r → QuadStands inside q
stands_root w inside r q v h e = subst (λ (x : Keeper). QuadStands x q) (sym v) (subst (QuadStands w) (sym e) (root_stands w r h))

pub root_within : (w : Keeper) (r : Rel) → Stands (worker_of w) r → LiesWithin r.rows r.cols (root_cells w.view.words r)
root_within w r h = (relation_in-rooted w.view.words r h).within

-- a quad of that height within the sizes is the root of a relation
pub is_quad-relation : (w : Keeper) (m n : ℕ) (f : Cells) (q : Quad) → m ≤ size_limit → n ≤ size_limit → LiesWithin m n f → IsQuad w (tree_height m n) f q → Gives (worker_of w) m n (relation_of m n f) (record { rows = m; cols = n; root = q.name })
is_quad-relation w m n f q a b l s =
    let e : cells w.view.words (depth_of (tree_height m n)) q.name ≡ f = ap (λ (h : ℕ). cells w.view.words (depth_of h) q.name) (sym s.same_height) ∙ s.means in
    let r : IsRooted w.view.words (record { rows = m; cols = n; root = q.name }) = record {
      row_limit = a;
      col_limit = b;
      standing = subst (λ (h : ℕ). stands w.view.words (depth_of h) q.name ≡ true) s.same_height s.stands.standing;
      within = subst (λ (c : Cells). LiesWithin m n c) (sym e) l;
    } in
    record { means = rooted-relation_in w.view.words _ r ∙ ap (λ (c : Cells). Some (relation_of m n c)) e; row_size = refl; col_size = refl }

-- ---- what calls keep
-- a count never falls
pub counts_grow : {T E : Type 0} (old new : Keeper) (r : Result T E) → IsKeeper old → Counts old new r → old.misses ≤ new.misses
counts_grow old new (Ok x) i c = omega (arith, c)
counts_grow old new (Err e) i c = let b = i.counted in omega (arith, c)

-- all that stood stands
pub keeps_worker : (most : ℕ) (old new : Keeper) → KeepsQuads most old new → old.misses ≤ new.misses → Keeps (worker_of old) (worker_of new)
keeps_worker most old new k m = record {
  same = λ r h. relation_in-stays old.view.words new.view.words r k.seen k.before.of.canonical k.after.of.canonical h;
  same_quads = λ q h.
      let s = has_quad-stands old q h in
      stands-quad_in new q k.after (quad_stays most old new q k s) ∙ ap (λ (c : Cells). Some c) (quad_cells-stay most old new q k s) ∙ sym (stands-quad_in old q k.before s);
  house = ap house_of k.table;
  spare = k.spare;
  misses = m;
  made = k.grows;
}

pub keeps_counting : {T E : Type 0} (most : ℕ) (w old new : Keeper) (r : Result T E) → old ≡ w → KeepsQuads most old new → Counts old new r → Keeps (worker_of w) (worker_of new)
keeps_counting most w old new r v k c = subst (λ (x : Keeper). Keeps (worker_of x) (worker_of new)) v (keeps_worker most old new k (counts_grow old new r k.before c))

-- so with calls that may miss several places
pub tells_grow : {T E : Type 0} (old new : Keeper) (r : Result T E) → IsKeeper old → TellsMisses old new r → old.misses ≤ new.misses
tells_grow old new (Ok x) i c = omega (arith, c)
tells_grow old new (Err e) i c = let b = i.counted in omega (arith, c)

pub keeps_telling : {T E : Type 0} (most : ℕ) (w old new : Keeper) (r : Result T E) → old ≡ w → KeepsQuads most old new → TellsMisses old new r → Keeps (worker_of w) (worker_of new)
keeps_telling most w old new r v k c = subst (λ (x : Keeper). Keeps (worker_of x) (worker_of new)) v (keeps_worker most old new k (tells_grow old new r k.before c))

pub keeps_reading : (w old new : Keeper) → old ≡ w → ReadsQuads old new → Keeps (worker_of w) (worker_of new)
keeps_reading w old new v r = subst (λ (x : Keeper). Keeps (worker_of x) (worker_of new)) v (keeps_worker 0 old new r.keeps (omega (arith, r.misses)))

-- room
pub makes_room : (m n : ℕ) (old new : Keeper) → KeepsQuads (quad_room (tree_height m n)) old new → MakesAtMost (operator_room m n) (worker_of old) (worker_of new)
unfolding Rattle.rel_model.specs.Roots.height_over
makes_room m n old new k = let a = k.room in let b = quad_room-operator m n in omega arith

pub makes_tree : (m n : ℕ) (old new : Keeper) → KeepsQuads (quad_room (tree_height m n)) old new → MakesAtMost (relation_room 3 m n) (worker_of old) (worker_of new)
unfolding bottom_height
makes_tree m n old new k = k.room

-- ---- answers
pub named_value : {E : Type 0} (w : Keeper) (m n : ℕ) (f : Cells) (value : Relation) (a : Result Quad E) → m ≤ size_limit → n ≤ size_limit → LiesWithin m n f → relation_of m n f ≡ value → IfOk a (IsQuad w (tree_height m n) f)
    → IfOk (named_as m n a) (Gives (worker_of w) m n value)
named_value w m n f value (Err e) r c l v h = tt
named_value w m n f value (Ok q) r c l v h = subst (λ (x : Relation). Gives (worker_of w) m n x (record { rows = m; cols = n; root = q.name })) v (is_quad-relation w m n f q r c l h)

pub named_tells : {E : Type 0} (old new : Keeper) (m n : ℕ) (a : Result Quad E) → TellsMisses old new a → HasCause true (worker_of old) (worker_of new) (named_as m n a)
named_tells old new m n (Err e) c = record { full = λ h. c; no_memory = λ l h. absurd (cc); done = tt; wanting = λ h. absurd (cc) }
named_tells old new m n (Ok q) c = record { full = λ h. absurd (cc); no_memory = λ l h. absurd (cc); done = c; wanting = λ h. absurd (cc) }

pub told_value : {E : Type 0} (w : Keeper) (h : ℕ) (f : Cells) (a : Result Quad E) → IsKeeper w → IfOk a (IsQuad w h f) → IfOk (told_as a) (GivesQuad (worker_of w) h f)
told_value w h f (Err e) i x = tt
told_value w h f (Ok q) i x = is_quad-gives w h f q i x

-- of a worker whose keeper was found inside
pub tells_cause : {E : Type 0} (w inside new : Keeper) (m n : ℕ) (a : Result Quad E) (result : Result Rel Lack) → inside ≡ w → TellsMisses inside new a → result ≡ named_as m n a → HasCause true (worker_of w) (worker_of new) result
tells_cause w inside new m n a result v t e =
    subst (λ (x : Keeper). HasCause true (worker_of x) (worker_of new) result) v (subst (HasCause true (worker_of inside) (worker_of new)) (sym e) (named_tells inside new m n a t))

-- ---- roots of one type
pub one_level : (r s : Rel) (p q : Quad) → r.rows ≡ s.rows → r.cols ≡ s.cols → p ≡ root_quad r → q ≡ root_quad s → q.height ≡ p.height
one_level r s p q er ec ep eq =
    ap (λ (x : Quad). x.height) eq ∙ ap (λ (m : ℕ). tree_height m s.cols) (sym er) ∙ ap (λ (n : ℕ). tree_height r.rows n) (sym ec) ∙ sym (ap (λ (x : Quad). x.height) ep)

pub root_room : (w inside new : Keeper) (r : Rel) (q : Quad) → inside ≡ w → q ≡ root_quad r → KeepsQuads (quad_room q.height) inside new → MakesAtMost (operator_room r.rows r.cols) (worker_of w) (worker_of new)
root_room w inside new r q v e k =
    subst (λ (x : Keeper). MakesAtMost (operator_room r.rows r.cols) (worker_of x) (worker_of new)) v (makes_room r.rows r.cols inside new (subst (λ (x : Quad). KeepsQuads (quad_room x.height) inside new) e k))

pub root_tree : (w inside new : Keeper) (r : Rel) (q : Quad) → inside ≡ w → q ≡ root_quad r → KeepsQuads (quad_room q.height) inside new → MakesAtMost (relation_room 3 r.rows r.cols) (worker_of w) (worker_of new)
root_tree w inside new r q v e k =
    subst (λ (x : Keeper). MakesAtMost (relation_room 3 r.rows r.cols) (worker_of x) (worker_of new)) v (makes_tree r.rows r.cols inside new (subst (λ (x : Quad). KeepsQuads (quad_room x.height) inside new) e k))
